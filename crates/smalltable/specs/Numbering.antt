-- Document 02, Q-13: what it is for a table to be the table of exactly one number.
use Rattle.std.specs.Prelude.{ℕ, ◌<◌, ◌≡◌, Ok}
use Rattle.sectortype.specs.declared.Table.{Table}
use Rattle.smalltable.specs.Numbers.{small_tables}
use Rattle.smalltable.specs.Tables.{numbered_table, small_table}

-- one number below 546 has the table, and no other
pub record NumberedOnce (d : ℕ) (t : Table) : Type 0 where
  pub number : ℕ
  pub below : number < small_tables
  pub its : small_table d number ≡ Ok t
  pub only : (n : ℕ) → n < small_tables → (numbered_table d n) ≡ t → n ≡ number
