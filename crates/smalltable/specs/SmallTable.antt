-- Document 02, Q-13: what a complete table on references 0 to 2 is. Nothing here speaks of numbers.
use Rattle.std.specs.Prelude.{ℕ, ◌+◌, ◌<◌, true, ◌≡◌}
use Rattle.disklayout.specs.Blocks.{node_block_addr}
use Rattle.disklayout.specs.Device.{device_of}
use Rattle.sectortype.specs.Form.{entry_at, succ_at, table_form}
use Rattle.sectortype.specs.Graph.{allocated_in, has_succ, located_in}
use Rattle.sectortype.specs.declared.Succs.{Succs}
use Rattle.sectortype.specs.declared.Table.{Table}

-- strictly, so that no reference stands twice
abbrev pub Ascending : Succs → Type 0
Ascending s = (k : ℕ) → k + 1 < s.count → succ_at s k < succ_at s (k + 1)

-- in its written form; the root is allocated, and nothing above 2; each allocated reference r is located, in block r at length 4,096; its
-- list ascends and has allocated references alone
pub record SmallTable (d : ℕ) (t : Table) : Type 0 where
  pub form : table_form t ≡ true
  pub root : allocated_in t 0 ≡ true
  pub small : (r : ℕ) → allocated_in t r ≡ true → r < 3
  pub located : (r : ℕ) → allocated_in t r ≡ true → located_in t r ≡ true
  pub placed : (r : ℕ) → allocated_in t r ≡ true → (entry_at t r).loc ≡ record { addr = node_block_addr (device_of d) r; len = 4096 }
  pub ascending : (r : ℕ) → allocated_in t r ≡ true → Ascending (entry_at t r).succs
  pub within : (r q : ℕ) → allocated_in t r ≡ true → has_succ (entry_at t r).succs q ≡ true → allocated_in t q ≡ true
