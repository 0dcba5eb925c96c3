-- Document 02, Q-13: the table of four sets, and so of a number.
use Rattle.std.specs.Prelude.{ℕ, ◌+◌, Bool, ◌&&◌, cond, true, ltb, set, Result}
use Rattle.std.specs.Result.{result_unwrap_or}
use Rattle.base.specs.Bits.{digit_at}
use Rattle.disklayout.specs.Blocks.{node_block_addr}
use Rattle.disklayout.specs.Device.{device_of, made}
use Rattle.disklayout.specs.Calls.{answered_when}
use Rattle.disklayout.specs.declared.Location.{Location}
use Rattle.disklayout.specs.declared.Refused.{Refused}
use Rattle.sectortype.specs.Form.{empty_table, with_entry, zero_entry, zero_succs}
use Rattle.sectortype.specs.declared.Entry.{Entry}
use Rattle.sectortype.specs.declared.Succs.{Succs}
use Rattle.sectortype.specs.declared.Table.{Table}
use Rattle.smalltable.specs.Numbers.{list_at, small_sets, small_tables}
use Rattle.smalltable.specs.declared.Sets.{Sets}

-- the list with r behind it, if b says so
unfoldable pub listed_if : Bool → ℕ → Succs → Succs
listed_if b r s = cond b (record { count = s.count + 1; at = set s.at s.count r }) s

-- the references in the set l, ascending
unfoldable pub list_of : ℕ → Succs
list_of l = listed_if (digit_at l 2) 2 (listed_if (digit_at l 1) 1 (listed_if (digit_at l 0) 0 zero_succs))

-- reference r lies in node block r of the device, length 4,096, whichever references are allocated
abbrev pub small_loc : ℕ → ℕ → Location
small_loc d r = record { addr = node_block_addr (device_of d) r; len = 4096 }

-- the entry of reference r: allocated, with the list l, or not
unfoldable pub small_entry : ℕ → Bool → ℕ → ℕ → Entry
small_entry d used l r = cond used (record { allocated = true; located = true; loc = small_loc d r; succs = list_of l }) zero_entry

-- the entry that the four sets give to reference r
abbrev pub entry_in : ℕ → Sets → ℕ → Entry
entry_in d s r = small_entry d (digit_at s.allocated r) (list_at s r) r

-- and to a table, for 0, 1 and 2
unfoldable pub table_of : ℕ → Sets → Table
table_of d s = with_entry (with_entry (with_entry empty_table 0 (entry_in d s 0)) 1 (entry_in d s 1)) 2 (entry_in d s 2)

-- THE CALL

-- past 545, and on a device above 2, there is none
abbrev pub is_numbered : ℕ → ℕ → Bool
is_numbered d n = made d && ltb n small_tables

unfoldable pub small_table : ℕ → ℕ → Result Table Refused
small_table d n = answered_when (is_numbered d n) (table_of d (small_sets n))

-- for whoever takes zeros for a table that there is not
abbrev pub numbered_table : ℕ → ℕ → Table
numbered_table d n = result_unwrap_or (small_table d n) empty_table
