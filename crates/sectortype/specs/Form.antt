-- The records' one written form, their empty values, and a place of one set. To antt an array is a list of any length, so a form tests its length too.
use Rattle.std.specs.Prelude.{ℕ, Bool, ◌&&◌, ◌||◌, false, not, List, [], eqb, leb, ltb, get_or, length, replicate, set}
use Rattle.base.specs.Scan.{all_below, count_below}
use Rattle.disklayout.specs.Calls.{zero_loc}
use Rattle.disklayout.specs.declared.Location.{Location}
use Rattle.sectortype.specs.HighLow.{contents_zero, zero_contents}
use Rattle.sectortype.specs.declared.Contents.{Contents}
use Rattle.sectortype.specs.declared.Entry.{Entry}
use Rattle.sectortype.specs.declared.Node.{Node}
use Rattle.sectortype.specs.declared.Nodes.{Nodes}
use Rattle.sectortype.specs.declared.Slot.{Slot}
use Rattle.sectortype.specs.declared.Succs.{Succs}
use Rattle.sectortype.specs.declared.Table.{Table}

-- WHAT A READ PAST THE END WOULD GIVE (an array in it is []), AND THE ZEROS OF THE WRITTEN FORM

abbrev pub zero_succs : Succs
zero_succs = record { count = 0; at = replicate 8 0 }

-- a node that lists nothing
abbrev pub leaf_node : Contents → Node
leaf_node c = record { contents = c; succs = zero_succs }

abbrev pub zero_node : Node
zero_node = leaf_node zero_contents

abbrev pub zero_entry : Entry
zero_entry = record { allocated = false; located = false; loc = zero_loc; succs = zero_succs }

abbrev pub zero_slot : Slot
zero_slot = record { present = false; node = zero_node }

abbrev pub empty_table : Table
empty_table = record { count = 0; entries = replicate 64 zero_entry }

abbrev pub empty_nodes : Nodes
empty_nodes = record { count = 0; slots = replicate 64 zero_slot }

abbrev pub default_succs : Succs
default_succs = record { count = 0; at = [] }

abbrev pub default_entry : Entry
default_entry = record { allocated = false; located = false; loc = zero_loc; succs = default_succs }

abbrev pub default_node : Node
default_node = record { contents = zero_contents; succs = default_succs }

abbrev pub default_slot : Slot
default_slot = record { present = false; node = default_node }

-- A PLACE OF A RECORD

abbrev pub succ_at : Succs → ℕ → ℕ
succ_at s k = get_or s.at k 0

abbrev pub entry_at : Table → ℕ → Entry
entry_at t r = get_or t.entries r default_entry

abbrev pub slot_at : Nodes → ℕ → Slot
slot_at m r = get_or m.slots r default_slot

abbrev pub allocated_at : List Entry → ℕ → Bool
allocated_at l r = (get_or l r default_entry).allocated

abbrev pub present_at : List Slot → ℕ → Bool
present_at l r = (get_or l r default_slot).present

-- THE WRITTEN FORM

-- place k of a list of n holds r
abbrev pub succ_ok : ℕ → ℕ → ℕ → Bool
succ_ok n k r = (ltb k n && leb r 63) || (not (ltb k n) && eqb r 0)

-- every place holds 0
unfoldable pub places_zero : Succs → Bool
places_zero s = all_below (λ k. eqb (succ_at s k) 0) 8

unfoldable pub succs_form : Succs → Bool
succs_form s = eqb (length s.at) 8 && (leb s.count 8 && all_below (λ k. succ_ok s.count k (succ_at s k)) 8)

abbrev pub succs_zero : Succs → Bool
succs_zero s = eqb s.count 0 && succs_form s

abbrev pub loc_zero : Location → Bool
loc_zero l = eqb l.addr 0 && eqb l.len 0

abbrev pub node_form : Node → Bool
node_form n = succs_form n.succs

abbrev pub node_zero : Node → Bool
node_zero n = contents_zero n.contents && succs_zero n.succs

-- a location that is absent is zeros; a reference that is not allocated has no location and no list
abbrev pub entry_form : Entry → Bool
entry_form e =
    succs_form e.succs && (e.located || loc_zero e.loc) && (e.allocated || (not e.located && eqb e.succs.count 0))

unfoldable pub table_form : Table → Bool
table_form t =
    eqb (length t.entries) 64 && (eqb t.count (count_below (allocated_at t.entries) 64) && all_below (λ r. entry_form (entry_at t r)) 64)

abbrev pub slot_form : Slot → Bool
slot_form s = node_form s.node && (s.present || node_zero s.node)

unfoldable pub nodes_form : Nodes → Bool
nodes_form m =
    eqb (length m.slots) 64 && (eqb m.count (count_below (present_at m.slots) 64) && all_below (λ r. slot_form (slot_at m r)) 64)

-- ONE PLACE SET

abbrev pub table_of : List Entry → Table
table_of l = record { count = count_below (allocated_at l) 64; entries = l }

abbrev pub nodes_of : List Slot → Nodes
nodes_of l = record { count = count_below (present_at l) 64; slots = l }

unfoldable pub with_entry : Table → ℕ → Entry → Table
with_entry t r e = table_of (set t.entries r e)

unfoldable pub with_slot : Nodes → ℕ → Slot → Nodes
with_slot m r s = nodes_of (set m.slots r s)
