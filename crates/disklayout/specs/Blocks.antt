-- Document 01's own: the 128 node blocks, the two table areas, and the places that each may hold (refusal 16); and document 02's running address.
use Rattle.std.specs.Prelude.{Bool, ◌&&◌, not, cond, ℕ, zero, suc, ◌+◌, ◌-◌, ◌*◌, ◌/◌, eqb, leb, ltb}
use Rattle.std.proofs.Math.Option.{Option, some, none}
use Rattle.base.specs.Maps.{is_some, flagged}
use Rattle.disklayout.specs.declared.Device.{Device}
use Rattle.disklayout.specs.declared.Location.{Location}
use Rattle.disklayout.specs.Layout.{node_block_size, min_node_block_index, indirection_table_max_length, indirection_table1_addr}
use Rattle.disklayout.specs.Layout.{indirection_table2_addr, valid_node_addr, valid_node_location, valid_indirection_table_location}

abbrev pub first_node_addr : Device → ℕ
first_node_addr w = node_block_size w * min_node_block_index w

-- the address of node block k
abbrev pub node_block_addr : Device → ℕ → ℕ
node_block_addr w k = first_node_addr w + k * node_block_size w

-- document 02's running address, which a walk over the blocks keeps: the first node address at block 0, and a block's size more at each block
-- after it. It is the first node address plus block number times block size (`running_addr_lem`, proofs/RunningAddr.antt)
unfoldable pub running_addr : Device → ℕ → ℕ
running_addr w zero = first_node_addr w
running_addr w (suc k) = running_addr w k + node_block_size w

-- where the last of the 128 blocks ends
abbrev pub node_blocks_end : Device → ℕ
node_blocks_end w = node_block_addr w 128

-- the address of table area k, 0 for area 1 and 1 for area 2
abbrev pub table_area_addr : Device → ℕ → ℕ
table_area_addr w k = indirection_table1_addr w + k * indirection_table_max_length w

-- the number, 0 to 127, of the block that has the address, or none
unfoldable pub node_block_of : Device → ℕ → Option ℕ
node_block_of w a =
    flagged (valid_node_addr w a && ltb (a / node_block_size w - min_node_block_index w) 128)
    (a / node_block_size w - min_node_block_index w)

-- 0 for table area 1, 1 for table area 2, or none
unfoldable pub table_area_of : Device → ℕ → Option ℕ
table_area_of w a =
    cond (eqb a (indirection_table1_addr w)) (some 0)
    (cond (eqb a (indirection_table2_addr w)) (some 1) none)

-- the places of node block k
unfoldable pub node_place_in : Device → ℕ → Location → Bool
node_place_in w k l =
    ltb k 128 && eqb l.addr (node_block_addr w k) && valid_node_location w l && not (eqb l.len 0)

-- how long a place of a node block may be: at the block's address the length decides (`place_at`, proofs/RunningAddr.antt)
unfoldable pub node_place_length : Device → ℕ → Bool
node_place_length w n = leb n (node_block_size w) && not (eqb n 0)

-- the places of table area k
unfoldable pub table_place_in : Device → ℕ → Location → Bool
table_place_in w k l = ltb k 2 && eqb l.addr (table_area_addr w k) && valid_indirection_table_location w l

-- what refusal 16 allows of a node's place
unfoldable pub node_place : Device → Location → Bool
node_place w l = is_some (node_block_of w l.addr) && valid_node_location w l && not (eqb l.len 0)
