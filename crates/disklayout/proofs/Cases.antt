-- The starred cases of document 01's "Device 0 at its edges", JournalPosAdd at the edge of 64 bits, what a place is, and which block has
-- an address: shown from the definitions by one statement over one list. Then 01's line for each device, as `placemap` prints it. Assumes
-- nothing.
use mathlib.Core.Path.{◌≡◌, refl}
use mathlib.Core.Bool.{Bool, true, false}
use mathlib.Core.List.{List, [], ◌∷◌, map}
use mathlib.Core.Option.{Option, some, none}
use Prim.Native.Nat.{ℕ, ◌^◌}
use lib.Dec.{ltb}
use Rattle.disklayout.specs.declared.Device.{Device}
use Rattle.disklayout.specs.declared.Location.{Location}
use Rattle.std.specs.Result.{result_unwrap_or}
use Rattle.disklayout.specs.Calls.{answered, answered_if, answer_number, kind_or_none}
use Rattle.disklayout.specs.Device.{device_of, devices}
use Rattle.disklayout.specs.Blocks.{first_node_addr, node_blocks_end, node_block_of}
use Rattle.disklayout.specs.Layout.{indirection_table1_addr, indirection_table2_addr, journal_end_addr, journal_start_addr}
use Rattle.disklayout.specs.Layout.{valid_indirection_table_addr, valid_indirection_table_location, valid_node_addr, valid_node_location}
use Rattle.disklayout.specs.Layout.{valid_journal_location, valid_superblock1_location, valid_superblock2_location, overlap}
use Rattle.disklayout.specs.Kinds.{kind_of, kind_number}
use Rattle.disklayout.specs.Journal.{journal_front_location, journal_back_location, journal_pos_add}

abbrev pub loc : ℕ → ℕ → Location
loc a n = record { addr = a; len = n }

-- a question, on device 0 where it names none
pub data Case : Type 0 where
  table_place : Location → Case
  node_place_lem : Location → Case
  journal_place : Location → Case
  overlaps : Location → Location → Case
  front : ℕ → ℕ → Case
  back : ℕ → ℕ → Case
  pos_add : ℕ → ℕ → Case
  kind_on : ℕ → Location → Case
  block_on : ℕ → ℕ → Case

pub data Answer : Type 0 where
  says : Bool → Answer
  at : Option Location → Answer
  block : Option ℕ → Answer
  returns : ℕ → ℕ → Answer

pub ask : Case → Answer
ask (table_place l) = says (valid_indirection_table_location (device_of 0) l)
ask (node_place_lem l) = says (valid_node_location (device_of 0) l)
ask (journal_place l) = says (valid_journal_location (device_of 0) l)
ask (overlaps l k) = says (overlap l k)
ask (front s n) = at (journal_front_location (device_of 0) s n)
ask (back s n) = at (journal_back_location (device_of 0) s n)
ask (pos_add s n) =
    let r = answered_if 0 (ltb (journal_pos_add (device_of 0) s n) (2 ^ 64)) (journal_pos_add (device_of 0) s n) in
    returns (answer_number r) (result_unwrap_or r 0)
ask (kind_on d l) =
    let k = kind_of (device_of d) l in returns (answer_number (answered d k)) (kind_number (kind_or_none d k))
ask (block_on d a) = block (node_block_of (device_of d) a)

infix 40 ◌gives◌
pub data Edge : Type 0 where
  ◌gives◌ : Case → Answer → Edge

pub asked : Edge → Answer
asked (c gives a) = ask c

pub expected : Edge → Answer
expected (c gives a) = a

pub edges : List Edge
edges =
    (table_place (loc 73728 1) gives says true) ∷
    (table_place (loc 73728 65536) gives says true) ∷
    (table_place (loc 73728 0) gives says false) ∷
    (table_place (loc 73728 65537) gives says false) ∷
    (table_place (loc 73729 1) gives says false) ∷
    (node_place_lem (loc 262144 0) gives says true) ∷
    (node_place_lem (loc 262144 65536) gives says true) ∷
    (node_place_lem (loc 262144 65537) gives says false) ∷
    (node_place_lem (loc 196608 1) gives says false) ∷
    (journal_place (loc 69632 4096) gives says true) ∷
    (journal_place (loc 8192 0) gives says true) ∷
    (journal_place (loc 73728 0) gives says false) ∷
    (overlaps (loc 100 0) (loc 99 2) gives says true) ∷
    (overlaps (loc 100 0) (loc 100 0) gives says false) ∷
    (front 14 5 gives at (some (loc 65536 8192))) ∷
    (back 14 5 gives at (some (loc 8192 12288))) ∷
    -- beside the starred ones: a sum past 64 bits whose result fits, and one whose result doesn't
    (pos_add 18446744073709551615 16 gives returns 0 18446744073709551615) ∷
    (pos_add 18446744073709551615 17 gives returns 1 0) ∷
    -- what the starred places are, by document 02's numbers; the superblocks, and places about them
    (kind_on 0 (loc 73728 1) gives returns 0 4) ∷
    (kind_on 0 (loc 73728 65536) gives returns 0 4) ∷
    (kind_on 0 (loc 73728 0) gives returns 0 0) ∷
    (kind_on 0 (loc 73728 65537) gives returns 0 0) ∷
    (kind_on 0 (loc 73729 1) gives returns 0 0) ∷
    (kind_on 0 (loc 262144 0) gives returns 0 5) ∷
    (kind_on 0 (loc 262144 65536) gives returns 0 5) ∷
    (kind_on 0 (loc 262144 65537) gives returns 0 0) ∷
    (kind_on 0 (loc 196608 1) gives returns 0 0) ∷
    (kind_on 0 (loc 69632 4096) gives returns 0 3) ∷
    (kind_on 0 (loc 8192 0) gives returns 0 3) ∷
    (kind_on 0 (loc 0 4096) gives returns 0 1) ∷
    (kind_on 0 (loc 4096 4096) gives returns 0 2) ∷
    (kind_on 0 (loc 0 4095) gives returns 0 0) ∷
    (kind_on 0 (loc 0 8192) gives returns 0 0) ∷
    (kind_on 0 (loc 4096 0) gives returns 0 0) ∷
    (kind_on 0 (loc 0 0) gives returns 0 0) ∷
    -- a place of each kind on the other devices, and on device 3, which is not made
    (kind_on 1 (loc 0 4096) gives returns 0 1) ∷
    (kind_on 1 (loc 4096 4096) gives returns 0 2) ∷
    (kind_on 1 (loc 266240 4096) gives returns 0 3) ∷
    (kind_on 1 (loc 532480 4096) gives returns 0 4) ∷
    (kind_on 1 (loc 917504 4096) gives returns 0 5) ∷
    (kind_on 1 (loc 913408 4096) gives returns 0 0) ∷
    (kind_on 2 (loc 0 4096) gives returns 0 1) ∷
    (kind_on 2 (loc 4096 4096) gives returns 0 2) ∷
    (kind_on 2 (loc 1052672 4096) gives returns 0 3) ∷
    (kind_on 2 (loc 2105344 4096) gives returns 0 4) ∷
    (kind_on 2 (loc 4194304 4096) gives returns 0 5) ∷
    (kind_on 2 (loc 4190208 4096) gives returns 0 0) ∷
    (kind_on 3 (loc 0 4096) gives returns 1 0) ∷
    (kind_on 3 (loc 262144 4096) gives returns 1 0) ∷
    -- the first block and the last on each device, the address at their end, which no block has, and that of the block before the first
    (block_on 0 196608 gives block none) ∷
    (block_on 0 262144 gives block (some 0)) ∷
    (block_on 0 8585216 gives block (some 127)) ∷
    (block_on 0 8650752 gives block none) ∷
    (block_on 1 786432 gives block none) ∷
    (block_on 1 917504 gives block (some 0)) ∷
    (block_on 1 17563648 gives block (some 127)) ∷
    (block_on 1 17694720 gives block none) ∷
    (block_on 2 3145728 gives block none) ∷
    (block_on 2 4194304 gives block (some 0)) ∷
    (block_on 2 137363456 gives block (some 127)) ∷
    (block_on 2 138412032 gives block none) ∷
    []

-- one name for the definitions that the list is about
tests : ℕ
unfolding valid_indirection_table_addr valid_indirection_table_location valid_node_addr valid_node_location valid_journal_location
tests = 0

definitions : ℕ
unfolding tests valid_superblock1_location valid_superblock2_location overlap kind_of kind_number node_block_of
definitions = 0

pub edges_shown : map asked edges ≡ map expected edges
unfolding asked expected edges ask device_of devices definitions
edges_shown = refl

-- 01's line for each device: journal start and end, both table addresses, first node address, end of the node blocks
pub line_of : Device → List ℕ
line_of w =
    journal_start_addr ∷ journal_end_addr w ∷ indirection_table1_addr w ∷ indirection_table2_addr w ∷ first_node_addr w ∷ node_blocks_end w ∷ []

pub lines : List (List ℕ)
lines =
    (8192 ∷ 73728 ∷ 73728 ∷ 139264 ∷ 262144 ∷ 8650752 ∷ []) ∷
    (8192 ∷ 270336 ∷ 270336 ∷ 532480 ∷ 917504 ∷ 17694720 ∷ []) ∷
    (8192 ∷ 1056768 ∷ 1056768 ∷ 2105344 ∷ 4194304 ∷ 138412032 ∷ []) ∷
    []

pub lines_shown : map line_of devices ≡ lines
unfolding line_of lines devices
lines_shown = refl
