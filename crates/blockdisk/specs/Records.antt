-- What is stored: an area or block with one record or none, reading at exactly a place, and a record replaced.
use Rattle.std.specs.Prelude.{ℕ, ◌&&◌, cond, false, true, [], get_or, replicate, set, List, Option, Some, None, is_some, unwrap_or}
use Rattle.std.specs.Result.{result_unwrap_or}
use Rattle.blockdisk.specs.declared.Record.{Record}
use Rattle.blockdisk.specs.declared.Records.{Records}
use Rattle.disklayout.specs.Blocks.{node_block_of, table_area_of}
use Rattle.disklayout.specs.Calls.{answered, told, zero_loc}
use Rattle.disklayout.specs.Device.{device_of}
use Rattle.disklayout.specs.declared.Location.{Location}
use Rattle.sectortype.specs.Form.{empty_table, default_node, zero_node}
use Rattle.disklayout.specs.Layout.{same_loc}
use Rattle.sectortype.specs.declared.Node.{Node}
use Rattle.sectortype.specs.declared.Table.{Table}

-- no record, around a table or node of zeros; and one at its place
abbrev pub absent_record : {T : Type 0} → T → Record T
absent_record x = record { present = false; loc = zero_loc; held = x }

abbrev pub present_record : {T : Type 0} → Location → T → Record T
present_record l x = record { present = true; loc = l; held = x }

abbrev pub zero_table_record : Record Table
zero_table_record = absent_record empty_table

abbrev pub zero_node_record : Record Node
zero_node_record = absent_record zero_node

abbrev pub empty_records : Records
empty_records = record { tables = replicate 2 zero_table_record; nodes = replicate 128 zero_node_record }

-- what a read past the end would give
abbrev pub default_table_record : Record Table
default_table_record = absent_record (record { count = 0; entries = [] })

abbrev pub default_node_record : Record Node
default_node_record = absent_record default_node

abbrev pub table_record_at : Records → ℕ → Record Table
table_record_at r k = get_or r.tables k default_table_record

abbrev pub node_record_at : Records → ℕ → Record Node
node_record_at r k = get_or r.nodes k default_node_record

-- the area, the block that has a place's address; none on a device that is not made
abbrev pub area_of : ℕ → Location → Option ℕ
area_of d l = result_unwrap_or (answered d (told (table_area_of (device_of d) l.addr))) None

abbrev pub block_of : ℕ → Location → Option ℕ
block_of d l = result_unwrap_or (answered d (told (node_block_of (device_of d) l.addr))) None

-- and its number, 0 where there is none
abbrev pub area_number : ℕ → Location → ℕ
area_number d l = unwrap_or (area_of d l) 0

abbrev pub block_number : ℕ → Location → ℕ
block_number d l = unwrap_or (block_of d l) 0

-- the record that a number has, where there is one, if it is at exactly the place; else none, around x
abbrev pub record_in : {T : Type 0} → Option ℕ → List (Record T) → Location → T → Record T
record_in None l p x = absent_record x
record_in (Some k) l p x =
    cond ((get_or l k (absent_record x)).present && same_loc (get_or l k (absent_record x)).loc p) (get_or l k (absent_record x)) (absent_record x)

-- what is stored at exactly the place, address and length; else nothing
unfoldable pub read_table : ℕ → Records → Location → Record Table
read_table d r l =
    cond (is_some (area_of d l) && (table_record_at r (area_number d l)).present && same_loc (table_record_at r (area_number d l)).loc l)
    (table_record_at r (area_number d l))
    zero_table_record

unfoldable pub read_node : ℕ → Records → Location → Record Node
read_node d r l =
    cond (is_some (block_of d l) && (node_record_at r (block_number d l)).present && same_loc (node_record_at r (block_number d l)).loc l)
    (node_record_at r (block_number d l))
    zero_node_record

-- a write replaces its area's or block's record and nothing else
unfoldable pub with_table : ℕ → Records → Location → Table → Records
with_table d r l t = record { tables = set r.tables (area_number d l) (present_record l t); nodes = r.nodes }

unfoldable pub with_node : ℕ → Records → Location → Node → Records
with_node d r l n = record { tables = r.tables; nodes = set r.nodes (block_number d l) (present_record l n) }
