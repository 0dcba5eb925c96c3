-- Formatting: the root in the first node block, length 4,096; its table in area 1, length 4,096; all else empty, the cache Unready;
-- the disk carries the rule that is named.
use Rattle.std.specs.Prelude.{ℕ, ◌&&◌, cond, true, set}
use Rattle.blockcache.specs.Form.{empty_cache}
use Rattle.blockdisk.specs.Crash.{empty_queues}
use Rattle.blockdisk.specs.Form.{is_rule}
use Rattle.blockdisk.specs.Records.{empty_records, present_record}
use Rattle.blockdisk.specs.declared.DiskState.{DiskState}
use Rattle.blockdisk.specs.declared.Records.{Records}
use Rattle.disklayout.specs.Blocks.{first_node_addr}
use Rattle.disklayout.specs.Calls.{number_on}
use Rattle.disklayout.specs.Device.{device_of, made}
use Rattle.disklayout.specs.Layout.{indirection_table1_addr}
use Rattle.disklayout.specs.declared.Location.{Location}
use Rattle.sectortype.specs.Form.{empty_table, leaf_node, with_entry, zero_node, zero_succs}
use Rattle.sectortype.specs.declared.Contents.{Contents}
use Rattle.sectortype.specs.declared.Node.{Node}
use Rattle.sectortype.specs.declared.Table.{Table}
use Rattle.blocksystem.specs.declared.Outcome.{Outcome}

-- contents chosen, no successors
abbrev pub root_node : Contents → Node
root_node x = leaf_node x

-- 4,096 bytes from an address on: the root's in the first node block, its table's in area 1
abbrev pub formatted_place : ℕ → Location
formatted_place a = record { addr = a; len = 4096 }

abbrev pub root_place : ℕ → Location
root_place d = formatted_place (number_on d (first_node_addr (device_of d)))

abbrev pub table_place_of : ℕ → Location
table_place_of d = formatted_place (number_on d (indirection_table1_addr (device_of d)))

-- the root alone, at its place
unfoldable pub root_table : Location → Table
root_table l = with_entry empty_table 0 (record { allocated = true; located = true; loc = l; succs = zero_succs })

-- the table at k, the root at l
unfoldable pub formatted_records : Location → Location → Contents → Records
formatted_records k l x =
    record {
      tables = set empty_records.tables 0 (present_record k (root_table l));
      nodes = set empty_records.nodes 0 (present_record l (root_node x));
    }

abbrev pub formatted_disk : ℕ → Contents → ℕ → DiskState
formatted_disk d x r = record { rule = r; records = formatted_records (table_place_of d) (root_place d) x; queues = empty_queues }

-- zeros, the rule too
abbrev pub empty_disk : DiskState
empty_disk = record { rule = 0; records = empty_records; queues = empty_queues }

-- a device above 2 gives 1 and zeros, and so does a freeze rule that is neither 1 nor 2
unfoldable pub formatted : ℕ → Contents → ℕ → Outcome
formatted d x r =
    cond (made d && is_rule r)
    (record { answer = 0; node = zero_node; cache = empty_cache; disk = formatted_disk d x r })
    (record { answer = 1; node = zero_node; cache = empty_cache; disk = empty_disk })
