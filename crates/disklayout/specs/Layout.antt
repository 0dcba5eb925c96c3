-- Upstream's DiskLayout, over any row of four numbers, under upstream's names in snake case: addresses and the kinds of place.
-- Upstream's Bounds, which the source lacks, are the row's numbers. Sums are sums of unbounded numbers.
use Rattle.std.specs.Prelude.{Bool, ◌&&◌, ◌||◌, cond, ℕ, ◌+◌, ◌-◌, ◌*◌, ◌/◌, ◌%◌, ◌^◌, eqb, leb, ltb}
use Rattle.disklayout.specs.declared.Device.{Device}
use Rattle.disklayout.specs.declared.Location.{Location}

abbrev pub num_journal_blocks : Device → ℕ
num_journal_blocks w = w.journal

abbrev pub indirection_table_max_length : Device → ℕ
indirection_table_max_length w = w.table

-- NodeBlockSizeUint64
abbrev pub node_block_size : Device → ℕ
node_block_size w = w.block

-- MinNodeBlockIndexUint64
abbrev pub min_node_block_index : Device → ℕ
min_node_block_index w = w.first

abbrev pub indirection_table1_addr : Device → ℕ
indirection_table1_addr w = 2 * 4096 + num_journal_blocks w * 4096

abbrev pub indirection_table2_addr : Device → ℕ
indirection_table2_addr w = indirection_table1_addr w + indirection_table_max_length w

abbrev pub journal_start_addr : ℕ
journal_start_addr = 2 * 4096

abbrev pub journal_end_addr : Device → ℕ
journal_end_addr w = journal_start_addr + num_journal_blocks w * 4096

-- VALIDITY

unfoldable pub valid_indirection_table_addr : Device → ℕ → Bool
valid_indirection_table_addr w a = eqb a (indirection_table1_addr w) || eqb a (indirection_table2_addr w)

unfoldable pub valid_node_addr : Device → ℕ → Bool
valid_node_addr w a = eqb (a % node_block_size w) 0 && leb (node_block_size w * min_node_block_index w) a

-- the fifth test is upstream's addr <= 0xffff_ffff_ffff_ffff - len
unfoldable pub valid_journal_location : Device → Location → Bool
valid_journal_location w l =
    eqb (l.addr % 4096) 0
    && eqb (l.len % 4096) 0
    && leb (2 * 4096) l.addr
    && ltb ((l.addr - 2 * 4096) / 4096) (num_journal_blocks w)
    && ltb (l.addr + l.len) (2 ^ 64)
    && leb (l.addr + l.len) ((2 + num_journal_blocks w) * 4096)

unfoldable pub valid_indirection_table_location : Device → Location → Bool
valid_indirection_table_location w l =
    valid_indirection_table_addr w l.addr && ltb 0 l.len && leb l.len (indirection_table_max_length w)

unfoldable pub valid_node_location : Device → Location → Bool
valid_node_location w l = valid_node_addr w l.addr && leb l.len (node_block_size w)

-- upstream's == of two locations
abbrev pub same_loc : Location → Location → Bool
same_loc l k = eqb l.addr k.addr && eqb l.len k.len

abbrev pub superblock1_location : Location
superblock1_location = record { addr = 0; len = 4096 }

abbrev pub superblock2_location : Location
superblock2_location = record { addr = 4096; len = 4096 }

unfoldable pub valid_superblock1_location : Location → Bool
valid_superblock1_location l = same_loc l superblock1_location

unfoldable pub valid_superblock2_location : Location → Bool
valid_superblock2_location l = same_loc l superblock2_location

unfoldable pub valid_superblock_location : Location → Bool
valid_superblock_location l = same_loc l superblock1_location || same_loc l superblock2_location

unfoldable pub valid_location : Device → Location → Bool
valid_location w l =
    valid_superblock1_location l
    || valid_superblock2_location l
    || valid_journal_location w l
    || valid_indirection_table_location w l
    || valid_node_location w l

-- PLACES AGAINST EACH OTHER

unfoldable pub overlap : Location → Location → Bool
overlap l k = ltb k.addr (l.addr + l.len) && ltb l.addr (k.addr + k.len)

unfoldable pub location_sub : Location → Location → Bool
location_sub l k = leb k.addr l.addr && leb (l.addr + l.len) (k.addr + k.len)

abbrev pub other_indirection_table_addr : Device → ℕ → ℕ
other_indirection_table_addr w a = cond (eqb a (indirection_table1_addr w)) (indirection_table2_addr w) (indirection_table1_addr w)
