-- Document 01's devices: a row of four numbers each, and what makes a row good.
use Rattle.std.specs.Prelude.{◌≡◌, Bool, List, [], ◌∷◌, ℕ, ◌+◌, ◌^◌, ◌≤◌, ◌<◌, leb, get_or}
use Rattle.disklayout.specs.declared.Device.{Device}
use Rattle.disklayout.specs.Layout.{indirection_table2_addr, indirection_table_max_length, node_block_size}
use Rattle.disklayout.specs.Blocks.{first_node_addr, node_blocks_end}

abbrev pub device0 : Device
device0 = record { journal = 16; table = 65536; block = 65536; first = 4 }

abbrev pub device1 : Device
device1 = record { journal = 64; table = 262144; block = 131072; first = 7 }

abbrev pub device2 : Device
device2 = record { journal = 256; table = 1048576; block = 1048576; first = 4 }

-- the three rows of document 01
unfoldable pub devices : List Device
devices = device0 ∷ device1 ∷ device2 ∷ []

-- a device above 2 is refused by every call
abbrev pub made : ℕ → Bool
made d = leb d 2

-- the row of a device; row 0 stands where there is none
unfoldable pub device_of : ℕ → Device
device_of d = get_or devices d device0

-- 01: the block size isn't 0, the first node address is at or past the end of table area 2, the node blocks end below 2 to the 64
pub record Good (w : Device) : Type 0 where
  pub sized : node_block_size w ≡ 0 → ⊥
  pub past : indirection_table2_addr w + indirection_table_max_length w ≤ first_node_addr w
  pub fits : node_blocks_end w < 2 ^ 64
