-- The number of an area or block is small, and reading by that number takes what is stored at exactly the place. Assumes nothing.
use Prim.Native.Nat.{◌-◌, ◌/◌, ◌<◌, ℕ}
use mathlib.Core.Bool.{◌&&◌}
use mathlib.Core.Path.{◌≡◌, ap, refl}
use native.Mathlib.Omega.{arith}
use borrow.Author.Tests.{ltb-true}
use lib.Dec.{eqb, ltb}
use Rattle.base.proofs.Tests.{and_right, split}
use Rattle.std.proofs.lemmas.List.{get_or_default}
use Rattle.std.specs.Prelude.{Option, Some, None, length, unwrap_or}
use Rattle.blockdisk.specs.Records.{absent_record, area_number, area_of, block_number, block_of, default_node_record, default_table_record}
use Rattle.blockdisk.specs.Records.{read_node, read_table, record_in}
use Rattle.blockdisk.specs.declared.Records.{Records}
use Rattle.disklayout.specs.Blocks.{node_block_of, table_area_of}
use Rattle.disklayout.specs.Device.{device_of, made}
use Rattle.disklayout.specs.Layout.{indirection_table1_addr, indirection_table2_addr, min_node_block_index, node_block_size}
use Rattle.disklayout.specs.Layout.{valid_node_addr}
use Rattle.disklayout.specs.declared.Location.{Location}
use Rattle.sectortype.specs.Form.{empty_table, zero_node}

pub block_below : (d : ℕ) (l : Location) → block_number d l < 128
unfolding node_block_of
block_below d l =
    split (made d)
    (λ t. rw t
    (split (valid_node_addr (device_of d) l.addr && ltb (l.addr / node_block_size (device_of d) - min_node_block_index (device_of d)) 128)
    (λ e. rw e (ltb-true _ _ (and_right (valid_node_addr (device_of d) l.addr)
    (ltb (l.addr / node_block_size (device_of d) - min_node_block_index (device_of d)) 128) e)))
    (λ e. rw e (omega arith))))
    (λ t. rw t (omega arith))

pub area_below : (d : ℕ) (l : Location) → area_number d l < 2
unfolding table_area_of
area_below d l =
    split (made d)
    (λ t. rw t
    (split (eqb l.addr (indirection_table1_addr (device_of d))) (λ e. rw e (omega arith))
    (λ e. rw e (split (eqb l.addr (indirection_table2_addr (device_of d))) (λ f. rw f (omega arith)) (λ f. rw f (omega arith))))))
    (λ t. rw t (omega arith))

-- what is read by that number
module _ (d : ℕ) (r : Records) (l : Location) where
  pub node_in_block : length r.nodes ≡ 128 → record_in (block_of d l) r.nodes l zero_node ≡ read_node d r l
  unfolding read_node
  node_in_block long = go (block_of d l) refl
    where
      go : (o : Option ℕ) → block_of d l ≡ o → record_in o r.nodes l zero_node ≡ read_node d r l
      go None e = rw e
      go (Some k) e =
          let b : k < length r.nodes = rw (long, ← (ap (λ o. unwrap_or o 0) e)) (block_below d l) in
          rw (e, get_or_default r.nodes k (absent_record zero_node) default_node_record b)

  pub table_in_area : length r.tables ≡ 2 → record_in (area_of d l) r.tables l empty_table ≡ read_table d r l
  unfolding read_table
  table_in_area long = go (area_of d l) refl
    where
      go : (o : Option ℕ) → area_of d l ≡ o → record_in o r.tables l empty_table ≡ read_table d r l
      go None e = rw e
      go (Some k) e =
          let b : k < length r.tables = rw (long, ← (ap (λ o. unwrap_or o 0) e)) (area_below d l) in
          rw (e, get_or_default r.tables k (absent_record empty_table) default_table_record b)
