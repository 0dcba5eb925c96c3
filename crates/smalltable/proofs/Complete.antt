-- A small table on a device 0 to 2 is upstream's `WFCompleteIndirectionTable`, and no two references have one address. Assumes nothing.
use Prim.Native.Nat.{ℕ}
use mathlib.Core.Bool.{Bool, ◌||◌, not, true}
use mathlib.Core.Path.{◌∙◌, ◌≡◌, ap, refl, sym}
use native.Mathlib.Omega.{arith}
use borrow.Author.Tests.{leb-true}
use lib.Dec.{leb}
use Rattle.base.proofs.Scan.{all_at, all_of}
use Rattle.base.proofs.Tests.{and_both, split}
use Rattle.base.specs.Scan.{all_below}
use Rattle.disklayout.proofs.Devices.{device_good}
use Rattle.disklayout.proofs.NodeBlocks.{block_addr_injective, block_valid}
use Rattle.disklayout.specs.Blocks.{node_block_addr}
use Rattle.disklayout.specs.Device.{device_of, devices, made}
use Rattle.disklayout.specs.Layout.{node_block_size, valid_node_location}
use Rattle.sectortype.proofs.Forms.{located_allocated}
use Rattle.sectortype.proofs.Graphs.{distinct_iff, each_succ_iff}
use Rattle.sectortype.proofs.Maps.{locs_some}
use Rattle.sectortype.specs.Form.{entry_at}
use Rattle.sectortype.specs.Graph.{distinct_addrs, graph_closed, locs_complete, locs_in_graph, locs_valid}
use Rattle.sectortype.specs.Graph.{wf_complete_indirection_table, wf_indirection_table, allocated_in, closed_at, loc_ok, located_in, within}
use Rattle.sectortype.specs.declared.Table.{Table}
use Rattle.smalltable.specs.SmallTable.{SmallTable}

-- a block of each device holds at least 4,096 bytes
abbrev wide : ℕ → Bool
wide d = leb 4096 (node_block_size (device_of d))

blocks_wide : all_below wide 3 ≡ true
unfolding all_below device_of devices
blocks_wide = refl

module _ (d : ℕ) (on : made d ≡ true) where
  place_valid : (r : ℕ) → valid_node_location (device_of d) (record { addr = node_block_addr (device_of d) r; len = 4096 }) ≡ true
  unfolding valid_node_location
  place_valid r = and_both (block_valid (device_of d) (device_good d) r) (all_at wide 3 d blocks_wide (omega (arith, leb-true d 2 on)))

  module _ (t : Table) (m : SmallTable d t) where
    in_graph : (r : ℕ) → located_in t r ≡ true → allocated_in t r ≡ true
    in_graph r l = located_allocated t m.form r l

    locs_valid_lem : locs_valid d t ≡ true
    unfolding locs_valid
    locs_valid_lem =
        all_of (λ r. loc_ok d (entry_at t r)) 64
        (λ r b. split (located_in t r) (λ l. rw (l, on, m.placed r (in_graph r l)) (place_valid r)) (λ l. rw l))

    locs_in_graph_lem : locs_in_graph t ≡ true
    unfolding locs_in_graph
    locs_in_graph_lem =
        all_of (λ r. not (located_in t r) || allocated_in t r) 64 (λ r b. split (located_in t r) (λ l. rw (l, in_graph r l)) (λ l. rw l))

    locs_complete_lem : locs_complete t ≡ true
    unfolding locs_complete
    locs_complete_lem =
        all_of (λ r. not (allocated_in t r) || located_in t r) 64 (λ r b. split (allocated_in t r) (λ a. rw (a, m.located r a)) (λ a. rw a))

    closed : graph_closed t ≡ true
    unfolding graph_closed within
    closed =
        all_of (closed_at t) 64
        (λ r b. split (allocated_in t r)
        (λ a. rw a ((each_succ_iff (entry_at t r).succs (allocated_in t)).1 (λ q n. m.within r q a n)))
        (λ a. rw a))

    pub small_complete : wf_complete_indirection_table d t ≡ true
    unfolding wf_complete_indirection_table wf_indirection_table
    small_complete = rw (locs_valid_lem, locs_in_graph_lem, m.root, closed, locs_complete_lem)

    pub small_distinct : distinct_addrs t ≡ true
    small_distinct =
        (distinct_iff t m.form).1
        (λ r q l k g h e. let x = locs_some t r g in let y = locs_some t q h in
        let a = ap (λ p. p.addr) (sym (m.placed r (in_graph r x.0)) ∙ x.1) in
        let b = ap (λ p. p.addr) (sym (m.placed q (in_graph q y.0)) ∙ y.1) in
        block_addr_injective (device_of d) (device_good d) r q (a ∙ e ∙ sym b))
