-- Steps 5, 11, 15, 16 and 17, which change or read the graph and the cached nodes: accepted exactly where upstream allows them. Assumes nothing.
use Prim.Native.Nat.{ℕ}
use mathlib.Core.Bool.{◌&&◌, false, not}
use mathlib.Core.Option.{none}
use mathlib.Core.Path.{◌∙◌, ◌≡◌, ap, refl, sym}
use borrow.Author.Tests.{eqb-false, ne_eqb}
use Rattle.base.proofs.Maps.{put_same}
use Rattle.base.proofs.Refusals.{Clear}
use Rattle.base.proofs.Tests.{and_both, and_false_iff, and_iff, clash, none_iff, not_iff, or_iff, split}
use Rattle.base.specs.Maps.{put}
use Rattle.blockcache.proofs.Bridge.{has_predecessor_iff, needs_cached_iff}
use Rattle.blockcache.proofs.Forms.{PartsForm, WellFormed, reads_requests, writes_requests}
use Rattle.blockcache.proofs.Frames.{Complete, Exact, Sound}
use Rattle.blockcache.proofs.OpKinds.{on_ready_iff}
use Rattle.blockcache.proofs.Waiting.{reads_iff, writes_to_iff}
use Rattle.blockcache.specs.Abstract.{ready_vars}
use Rattle.blockcache.specs.Next.{cached_slot, step_next, unlocated}
use Rattle.blockcache.specs.Rows.{own_rows}
use Rattle.blockcache.specs.Scan.{writes_to}
use Rattle.blockcache.specs.Steps.{alloc_step, dirty_step, evict_step, read_step, unalloc_step}
use Rattle.blockcache.specs.Upstream.{Alloc, Dirty, Evict, ReadStep, Unalloc, set_cache}
use Rattle.blockcache.specs.declared.CacheState.{CacheState}
use Rattle.blockcache.specs.declared.Call.{Call}
use Rattle.blockcache.specs.declared.Settings.{Settings}
use Rattle.queue.specs.declared.Requests.{Requests}
use Rattle.sectortype.proofs.Forms.{located_allocated}
use Rattle.sectortype.proofs.Graphs.{within_iff}
use Rattle.sectortype.proofs.Maps.{graph_del, graph_put, in_graph, in_locs, in_nodes, locs_at, locs_del, locs_same, locs_some, nodes_at}
use Rattle.sectortype.proofs.Maps.{nodes_del, nodes_put, nodes_some}
use Rattle.sectortype.specs.Abstract.{graph_of, locs_of, nodes_map}
use Rattle.sectortype.specs.Form.{entry_at, slot_at, with_entry, zero_entry, zero_slot}
use Rattle.sectortype.specs.declared.Entry.{Entry}
use Rattle.sectortype.specs.declared.Slot.{Slot}
use Rattle.sectortype.specs.declared.Table.{Table}

module _ (g : Settings) (c : CacheState) (q : Call) (w : WellFormed g c q) where
  abbrev r : ℕ
  r = q.reference

  abbrev f : PartsForm c
  f = w.form

  abbrev table : Table
  table = c.tables.ephemeral

  abbrev entry : Entry
  entry = entry_at c.tables.ephemeral r

  abbrev slot : Slot
  slot = slot_at c.nodes r

  abbrev writes : Requests
  writes = c.outstanding.writes

  abbrev reading : Requests
  reading = c.outstanding.reads

  -- Unalloc

  unalloc_sound : Sound g c q unalloc_step
  unalloc_sound taken k =
      let h = simp (not_iff, or_iff) at k in
      let ok = taken.2 in
      let rest = h.1 in
      (on_ready_iff (step_next c q unalloc_step) (λ y. Unalloc (ready_vars c) y r)).1 (
        ok,
        record {
          allocated = in_graph table r ∙ h.0;
          not_root = eqb-false r 0 rest.1.1.0.0;
          no_predecessors = (has_predecessor_iff table f.tables.ephemeral r).0 rest.1.1.0.1;
          frozen_located = (needs_cached_iff c.tables r).0 rest.1.0;
          persistent_indirection_table' = refl;
          locs' = locs_del table r zero_entry f.tables.ephemeral w.call.reference refl;
          cache' = nodes_del c.nodes r zero_slot f.nodes w.call.reference refl;
          graph' = graph_del table r zero_entry f.tables.ephemeral w.call.reference refl;
          outstanding_indirection_table_write' = refl;
          outstanding_block_writes' = refl;
          not_read = (reads_iff reading (reads_requests c f) r).0 rest.0;
          outstanding_block_reads' = refl;
          frozen_indirection_table' = refl;
          frozen_indirection_table_loc' = refl;
          persistent_indirection_table_loc' = refl;
        },
      )

  unalloc_complete : Complete g c q unalloc_step
  unalloc_complete s' ns (y, e, p) =
      simp (not_iff, or_iff) (
        sym (in_graph table r) ∙ p.allocated,
        (
          (reads_iff reading (reads_requests c f) r).1 p.not_read,
          (
            (needs_cached_iff c.tables r).1 p.frozen_located,
            ((ne_eqb r 0 p.not_root, (has_predecessor_iff table f.tables.ephemeral r).1 p.no_predecessors), tt),
          ),
        ),
      )

  pub unalloc_exact : Exact g c q unalloc_step
  unalloc_exact = record { sound = unalloc_sound; complete = unalloc_complete; free = λ k. refl }

  -- Evict

  evict_sound : Sound g c q evict_step
  evict_sound taken k =
      let h = simp (not_iff, or_iff) at k in
      let ok = taken.2 in
      let there = h.0 in
      let away : (entry.allocated && entry.located && writes_to writes r entry.loc) ≡ false = h.1.0 in
      (on_ready_iff (step_next c q evict_step) (λ y. Evict (ready_vars c) y r)).1 (
        ok,
        record {
          cached = in_nodes c.nodes r ∙ there.0;
          located = λ a. in_locs table r
              ∙ (not_iff entry.located).0 ((and_false_iff entry.allocated (not entry.located)).0 there.1 (sym (in_graph table r) ∙ a));
          not_written = λ a l e id.
              let x = locs_some table r e in
              let there = and_both (sym (in_graph table r) ∙ a) x.0 in
              let y : writes_to writes r entry.loc ≡ false = (and_false_iff (entry.allocated && entry.located)
              (writes_to writes r entry.loc)).0 away there in
              (writes_to_iff writes (writes_requests c f) r l).0 (rw x.1 at y) id;
          frozen_located = (needs_cached_iff c.tables r).0 h.1.1.0;
          next = ap (set_cache (ready_vars c)) (nodes_del c.nodes r zero_slot f.nodes w.call.reference refl);
        },
      )

  evict_complete : Complete g c q evict_step
  evict_complete s' ns (y, e, p) =
      simp (not_iff, or_iff) (
        (
          sym (in_nodes c.nodes r) ∙ p.cached,
          (and_false_iff entry.allocated (not entry.located)).1
              (λ a. (not_iff entry.located).1 (sym (in_locs table r) ∙ p.located (in_graph table r ∙ a))),
        ),
        (
          (and_false_iff (entry.allocated && entry.located) (writes_to writes r entry.loc)).1
              (λ y. let a = (and_iff entry.allocated entry.located).0 y in
              (writes_to_iff writes (writes_requests c f) r entry.loc).1
              (p.not_written (in_graph table r ∙ a.0) entry.loc (locs_at table r a.1))),
          ((needs_cached_iff c.tables r).1 p.frozen_located, tt),
        ),
      )

  pub evict_exact : Exact g c q evict_step
  evict_exact = record { sound = evict_sound; complete = evict_complete; free = λ k. refl }

  -- Dirty

  abbrev listed : Entry
  listed = unlocated q.node.succs

  -- the node's own list is in the graph
  graph_after : graph_of (with_entry table r listed) ≡ put (graph_of table) r q.node.succs
  graph_after = graph_put table r listed f.tables.ephemeral w.call.reference refl

  dirty_sound : Sound g c q dirty_step
  dirty_sound taken k =
      let h = simp (not_iff, or_iff) at k in
      let ok = taken.2 in
      let there = h.0 in
      (on_ready_iff (step_next c q dirty_step) (λ y. Dirty (ready_vars c) y r q.node)).1 (
        ok,
        record {
          cached = in_nodes c.nodes r ∙ there.0;
          allocated = in_graph table r ∙ there.1;
          cache' = nodes_put c.nodes r (cached_slot q.node) f.nodes w.call.reference refl;
          persistent_indirection_table' = refl;
          locs' = locs_del table r listed f.tables.ephemeral w.call.reference refl;
          points = (within_iff table q.node.succs).0 h.1.1.0;
          frozen_located = (needs_cached_iff c.tables r).0 h.1.0;
          list = q.node.succs;
          allocated' = ap (λ m. m r) graph_after ∙ put_same (graph_of table) r q.node.succs;
          graph' = graph_after;
          succs = λ j. refl;
          outstanding_indirection_table_write' = refl;
          outstanding_block_writes' = refl;
          outstanding_block_reads' = refl;
          frozen_indirection_table' = refl;
          frozen_indirection_table_loc' = refl;
          persistent_indirection_table_loc' = refl;
        },
      )

  dirty_complete : Complete g c q dirty_step
  dirty_complete s' ns (y, e, p) =
      simp (not_iff, or_iff) (
        (sym (in_nodes c.nodes r) ∙ p.cached, sym (in_graph table r) ∙ p.allocated),
        ((needs_cached_iff c.tables r).1 p.frozen_located, ((within_iff table q.node.succs).1 p.points, tt)),
      )

  pub dirty_exact : Exact g c q dirty_step
  dirty_exact = record { sound = dirty_sound; complete = dirty_complete; free = λ k. refl }

  -- Alloc

  not_located : entry.allocated ≡ false → locs_of table r ≡ none
  not_located a =
      (none_iff (locs_of table r)).0
      (in_locs table r ∙ split entry.located (λ t. clash {b = entry.allocated} (located_allocated table f.tables.ephemeral r t) a) (λ t. t))

  alloc_sound : Sound g c q alloc_step
  alloc_sound taken k =
      let h = simp (not_iff, or_iff) at k in
      let ok = taken.2 in
      let there = h.0 in
      (on_ready_iff (step_next c q alloc_step) (λ y. Alloc (ready_vars c) y r q.node)).1 (
        ok,
        record {
          not_cached = (none_iff (nodes_map c.nodes r)).0 (in_nodes c.nodes r ∙ there.0);
          not_allocated = (none_iff (graph_of table r)).0 (in_graph table r ∙ there.1);
          cache' = nodes_put c.nodes r (cached_slot q.node) f.nodes w.call.reference refl;
          persistent_indirection_table' = refl;
          locs' = locs_same table r listed f.tables.ephemeral w.call.reference refl (not_located there.1);
          points = (within_iff table q.node.succs).0 h.1.0;
          list = q.node.succs;
          allocated' = ap (λ m. m r) graph_after ∙ put_same (graph_of table) r q.node.succs;
          graph' = graph_after;
          succs = λ j. refl;
          outstanding_indirection_table_write' = refl;
          outstanding_block_writes' = refl;
          outstanding_block_reads' = refl;
          frozen_indirection_table' = refl;
          frozen_indirection_table_loc' = refl;
          persistent_indirection_table_loc' = refl;
        },
      )

  alloc_complete : Complete g c q alloc_step
  alloc_complete s' ns (y, e, p) =
      simp (not_iff, or_iff) (
        (
          sym (in_nodes c.nodes r) ∙ (none_iff (nodes_map c.nodes r)).1 p.not_cached,
          sym (in_graph table r) ∙ (none_iff (graph_of table r)).1 p.not_allocated,
        ),
        ((within_iff table q.node.succs).1 p.points, tt),
      )

  pub alloc_exact : Exact g c q alloc_step
  alloc_exact = record { sound = alloc_sound; complete = alloc_complete; free = λ k. refl }

  -- Read (ReadStep)

  -- the cached node is the one that ReadStep names
  pub read_cached : Clear (own_rows g c q read_step) → ReadStep (ready_vars c) r slot.node
  read_cached k =
      let h = simp (not_iff, or_iff) at k in
      record { allocated = in_graph table r ∙ h.0.0; cached = nodes_at c.nodes r h.0.1 }

  read_sound : Sound g c q read_step
  read_sound taken k = (refl, (slot.node, read_cached k))

  read_complete : Complete g c q read_step
  read_complete s' ns (e, (n, p)) = simp (not_iff, or_iff) ((sym (in_graph table r) ∙ p.allocated, (nodes_some c.nodes r p.cached).0), tt)

  pub read_exact : Exact g c q read_step
  read_exact = record { sound = read_sound; complete = read_complete; free = λ k. refl }
