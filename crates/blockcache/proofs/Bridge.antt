-- What each test of the tables and of the cached nodes says of the abstract state, and what the next tables are abstractly. Assumes nothing.
use Prim.Native.Nat.{◌<◌, ℕ}
use mathlib.Core.Bool.{Bool, ◌&&◌, ◌||◌, false, false≢true, not, true, true≢false}
use mathlib.Core.Logic.{◌↔◌}
use mathlib.Core.Option.{some}
use mathlib.Core.Path.{◌∙◌, ◌≡◌, refl, sym}
use lib.Dec.{eqb, ltb}
use Rattle.base.proofs.Flagged.{flagged_each_iff, flagged_is_iff}
use Rattle.base.proofs.Scan.{all_at, all_of, none_at, some_of_none}
use Rattle.base.proofs.Tests.{and_both, and_false_iff, and_iff, and_left, bool_ext, eqb_iff, not_iff, or_iff, split}
use Rattle.base.specs.Maps.{flagged, is_some}
use Rattle.base.specs.Scan.{some_below}
use Rattle.blockcache.proofs.Waiting.{write_holds_iff}
use Rattle.blockcache.specs.Abstract.{awaited_id, writes_map}
use Rattle.blockcache.specs.Next.{assigned}
use Rattle.blockcache.specs.Rows.{awaits_table}
use Rattle.blockcache.specs.Scan.{has_predecessor, held_in, list_names, names_at, needs_cached, node_rejected, table_rejected}
use Rattle.blockcache.specs.Upstream.{AllLocationsForDifferentRefsDontOverlap, FrozenLocated, In, LocsValid, NoAddr, NoPredecessors}
use Rattle.blockcache.specs.Upstream.{OutstandingWrite, SameSuccs, WFCompleteIndirectionTable, WFIndirectionTable, assign_ref_to_location}
use Rattle.blockcache.specs.declared.Awaited.{Awaited}
use Rattle.blockcache.specs.declared.Tables.{Tables}
use Rattle.blockdisk.specs.Ops.{something_in}
use Rattle.blockdisk.specs.declared.Brought.{Brought}
use Rattle.blockdisk.specs.declared.Brought.TheVariants.{Nothing, Something}
use Rattle.disklayout.specs.Device.{made}
use Rattle.disklayout.specs.declared.Location.{Location}
use Rattle.queue.specs.Queue.{requests_form}
use Rattle.queue.specs.declared.Requests.{Requests}
use Rattle.sectortype.proofs.Forms.{entry_at_form, entry_succs, located_allocated, with_entry_form}
use Rattle.sectortype.proofs.Graphs.{closed_iff, distinct_iff, holds_addr_iff, same_set_iff}
use Rattle.sectortype.proofs.Maps.{graph_at, graph_bounded, graph_same, graph_some, in_graph, in_locs, locs_at, locs_bounded, locs_put}
use Rattle.sectortype.proofs.Maps.{locs_some}
use Rattle.sectortype.specs.Abstract.{graph_of, indirection_table, locs_of}
use Rattle.sectortype.specs.Form.{entry_at, succ_at, table_form}
use Rattle.sectortype.specs.Graph.{locs_complete, locs_in_graph, locs_valid as valid_test, wf_complete_indirection_table as complete_test}
use Rattle.sectortype.specs.Graph.{wf_indirection_table as table_test, allocated_in, has_succ, loc_ok, located_in, same_set}
use Rattle.sectortype.specs.declared.Entry.{Entry}
use Rattle.sectortype.specs.declared.Node.{Node}
use Rattle.sectortype.specs.declared.Table.{Table}

-- the id that is awaited
pub awaits_iff : (a : Awaited) (id : ℕ) → (awaits_table a id ≡ true) ↔ (awaited_id a ≡ some id)
awaits_iff a id =
    let is = flagged_is_iff a.waiting a.id id in
    ((λ e. is.1 (simp (and_iff, eqb_iff) at e)), (λ e. simp (and_iff, eqb_iff) (is.0 e)))

-- ADDRESSES

-- 7: ValidAllocation
pub held_iff : (ts : Tables) (q : Requests) → table_form ts.persistent ≡ true → table_form ts.ephemeral ≡ true →
    table_form ts.frozen ≡ true → requests_form q ≡ true → (a : ℕ) →
    (held_in ts q a ≡ false) ↔ (NoAddr (locs_of ts.persistent) a × NoAddr (locs_of ts.ephemeral) a
    × (ts.isfrozen ≡ true → NoAddr (locs_of ts.frozen) a)
    × ((id : ℕ) (w : OutstandingWrite) → writes_map q id ≡ some w → w.loc.addr ≡ a → ⊥))
unfolding held_in
held_iff ts q p e f g a = (
  (λ h. let k = simp (or_iff, and_false_iff) at h in (
    (holds_addr_iff ts.persistent p a).0 k.0.0.0,
    (holds_addr_iff ts.ephemeral e a).0 k.0.0.1,
    (λ y. (holds_addr_iff ts.frozen f a).0 (k.0.1 y)),
    (write_holds_iff q g a).0 k.1,
  )),
  (λ (u, v, w, x). simp (or_iff, and_false_iff) (
    (((holds_addr_iff ts.persistent p a).1 u, (holds_addr_iff ts.ephemeral e a).1 v), (λ y. (holds_addr_iff ts.frozen f a).1 (w y))),
    (write_holds_iff q g a).1 x,
  )),
)

-- THE GRAPH

-- the list of an allocated reference names r
list_names_lem : (e : Entry) (r : ℕ) → list_names e r ≡ (e.allocated && has_succ e.succs r)
unfolding has_succ
list_names_lem e r = go e.allocated
  where
    go : (b : Bool) → some_below (λ j. b && names_at e.succs.count j (succ_at e.succs j) r) 8 ≡
        (b && some_below (λ k. ltb k e.succs.count && eqb (succ_at e.succs k) r) 8)
    go true = refl
    go false = some_of_none (λ j. false) 8 (λ k b. refl)

-- 12: NoPredecessors
pub has_predecessor_iff : (t : Table) → table_form t ≡ true → (r : ℕ) → (has_predecessor t r ≡ false) ↔ NoPredecessors (graph_of t) r
unfolding has_predecessor
has_predecessor_iff t f r = (
  (λ e j l g. let d = graph_some t j g in
      rw (d.0, d.1) at (sym (list_names_lem (entry_at t j) r)
      ∙ none_at (λ i. list_names (entry_at t i) r) 64 j e (graph_bounded t f j l g))),
  (λ h. some_of_none (λ i. list_names (entry_at t i) r) 64
      (λ i b. list_names_lem (entry_at t i) r
      ∙ (and_false_iff (entry_at t i).allocated (has_succ (entry_at t i).succs r)).1 (λ a. h i (entry_at t i).succs (graph_at t i a)))),
)

-- 11 of a table write, and a part of the complete table: graph.Keys <= locs.Keys
pub locs_complete_iff : (t : Table) → table_form t ≡ true → (locs_complete t ≡ true) ↔ ((r : ℕ) → In r (graph_of t) → In r (locs_of t))
unfolding locs_complete
locs_complete_iff t f = (
  (λ e r g. let a = sym (in_graph t r) ∙ g in
      in_locs t r ∙ rw a at (all_at complete 64 r e (graph_bounded t f r (entry_at t r).succs (graph_at t r a)))),
  (λ h. all_of complete 64 (λ r b. split (allocated_in t r) (λ y. rw y (sym (in_locs t r) ∙ h r (in_graph t r ∙ y))) (λ y. rw y))),
)
  where
    complete : ℕ → Bool
    complete r = not (allocated_in t r) || located_in t r

-- 11, FZ
pub needs_cached_iff : (ts : Tables) (r : ℕ) →
    (needs_cached ts r ≡ false) ↔ FrozenLocated (flagged ts.isfrozen (indirection_table ts.frozen)) r
needs_cached_iff ts r = (
  (λ e. let h = simp (and_false_iff, and_iff, not_iff) at e in
      (flagged_each_iff ts.isfrozen (indirection_table ts.frozen) (λ t. In r t.graph → In r t.locs)).1
      (λ y g. in_locs ts.frozen r ∙ h (y, sym (in_graph ts.frozen r) ∙ g))),
  (λ h. let located = (flagged_each_iff ts.isfrozen (indirection_table ts.frozen) (λ t. In r t.graph → In r t.locs)).0 h in
      simp (and_false_iff, and_iff, not_iff) (λ (y, a). sym (in_locs ts.frozen r) ∙ located y (in_graph ts.frozen r ∙ a))),
)

-- WHOLE TABLES

module _ (d : ℕ) (on : made d ≡ true) (t : Table) (f : table_form t ≡ true) where
  valid_iff : (valid_test d t ≡ true) ↔ LocsValid d (locs_of t)
  unfolding valid_test
  valid_iff = (
    (λ e r l g. let h = locs_some t r g in rw (h.0, on, h.1) at (all_at (λ r. loc_ok d (entry_at t r)) 64 r e (locs_bounded t f r l g))),
    (λ h. all_of (λ r. loc_ok d (entry_at t r)) 64
        (λ r b. split (located_in t r) (λ y. rw (y, on) (h r (entry_at t r).loc (locs_at t r y))) (λ y. rw y))),
  )

  pub table_test_iff : (table_test d t ≡ true) ↔ WFIndirectionTable d (indirection_table t)
  unfolding table_test locs_in_graph
  table_test_iff = (
    (λ e. let h = simp and_iff at e in
        record {
          valid = valid_iff.0 h.0.0.0;
          keys = λ r l. in_graph t r ∙ located_allocated t f r (sym (in_locs t r) ∙ l);
          root = in_graph t 0 ∙ h.0.1;
          graph_closed = (closed_iff t f).0 h.1;
        }),
    (λ w. let keys = all_of (λ r. not (located_in t r) || allocated_in t r) 64
        (λ r b. split (located_in t r) (λ y. rw (y, located_allocated t f r y)) (λ y. rw y)) in
        simp and_iff (((valid_iff.1 w.valid, keys), sym (in_graph t 0) ∙ w.root), (closed_iff t f).1 w.graph_closed)),
  )

  pub complete_test_iff : (complete_test d t ≡ true) ↔ WFCompleteIndirectionTable d (indirection_table t)
  unfolding complete_test
  complete_test_iff = (
    (λ e. let h = (and_iff (table_test d t) (locs_complete t)).0 e in
        let w = table_test_iff.0 h.0 in
        record {
          valid = w.valid;
          keys = λ r. bool_ext (is_some (graph_of t r)) (is_some (locs_of t r)) ((locs_complete_iff t f).0 h.1 r) (w.keys r);
          root = w.root;
          graph_closed = w.graph_closed;
        }),
    (λ w. and_both (table_test_iff.1 (record { valid = w.valid; keys = λ r l. w.keys r ∙ l; root = w.root; graph_closed = w.graph_closed }))
        ((locs_complete_iff t f).1 (λ r g. sym (w.keys r) ∙ g))),
  )

-- 9 of a table's page-in
pub table_rejected_iff : (d : ℕ) (on : made d ≡ true) (b : Brought) (t : Table) → table_form t ≡ true →
    (table_rejected b d t ≡ false) ↔
    ((something_in b ≡ true) × (WFCompleteIndirectionTable d (indirection_table t)
    × AllLocationsForDifferentRefsDontOverlap (indirection_table t)))
table_rejected_iff d on Something t f = (
  (λ e. let h = simp (or_iff, not_iff) at e in (refl, ((complete_test_iff d on t f).0 h.0, λ r q l k. (distinct_iff t f).0 h.1 r q l k))),
  (λ (s, h). simp (or_iff, not_iff) ((complete_test_iff d on t f).1 h.0, (distinct_iff t f).1 (λ r q l k. h.1 r q l k))),
)
table_rejected_iff d on Nothing t f = ((λ e. absurd (true≢false e)), (λ (s, h). absurd (false≢true s)))

-- 9 of a node's page-in, for a reference that is allocated
pub node_rejected_iff : (b : Brought) (e : Entry) (n : Node) → e.allocated ≡ true →
    (node_rejected b true e n ≡ false) ↔ ((something_in b ≡ true) × SameSuccs e.succs n)
node_rejected_iff Something e n a = (
  (λ h. (refl, (same_set_iff e.succs n.succs).0 ((not_iff _).0 (rw a at h)))),
  (λ (s, h). rw a ((not_iff (same_set e.succs n.succs)).1 ((same_set_iff e.succs n.succs).1 h))),
)
node_rejected_iff Nothing e n a = ((λ h. absurd (true≢false h)), (λ (s, h). absurd (false≢true s)))

-- THE NEXT TABLES

-- the other place of a row is kept
pub assigned_form : (t : Table) (r : ℕ) (l : Location) → table_form t ≡ true → r < 64 → table_form (assigned t r l) ≡ true
unfolding assigned
assigned_form t r l f b =
    split ((entry_at t r).allocated && not (entry_at t r).located)
    (λ y. rw y (with_entry_form t r (record { allocated = true; located = true; loc = l; succs = (entry_at t r).succs }) f b
    (rw (entry_succs (entry_at t r) (entry_at_form t f r b)))))
    (λ y. rw y f)

pub assigned_is : (t : Table) (r : ℕ) (l : Location) → table_form t ≡ true → r < 64 →
    indirection_table (assigned t r l) ≡ assign_ref_to_location (indirection_table t) r l
unfolding assigned assign_ref_to_location
assigned_is t r l f b =
    split ((entry_at t r).allocated && not (entry_at t r).located)
    (λ y. let e : Entry = record { allocated = true; located = true; loc = l; succs = (entry_at t r).succs } in
    let a = and_left (entry_at t r).allocated (not (entry_at t r).located) y in
    let p = locs_put t r e f b refl in
    let g = graph_same t r e f b refl (graph_at t r a) in
    rw (in_graph t r, in_locs t r, y) (λ i. record { locs = p i; graph = g i }))
    (λ y. rw (in_graph t r, in_locs t r, y))
