-- Steps 6 to 10, which read nodes and tables: accepted exactly where upstream allows them, but for the narrowings. Assumes nothing.
use Prim.Native.Nat.{ℕ}
use mathlib.Core.Bool.{Bool, ◌||◌, false, not, true}
use mathlib.Core.Option.{some}
use mathlib.Core.Path.{◌∙◌, ◌≡◌, ap, refl, subst, sym}
use borrow.Author.Tests.{leb-false}
use Rattle.base.proofs.Flagged.{flagged_is_iff, flagged_none_iff}
use Rattle.base.proofs.Refusals.{Clear}
use Rattle.base.proofs.Tests.{and_both, and_false_iff, and_right, none_iff, not_iff, or_iff}
use Rattle.base.specs.Maps.{flagged, is_some}
use Rattle.blockcache.proofs.Bridge.{awaits_iff, node_rejected_iff, table_rejected_iff}
use Rattle.blockcache.proofs.Forms.{PartsForm, WellFormed, loading_idle, no_nodes_map, read_ref_bounded, reads_requests, writes_requests}
use Rattle.blockcache.proofs.Frames.{Complete, Exact, Sound}
use Rattle.blockcache.proofs.OpKinds.{loading_is, on_ready_iff, unready_iff}
use Rattle.blockcache.proofs.Waiting.{not_read_iff, reads_at, reads_empty_iff, reads_has, reads_insert, reads_remove, writes_empty_iff}
use Rattle.blockcache.specs.Abstract.{ready_vars}
use Rattle.blockcache.specs.Narrowings.{step_narrowed}
use Rattle.blockcache.specs.Next.{cached_slot, step_next}
use Rattle.blockcache.specs.Ops.{dop_brought, dop_id, dop_loc, vop_loc}
use Rattle.blockcache.specs.Rows.{own_rows}
use Rattle.blockcache.specs.Scan.{node_rejected}
use Rattle.blockcache.specs.Steps.{page_in_indirection_table_req_step, page_in_indirection_table_resp_step, page_in_node_req_step}
use Rattle.blockcache.specs.Steps.{page_in_node_resp_step, receive_loc_step}
use Rattle.blockcache.specs.Upstream.{AllLocationsForDifferentRefsDontOverlap, PageInNodeReq, PageInNodeResp, SameSuccs}
use Rattle.blockcache.specs.Upstream.{WFCompleteIndirectionTable, set_cache, set_reads}
use Rattle.blockcache.specs.declared.CacheState.{CacheState}
use Rattle.blockcache.specs.declared.Call.{Call}
use Rattle.blockcache.specs.declared.Settings.{Settings}
use Rattle.blockdisk.specs.Ops.{something_in}
use Rattle.blockdisk.specs.declared.Brought.{Brought}
use Rattle.disklayout.specs.Device.{device_of, made}
use Rattle.disklayout.specs.Layout.{valid_indirection_table_location, same_loc}
use Rattle.disklayout.specs.declared.Location.{Location}
use Rattle.queue.specs.Queue.{entry_of, has_of}
use Rattle.queue.specs.declared.Requests.{Requests}
use Rattle.disklayout.specs.Calls.{zero_loc}
use Rattle.disklayout.proofs.Facts.{same_loc_iff}
use Rattle.sectortype.proofs.Maps.{graph_at, graph_some, in_graph, in_nodes, locs_at, locs_some, nodes_put}
use Rattle.sectortype.specs.Abstract.{indirection_table, nodes_map}
use Rattle.sectortype.specs.Form.{entry_at, slot_at}
use Rattle.sectortype.specs.Graph.{has_succ}
use Rattle.sectortype.specs.declared.Entry.{Entry}
use Rattle.sectortype.specs.declared.Node.{Node}
use Rattle.sectortype.specs.declared.Table.{Table}

module _ (g : Settings) (c : CacheState) (q : Call) (w : WellFormed g c q) where
  abbrev r : ℕ
  r = q.reference

  abbrev f : PartsForm c
  f = w.form

  abbrev id : ℕ
  id = dop_id q.dop

  abbrev loc : Location
  loc = dop_loc q.dop

  abbrev vloc : Location
  vloc = vop_loc q.vop

  abbrev table : Table
  table = c.tables.ephemeral

  abbrev entry : Entry
  entry = entry_at c.tables.ephemeral r

  abbrev reading : Requests
  reading = c.outstanding.reads

  abbrev brings : Brought
  brings = dop_brought q.dop

  -- PageInNodeReq

  page_in_node_req_sound : Sound g c q page_in_node_req_step
  page_in_node_req_sound taken k =
      let h = simp (not_iff, or_iff) at k in
      let ok = taken.2 in
      let there = h.1.1.0 in
      let same = (not_iff (same_loc entry.loc loc)).0 ((and_false_iff entry.located (not (same_loc entry.loc loc))).0 h.1.0 there.0.1) in
      let room = leb-false 16 reading.count h.1.1.1.1.0 in
      (on_ready_iff (step_next c q page_in_node_req_step) (λ y. PageInNodeReq (ready_vars c) y id loc r)).1 (
        ok,
        record {
          allocated = in_graph table r ∙ there.0.0;
          located = locs_at table r there.0.1 ∙ ap some ((same_loc_iff entry.loc loc).0 same);
          not_cached = (none_iff (nodes_map c.nodes r)).0 (in_nodes c.nodes r ∙ there.1);
          not_read = (not_read_iff reading (reads_requests c f) r).0 h.1.1.1.0;
          next = ap (set_reads (ready_vars c))
              (reads_insert reading (reads_requests c f) (record { id = id; reference = r; loc = zero_loc }) room h.0);
        },
      )

  page_in_node_req_complete : Complete g c q page_in_node_req_step
  page_in_node_req_complete s' ns (y, e, p) =
      let n = simp or_iff at ns in
      let l = locs_some table r p.located in
      simp (not_iff, or_iff) (
        n.0,
        (
          (and_false_iff entry.located (not (same_loc entry.loc loc))).1
              (λ e. (not_iff (same_loc entry.loc loc)).1 ((same_loc_iff entry.loc loc).1 l.1)),
          (
            ((sym (in_graph table r) ∙ p.allocated, l.0), sym (in_nodes c.nodes r) ∙ (none_iff (nodes_map c.nodes r)).1 p.not_cached),
            ((not_read_iff reading (reads_requests c f) r).1 p.not_read, (n.1, tt)),
          ),
        ),
      )

  page_in_node_req_free : Clear (own_rows g c q page_in_node_req_step) → step_narrowed g c q page_in_node_req_step ≡ false
  page_in_node_req_free k = (or_iff _ _).1 (k.0, k.1.1.1.1.0)

  pub page_in_node_req_exact : Exact g c q page_in_node_req_step
  page_in_node_req_exact = record { sound = page_in_node_req_sound; complete = page_in_node_req_complete; free = page_in_node_req_free }

  -- PageInNodeResp

  -- the reference of the awaited read
  abbrev ref : ℕ
  ref = (entry_of c.outstanding.reads (dop_id q.dop)).reference

  abbrev wanted : Entry
  wanted = entry_at c.tables.ephemeral ref

  abbrev known : Bool
  known = has_of c.outstanding.reads (dop_id q.dop)

  abbrev unwanted : Bool
  unwanted = (slot_at c.nodes ref).present || not wanted.allocated

  page_in_node_resp_sound : Sound g c q page_in_node_resp_step
  page_in_node_resp_sound taken k =
      let h = simp not_iff at k in
      let ok = taken.2 in
      let there = h.0 in
      let free = simp (not_iff, or_iff) at ((and_false_iff known unwanted).0 h.1.0 there) in
      let right : node_rejected brings true wanted q.node ≡ false = rw there at h.1.1.0 in
      let w = (node_rejected_iff brings wanted q.node free.1).0 right in
      let small = read_ref_bounded reading id f.outstanding.reading there in
      let x = nodes_put c.nodes ref (cached_slot q.node) f.nodes small refl in
      let y = reads_remove reading (reads_requests c f) id there in
      (on_ready_iff (step_next c q page_in_node_resp_step)
      (λ y. PageInNodeResp (ready_vars c) y id (flagged (something_in brings) q.node))).1 (
        ok,
        record {
          ref = ref;
          there = reads_at reading id there;
          not_cached = (none_iff (nodes_map c.nodes ref)).0 (in_nodes c.nodes ref ∙ free.0);
          block = q.node;
          brought = (flagged_is_iff (something_in brings) q.node q.node).1 (w.0, refl);
          list = wanted.succs;
          allocated = graph_at table ref free.1;
          succs = w.1;
          next = λ i. set_reads (set_cache (ready_vars c) (x i)) (y i);
        },
      )

  page_in_node_resp_complete : Complete g c q page_in_node_resp_step
  page_in_node_resp_complete s' ns (y, e, p) =
      let there : known ≡ true = sym (reads_has reading id) ∙ ap is_some p.there in
      let one : some p.ref ≡ some ref = sym p.there ∙ reads_at reading id there in
      let same : p.ref ≡ ref = cc in
      let alloc = graph_some table ref (rw same at p.allocated) in
      let something = (flagged_is_iff (something_in brings) q.node p.block).0 p.brought in
      let absent = sym (in_nodes c.nodes ref) ∙ (none_iff (nodes_map c.nodes ref)).1 (rw same at p.not_cached) in
      let succs : SameSuccs wanted.succs q.node = λ j. ap (λ x. has_succ x j) alloc.1 ∙ p.succs j
      ∙ sym (ap (λ (x : Node). has_succ x.succs j) something.1) in
      simp not_iff (
        there,
        (
          (and_false_iff known unwanted).1 (λ e. simp (not_iff, or_iff) (absent, alloc.0)),
          (rw there ((node_rejected_iff brings wanted q.node alloc.0).1 (something.0, succs)), tt),
        ),
      )

  pub page_in_node_resp_exact : Exact g c q page_in_node_resp_step
  page_in_node_resp_exact = record { sound = page_in_node_resp_sound; complete = page_in_node_resp_complete; free = λ k. refl }

  -- PageInIndirectionTableReq

  page_in_table_req_sound : Sound g c q page_in_indirection_table_req_step
  page_in_table_req_sound taken k =
      let h = simp not_iff at k in
      record {
        no_read = (flagged_none_iff c.awaited.waiting c.awaited.id).0 h.1.0;
        place = (same_loc_iff loc c.places.persistent).0 h.0;
        next = loading_is (step_next c q page_in_indirection_table_req_step) taken.2;
      }

  page_in_table_req_complete : Complete g c q page_in_indirection_table_req_step
  page_in_table_req_complete s' ns p =
      simp not_iff
      ((same_loc_iff loc c.places.persistent).1 p.place, ((flagged_none_iff c.awaited.waiting c.awaited.id).1 p.no_read, tt))

  pub page_in_table_req_exact : Exact g c q page_in_indirection_table_req_step
  page_in_table_req_exact = record { sound = page_in_table_req_sound; complete = page_in_table_req_complete; free = λ k. refl }

  -- PageInIndirectionTableResp

  page_in_table_resp_sound : Sound g c q page_in_indirection_table_resp_step
  page_in_table_resp_sound taken k =
      let h = simp not_iff at k in
      let w = (table_rejected_iff g.device w.on brings q.table w.call.table).0 h.1.0 in
      let i = loading_idle c f.phase taken.2 in (
        ready_vars (step_next c q page_in_indirection_table_resp_step),
        refl,
        record {
          t = indirection_table q.table;
          table = (flagged_is_iff (something_in brings) (indirection_table q.table) (indirection_table q.table)).1 (w.0, refl);
          wf = w.1.0;
          distinct = w.1.1;
          awaited = (awaits_iff c.awaited id).0 h.0;
          persistent_indirection_table' = refl;
          frozen_indirection_table' = refl;
          ephemeral_indirection_table' = refl;
          persistent_indirection_table_loc' = refl;
          frozen_indirection_table_loc' = (flagged_none_iff c.places.isfrozen c.places.frozen).0 i.no_place;
          outstanding_indirection_table_write' = refl;
          outstanding_block_writes' = (writes_empty_iff c.outstanding.writes (writes_requests c f)).0 i.no_writes;
          outstanding_block_reads' = (reads_empty_iff reading (reads_requests c f)).0 i.no_reads;
          cache' = no_nodes_map c.nodes f.nodes i.no_nodes;
        },
      )

  page_in_table_resp_complete : Complete g c q page_in_indirection_table_resp_step
  page_in_table_resp_complete s' ns (y, e, p) =
      let something = (flagged_is_iff (something_in brings) (indirection_table q.table) p.t).0 p.table in
      let e : indirection_table q.table ≡ p.t = something.1 in
      let wf : WFCompleteIndirectionTable g.device (indirection_table q.table) = subst (λ x. WFCompleteIndirectionTable g.device x)
      (sym e) p.wf in
      let distinct : AllLocationsForDifferentRefsDontOverlap (indirection_table q.table) = subst
      (λ x. AllLocationsForDifferentRefsDontOverlap x) (sym e) p.distinct in
      simp not_iff (
        (awaits_iff c.awaited id).1 p.awaited,
        ((table_rejected_iff g.device w.on brings q.table w.call.table).1 (something.0, (wf, distinct)), tt),
      )

  pub page_in_table_resp_exact : Exact g c q page_in_indirection_table_resp_step
  page_in_table_resp_exact = record { sound = page_in_table_resp_sound; complete = page_in_table_resp_complete; free = λ k. refl }

  -- ReceiveLoc

  receive_loc_sound : Sound g c q receive_loc_step
  receive_loc_sound taken k =
      let h = simp not_iff at k in
      record {
        valid = and_right (made g.device) (valid_indirection_table_location (device_of g.device) vloc) h.0;
        before = (unready_iff c).1 taken.2;
        next = refl;
      }

  receive_loc_complete : Complete g c q receive_loc_step
  receive_loc_complete s' ns p = simp not_iff (and_both w.on p.valid, tt)

  pub receive_loc_exact : Exact g c q receive_loc_step
  receive_loc_exact = record { sound = receive_loc_sound; complete = receive_loc_complete; free = λ k. refl }
