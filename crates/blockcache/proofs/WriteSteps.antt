-- Steps 1 to 4, which write nodes and tables: accepted exactly where upstream allows them, but for the narrowings. Assumes nothing.
use Prim.Native.Nat.{ℕ}
use mathlib.Core.Bool.{false, true}
use mathlib.Core.Logic.{◌↔◌}
use mathlib.Core.Option.{some}
use mathlib.Core.Path.{◌∙◌, ◌≡◌, ap, refl, sym}
use borrow.Author.Tests.{eq-eqb, eqb-true, leb-false}
use Rattle.base.proofs.Flagged.{flagged_each_iff, flagged_is_iff, flagged_none_iff}
use Rattle.base.proofs.Refusals.{Clear}
use Rattle.base.proofs.Tests.{and_both, and_false_iff, and_iff, and_right, not_iff, or_iff}
use Rattle.blockcache.proofs.Bridge.{assigned_is, awaits_iff, held_iff, locs_complete_iff}
use Rattle.blockcache.proofs.Forms.{PartsForm, WellFormed, writes_requests}
use Rattle.blockcache.proofs.Frames.{Complete, Exact, Sound}
use Rattle.blockcache.proofs.OpKinds.{on_ready_iff}
use Rattle.blockcache.proofs.Waiting.{writes_empty_iff, writes_has, writes_insert, writes_remove}
use Rattle.blockcache.specs.Abstract.{ready_vars}
use Rattle.blockcache.specs.Narrowings.{step_narrowed}
use Rattle.blockcache.specs.Next.{assigned, step_next}
use Rattle.blockcache.specs.Ops.{dop_id, dop_loc, vop_loc}
use Rattle.blockcache.specs.Rows.{own_rows}
use Rattle.blockcache.specs.Scan.{held_in}
use Rattle.blockcache.specs.Steps.{write_back_indirection_table_req_step, write_back_indirection_table_resp_step, write_back_node_req_step}
use Rattle.blockcache.specs.Steps.{write_back_node_resp_step}
use Rattle.blockcache.specs.Upstream.{NoAddr, ValidAllocation, WriteBackIndirectionTableReq, WriteBackIndirectionTableResp}
use Rattle.blockcache.specs.Upstream.{WriteBackNodeReq, WriteBackNodeResp, assign_ref_to_location, set_writes}
use Rattle.blockcache.specs.declared.CacheState.{CacheState}
use Rattle.blockcache.specs.declared.Call.{Call}
use Rattle.blockcache.specs.declared.Settings.{Settings}
use Rattle.disklayout.specs.Device.{device_of, made}
use Rattle.disklayout.specs.Layout.{valid_indirection_table_location, valid_node_location, same_loc}
use Rattle.disklayout.specs.declared.Location.{Location}
use Rattle.queue.specs.declared.Requests.{Requests}
use Rattle.disklayout.proofs.Facts.{same_loc_iff}
use Rattle.sectortype.proofs.Equal.{same_node_iff, same_table_iff, table_abstract}
use Rattle.sectortype.proofs.Maps.{nodes_at, nodes_form_at, nodes_some}
use Rattle.sectortype.specs.Abstract.{indirection_table}
use Rattle.sectortype.specs.Form.{node_form, slot_at}
use Rattle.sectortype.specs.declared.Slot.{Slot}
use Rattle.sectortype.specs.declared.Table.{Table}

module _ (g : Settings) (c : CacheState) (q : Call) (w : WellFormed g c q) where
  abbrev r : ℕ
  r = q.reference

  abbrev f : PartsForm c
  f = w.form

  abbrev id : ℕ
  id = dop_id q.dop

  abbrev loc : Location
  loc = dop_loc q.dop

  abbrev writes : Requests
  writes = c.outstanding.writes

  abbrev slot : Slot
  slot = slot_at c.nodes r

  abbrev frozen : Table
  frozen = c.tables.frozen

  -- the cached node, where there is one
  cached_form : slot.present ≡ true → node_form slot.node ≡ true
  cached_form p = nodes_form_at c.nodes f.nodes r slot.node (nodes_at c.nodes r p)

  allocation_iff : (held_in c.tables writes loc.addr ≡ false) ↔ ValidAllocation (ready_vars c) loc
  allocation_iff =
      let h = held_iff c.tables writes f.tables.persistent f.tables.ephemeral f.tables.frozen (writes_requests c f) loc.addr in
      let z = flagged_each_iff c.tables.isfrozen (indirection_table frozen) (λ t. NoAddr t.locs loc.addr) in (
        (λ e. let k = h.0 e in record { persistent = k.0; ephemeral = k.1; frozen = z.1 k.2; writes = k.3 }),
        (λ v. h.1 (v.persistent, v.ephemeral, z.0 v.frozen, v.writes)),
      )

  -- WriteBackNodeReq

  write_back_node_req_sound : Sound g c q write_back_node_req_step
  write_back_node_req_sound taken k =
      let h = simp (not_iff, or_iff, and_false_iff) at k in
      let ready = taken.2 in
      let fresh = h.0 in
      let valid = h.1.0.0 in
      let free = h.1.1.0 in
      let present = h.1.1.1.0 in
      let same = h.1.1.1.1.0 present in
      let idle = h.1.1.1.1.1.0 in
      let room = h.1.1.1.1.1.1.0 in
      (on_ready_iff (step_next c q write_back_node_req_step) (λ y. WriteBackNodeReq g.device (ready_vars c) y id loc q.node r)).1 (
        ready,
        record {
          cached = nodes_at c.nodes r present ∙ ap some ((same_node_iff slot.node q.node (cached_form present) w.call.node).0 same);
          valid = and_right (made g.device) (valid_node_location (device_of g.device) loc) valid;
          persistent_indirection_table' = refl;
          no_table_write = (flagged_none_iff c.awaited.waiting c.awaited.id).0 idle;
          free = allocation_iff.0 free;
          ephemeral_indirection_table' = assigned_is c.tables.ephemeral r loc f.tables.ephemeral w.call.reference;
          frozen_some = λ t e.
              let p = (flagged_is_iff c.tables.isfrozen (indirection_table frozen) t).0 e in
              (flagged_is_iff c.tables.isfrozen (indirection_table (assigned frozen r loc)) (assign_ref_to_location t r loc)).1
              (p.0, assigned_is frozen r loc f.tables.frozen w.call.reference ∙ ap (λ u. assign_ref_to_location u r loc) p.1);
          frozen_none = λ e. (flagged_none_iff c.tables.isfrozen (indirection_table (assigned frozen r loc))).0
              ((flagged_none_iff c.tables.isfrozen (indirection_table frozen)).1 e);
          cache' = refl;
          outstanding_block_writes' = writes_insert writes (writes_requests c f) (record { id = id; reference = r; loc = loc })
              (leb-false 16 writes.count room) fresh;
          outstanding_block_reads' = refl;
          outstanding_indirection_table_write' = refl;
          frozen_indirection_table_loc' = refl;
          persistent_indirection_table_loc' = refl;
        },
      )

  write_back_node_req_complete : Complete g c q write_back_node_req_step
  write_back_node_req_complete s' ns (y, e, p) =
      let n = simp or_iff at ns in
      let there = nodes_some c.nodes r p.cached in
      simp (not_iff, or_iff, and_false_iff) (
        n.0.0,
        (
          (and_both w.on p.valid, n.0.1),
          (
            allocation_iff.1 p.free,
            (
              there.0,
              (
                (λ e. (same_node_iff slot.node q.node (cached_form e) w.call.node).1 there.1),
                ((flagged_none_iff c.awaited.waiting c.awaited.id).1 p.no_table_write, (n.1, tt)),
              ),
            ),
          ),
        ),
      )

  write_back_node_req_free : Clear (own_rows g c q write_back_node_req_step) → step_narrowed g c q write_back_node_req_step ≡ false
  write_back_node_req_free k = let h = simp or_iff at k in (or_iff _ _).1 ((or_iff _ _).1 (h.0, h.1.0.1), h.1.1.1.1.1.1.0)

  pub write_back_node_req_exact : Exact g c q write_back_node_req_step
  write_back_node_req_exact =
      record { sound = write_back_node_req_sound; complete = write_back_node_req_complete; free = write_back_node_req_free }

  -- WriteBackNodeResp

  write_back_node_resp_sound : Sound g c q write_back_node_resp_step
  write_back_node_resp_sound taken k =
      let h = simp not_iff at k in
      (on_ready_iff (step_next c q write_back_node_resp_step) (λ y. WriteBackNodeResp (ready_vars c) y id)).1 (
        taken.2,
        record {
          there = writes_has writes id
              ∙ h.0;
          next = ap (set_writes (ready_vars c)) (writes_remove writes (writes_requests c f) id h.0);
        },
      )

  write_back_node_resp_complete : Complete g c q write_back_node_resp_step
  write_back_node_resp_complete s' ns (y, e, p) = simp not_iff (sym (writes_has writes id) ∙ p.there, tt)

  pub write_back_node_resp_exact : Exact g c q write_back_node_resp_step
  write_back_node_resp_exact = record { sound = write_back_node_resp_sound; complete = write_back_node_resp_complete; free = λ k. refl }

  -- WriteBackIndirectionTableReq

  write_back_table_req_sound : Sound g c q write_back_indirection_table_req_step
  write_back_table_req_sound taken k =
      let h = simp (not_iff, or_iff, and_false_iff) at k in
      let ready = taken.2 in
      let place = h.0 in
      let frz = h.1.1.1.0 in
      let same = (same_table_iff frozen q.table f.tables.frozen w.call.table).0 (h.1.0 frz.0.0) in
      (on_ready_iff (step_next c q write_back_indirection_table_req_step)
      (λ y. WriteBackIndirectionTableReq g.device (ready_vars c) y id loc (indirection_table q.table))).1 (
        ready,
        record {
          valid = and_right (made g.device) (valid_indirection_table_location (device_of g.device) loc) place.0;
          frozen = (flagged_is_iff c.tables.isfrozen (indirection_table frozen) (indirection_table q.table)).1
              (frz.0.0, ap indirection_table same);
          complete = rw same at ((locs_complete_iff frozen f.tables.frozen).0 frz.0.1);
          no_writes = (writes_empty_iff writes (writes_requests c f)).0 (eqb-true writes.count 0 h.1.1.0);
          no_loc = (flagged_none_iff c.places.isfrozen c.places.frozen).0 frz.1;
          apart = place.1 w.on;
          next = refl;
        },
      )

  write_back_table_req_complete : Complete g c q write_back_indirection_table_req_step
  write_back_table_req_complete s' ns (y, e, p) =
      let z = (flagged_is_iff c.tables.isfrozen (indirection_table frozen) (indirection_table q.table)).0 p.frozen in
      let same : frozen ≡ q.table = (table_abstract frozen q.table f.tables.frozen w.call.table).0 z.1 in
      simp (not_iff, or_iff, and_false_iff) (
        (and_both w.on p.valid, (λ e. p.apart)),
        (
          (λ e. (same_table_iff frozen q.table f.tables.frozen w.call.table).1 same),
          (
            eq-eqb writes.count 0 ((writes_empty_iff writes (writes_requests c f)).1 p.no_writes),
            (
              (
                (z.0, (locs_complete_iff frozen f.tables.frozen).1 (rw same p.complete)),
                (flagged_none_iff c.places.isfrozen c.places.frozen).1 p.no_loc,
              ),
              tt,
            ),
          ),
        ),
      )

  pub write_back_table_req_exact : Exact g c q write_back_indirection_table_req_step
  write_back_table_req_exact = record { sound = write_back_table_req_sound; complete = write_back_table_req_complete; free = λ k. refl }

  -- WriteBackIndirectionTableResp

  abbrev vloc : Location
  vloc = vop_loc q.vop

  write_back_table_resp_sound : Sound g c q write_back_indirection_table_resp_step
  write_back_table_resp_sound taken k =
      let h = simp not_iff at k in
      let ready = taken.2 in
      let place = (and_iff c.places.isfrozen (same_loc c.places.frozen vloc)).0 h.1.0 in
      (on_ready_iff (step_next c q write_back_indirection_table_resp_step)
      (λ y. WriteBackIndirectionTableResp (ready_vars c) y id vloc)).1 (
        ready,
        record {
          frozen_loc = sym ((flagged_is_iff c.places.isfrozen c.places.frozen vloc).1
              (place.0, (same_loc_iff c.places.frozen vloc).0 place.1));
          awaited = (awaits_iff c.awaited id).0 h.0;
          next = refl;
        },
      )

  write_back_table_resp_complete : Complete g c q write_back_indirection_table_resp_step
  write_back_table_resp_complete s' ns (y, e, p) =
      let place = (flagged_is_iff c.places.isfrozen c.places.frozen vloc).0 (sym p.frozen_loc) in
      simp not_iff
      ((awaits_iff c.awaited id).1 p.awaited, (and_both place.0 ((same_loc_iff c.places.frozen vloc).1 place.1), tt))

  pub write_back_table_resp_exact : Exact g c q write_back_indirection_table_resp_step
  write_back_table_resp_exact = record { sound = write_back_table_resp_sound; complete = write_back_table_resp_complete; free = λ k. refl }
