-- A node's read that the cache awaits, in Ready: it is queued at its reference's location, let go is accepted, and then step 6 again. Assumes nothing.
use Prim.Native.Nat.{ℕ}
use mathlib.Core.Bool.{false, true}
use mathlib.Core.Option.{some}
use mathlib.Core.Path.{◌∙◌, ◌≡◌, ap, refl, sym}
use borrow.Author.Tests.{lt-leb}
use lib.Dec.{leb}
use Rattle.base.proofs.Maps.{del_some}
use Rattle.base.proofs.Refusals.{Clear}
use Rattle.base.proofs.Tests.{and_both, clash, or_iff, split}
use Rattle.base.specs.Maps.{put}
use Rattle.base.specs.Refusals.{answer}
use Rattle.blockcache.proofs.Demand2.{cache_accepted}
use Rattle.blockcache.proofs.Forms.{cache_form_iff, reads_requests}
use Rattle.blockcache.proofs.MarkLaws.{right_marks}
use Rattle.blockcache.proofs.OpKinds.{ready_is}
use Rattle.blockcache.proofs.ReadAnswers.{node_awaited_iff}
use Rattle.blockcache.proofs.Waiting.{reads_at, reads_remove}
use Rattle.blockcache.specs.Abstract.{call_op, reads_map, ready_vars}
use Rattle.blockcache.specs.Form.{is_ready}
use Rattle.blockcache.specs.Narrowings.{narrowed, read_narrowed}
use Rattle.blockcache.specs.Next.{with_reads}
use Rattle.blockcache.specs.Ops.{dop_id}
use Rattle.blockcache.specs.Rows.{awaits_read}
use Rattle.blockcache.specs.Step.{cache_next, cache_rows, outside_limits}
use Rattle.blockcache.specs.Steps.{page_in_node_req_step, step_of, steps}
use Rattle.blockcache.specs.Upstream.{PageInNodeReq, ready, set_reads}
use Rattle.blockcache.specs.declared.CacheState.{CacheState}
use Rattle.blockcache.specs.declared.Call.{Call}
use Rattle.blockdisk.proofs.Accepting.{answer_ok_iff, request_iff}
use Rattle.blockdisk.proofs.Forms.{node_queue_form_lem, queued_node_place}
use Rattle.blockdisk.proofs.Outstanding.{places_at}
use Rattle.blockdisk.specs.Form.{node_allowed}
use Rattle.blockdisk.specs.Ops.{disk_rows, node_not_stored, op_rows}
use Rattle.blockdisk.specs.Upstream.{req_read_node}
use Rattle.blockdisk.specs.declared.Brought.TheVariants.{Nothing}
use Rattle.blockdisk.specs.declared.DiskOp.TheVariants.{ReqReadNodeOp, RespReadNodeOp}
use Rattle.blockdisk.specs.declared.DiskState.{DiskState}
use Rattle.blockdisk.specs.declared.Records.{Records}
use Rattle.queue.proofs.Laws.{remove_gone, remove_room}
use Rattle.queue.specs.Queue.{entry_of, has_of, remove_of}
use Rattle.queue.specs.declared.Requests.{Requests}
use Rattle.sectortype.proofs.Maps.{locs_some}
use Rattle.blocksystem.proofs.Invariant.{Invariant}
use Rattle.blocksystem.proofs.WaitLaws.{accepted_of, cache_left, disk_form_lem, disk_left, disk_takes, kept, let_go_accepts, read_queued}
use Rattle.blocksystem.proofs.WaitLaws.{whole, within}
use Rattle.blocksystem.specs.Joined.{disk_call, joined_answer, settings_of}
use Rattle.blocksystem.specs.Run.{State, after_step}
use Rattle.blocksystem.specs.Waits.{Asks, loc_read, ref_read}

module _ (d : ℕ) (s : State) (v : Invariant d s) (id : ℕ) (awaits : awaits_read s.cache (RespReadNodeOp id Nothing) ≡ true) where
  abbrev c : CacheState
  c = s.cache

  abbrev reading : Requests
  reading = c.outstanding.reads

  abbrev queue : Requests
  queue = s.disk.queues.nodereads

  ok : is_ready c ≡ true
  ok = ((node_awaited_iff c id Nothing).0 awaits).0

  known : has_of reading id ≡ true
  known = ((node_awaited_iff c id Nothing).0 awaits).1

  queued : has_of queue id ≡ true
  queued = read_queued d s v ok id known

  -- the reference is located where the disk reads
  located : (ready_vars c).ephemeral_indirection_table.locs (ref_read s id) ≡ some (entry_of queue id).loc
  located =
      let h = (whole d s v ok).phase.reads.awaited id (entry_of queue id).loc (places_at queue id queued) in
      let same : some (ref_read s id) ≡ some h.0 = sym (reads_at reading id known) ∙ h.1 in
      let e : ref_read s id ≡ h.0 = cc in
      rw e h.2

  pub node_place_lem : (entry_of queue id).loc ≡ loc_read s id
  node_place_lem = sym (locs_some c.tables.ephemeral (ref_read s id) located).1

  module _ (q : Call) (o : Records) (a : Asks q (RespReadNodeOp id Nothing)) where
    disk_lets_go : Clear (op_rows d s.disk (RespReadNodeOp id Nothing) q.node q.table)
    unfolding node_not_stored
    disk_lets_go = (answer_ok_iff queue id false).1 (record { there = queued; right = refl })

    pub let_go_node : joined_answer d 19 q o c s.disk ≡ 0
    let_go_node = let_go_accepts d s v q o (RespReadNodeOp id Nothing) a awaits disk_lets_go

    abbrev s1 : State
    s1 = after_step d s 19 q o

    abbrev c1 : CacheState
    c1 = with_reads c (remove_of reading id)

    cache_after : s1.cache ≡ c1
    unfolding step_of steps
    cache_after =
        let e : cache_next d c 19 q ≡ c1 = rw a.disk (right_marks d c1 ((cache_form_iff d c).0 v.cache_form_lem).1.marks) in
        cache_left d s v q o (RespReadNodeOp id Nothing) a awaits disk_lets_go ∙ e

    queue_after : s1.disk.queues.nodereads ≡ remove_of queue id
    queue_after = ap (λ (z : DiskState). z.queues.nodereads) (disk_left d s v q o (RespReadNodeOp id Nothing) a awaits disk_lets_go)

    pub node_freed : has_of s1.disk.queues.nodereads id ≡ false
    node_freed = rw queue_after (remove_gone queue (node_queue_form_lem d queue (disk_form_lem d s v).nodereads) id queued)

    module _ (new : ℕ) (fresh : has_of s1.disk.queues.nodereads new ≡ false) (p : Call) (u : Records)
        (b : Asks p (ReqReadNodeOp new (loc_read s id))) (r : p.reference ≡ ref_read s id) where
      -- as upstream says it: allocated, located there, not cached, and no other read of it
      page_in : PageInNodeReq (ready_vars c1)
          (set_reads (ready_vars c1) (put (ready_vars c1).outstanding_block_reads new p.reference)) new (loc_read s id) p.reference
      page_in =
          let w = whole d s v ok in
          let h = w.phase.reads.uncached id (ref_read s id) (reads_at reading id known) in
          let less = reads_remove reading (reads_requests c ((cache_form_iff d c).0 v.cache_form_lem).0) id known in
          rw r
          (record {
            allocated = h.0;
            located = located ∙ ap some node_place_lem;
            not_cached = h.1;
            not_read = λ j e.
                let k = del_some (reads_map reading) id j (sym (ap (λ f. f j) less) ∙ e) in
                k.0 (w.inv.outstanding.reads_unique j id (ref_read s id) k.1 (reads_at reading id known));
            next = refl;
          })

      cache_pages_in : answer (cache_rows (settings_of d s1.disk) s1.cache 6 p) ≡ 0
      unfolding narrowed step_of steps
      cache_pages_in =
          let x = ready_vars c1 in
          let v1 = kept d s v q o in
          let unread = split (has_of s1.cache.outstanding.reads new) (λ t. clash (read_queued d s1 v1 (rw cache_after ok) new t) fresh)
          (λ t. t) in
          let room = lt-leb 16 (remove_of reading id).count
          (remove_room reading (reads_requests c ((cache_form_iff d c).0 v.cache_form_lem).0) id known) in
          let limits = within d s1 v1 6 p page_in_node_req_step b.limits refl in
          let op : call_op p ≡ req_read_node new (loc_read s id) = rw b.disk refl in
          let id_of : dop_id p.dop ≡ new = rw b.disk refl in
          let y = set_reads x (put x.outstanding_block_reads new p.reference) in
          rw cache_after
          ((cache_accepted (settings_of d s1.disk) c1 6 p refl).1 (
            (or_iff (outside_limits (settings_of d s1.disk) c1 6 p) (read_narrowed c1 p)).1 (
              rw cache_after at limits,
              (or_iff (has_of (remove_of reading id) (dop_id p.dop))
                  (leb 16 (remove_of reading id).count)).1 (rw id_of (rw cache_after at unread), room),
            ),
            (page_in_node_req_step, refl, (ready y, (b.internal, (new, loc_read s id, op, (x, ready_is c1 ok, (y, refl, page_in)))))),
          ))

      disk_pages_in : answer (disk_rows d s1.disk (disk_call 6 p)) ≡ 0
      disk_pages_in =
          let q1 = s1.disk.queues.nodereads in
          let f = node_queue_form_lem d queue (disk_form_lem d s v).nodereads in
          let at = queued_node_place d queue (disk_form_lem d s v).nodereads id (loc_read s id)
          (places_at queue id queued ∙ ap some node_place_lem) in
          disk_takes d s1 (kept d s v q o) 6 p b.limits
          (rw b.disk
          ((request_iff q1 new (node_allowed d (loc_read s id))).1
          (record { fresh = fresh; ok = and_both v.made_device at; room = rw queue_after (remove_room queue f id queued) })))

      pub page_in_node : joined_answer d 6 p u s1.cache s1.disk ≡ 0
      page_in_node = accepted_of d s1 6 p u refl refl cache_pages_in disk_pages_in
