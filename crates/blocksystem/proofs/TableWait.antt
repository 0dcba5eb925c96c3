-- A table's read that the cache awaits, in Loading: it is queued at the place being loaded, let go is accepted, and then step 8 again. Assumes nothing.
use Prim.Native.Nat.{ℕ}
use mathlib.Core.Bool.{false, true}
use mathlib.Core.Option.{none, some}
use mathlib.Core.Path.{◌∙◌, ◌≡◌, ap, refl}
use Rattle.base.proofs.Refusals.{Clear}
use Rattle.base.proofs.Tests.{and_both, or_iff}
use Rattle.base.specs.Refusals.{answer}
use Rattle.blockcache.proofs.Demand2.{cache_accepted}
use Rattle.blockcache.proofs.Forms.{cache_form_iff}
use Rattle.blockcache.proofs.MarkLaws.{right_marks}
use Rattle.blockcache.proofs.OpKinds.{loading_is}
use Rattle.blockcache.proofs.ReadAnswers.{table_awaited_iff}
use Rattle.blockcache.specs.Abstract.{call_op}
use Rattle.blockcache.specs.Form.{loading_phase, not_waiting}
use Rattle.blockcache.specs.Narrowings.{narrowed}
use Rattle.blockcache.specs.Next.{with_awaited}
use Rattle.blockcache.specs.Rows.{awaits_read}
use Rattle.blockcache.specs.Step.{cache_next, cache_rows, outside_limits}
use Rattle.blockcache.specs.Steps.{page_in_indirection_table_req_step, step_of, steps}
use Rattle.blockcache.specs.Upstream.{loading_indirection_table}
use Rattle.blockcache.specs.declared.CacheState.{CacheState}
use Rattle.blockcache.specs.declared.Call.{Call}
use Rattle.blockdisk.proofs.Accepting.{answer_ok_iff, request_iff}
use Rattle.blockdisk.proofs.Forms.{queued_table_place, table_queue_form_lem}
use Rattle.blockdisk.proofs.Outstanding.{places_at}
use Rattle.blockdisk.specs.Form.{table_allowed}
use Rattle.blockdisk.specs.Ops.{disk_rows, op_rows, table_not_stored}
use Rattle.blockdisk.specs.Upstream.{req_read_indirection_table}
use Rattle.blockdisk.specs.declared.Brought.TheVariants.{Nothing}
use Rattle.blockdisk.specs.declared.DiskOp.TheVariants.{ReqReadIndirectionTableOp, RespReadIndirectionTableOp}
use Rattle.blockdisk.specs.declared.DiskState.{DiskState}
use Rattle.blockdisk.specs.declared.Records.{Records}
use Rattle.queue.proofs.Laws.{remove_gone, remove_room}
use Rattle.queue.specs.Queue.{entry_of, has_of, remove_of}
use Rattle.queue.specs.declared.Requests.{Requests}
use Rattle.blocksystem.proofs.Invariant.{Invariant}
use Rattle.blocksystem.proofs.WaitLaws.{accepted_of, cache_left, disk_form_lem, disk_left, disk_takes, kept, let_go_accepts, load_queued}
use Rattle.blocksystem.proofs.WaitLaws.{whole_loading, within}
use Rattle.blocksystem.specs.Joined.{disk_call, joined_answer, settings_of}
use Rattle.blocksystem.specs.Run.{State, after_step}
use Rattle.blocksystem.specs.Waits.{Asks, place_read}

module _ (d : ℕ) (s : State) (v : Invariant d s) (id : ℕ)
    (awaits : awaits_read s.cache (RespReadIndirectionTableOp id Nothing) ≡ true) where
  abbrev c : CacheState
  c = s.cache

  abbrev queue : Requests
  queue = s.disk.queues.tablereads

  loading : loading_phase c.phase ≡ true
  loading = ((table_awaited_iff c id Nothing).0 awaits).0

  queued : has_of queue id ≡ true
  queued = load_queued d s v loading id ((table_awaited_iff c id Nothing).0 awaits).1

  pub load_place : (entry_of queue id).loc ≡ place_read s
  load_place = ((whole_loading d s v loading).phase.table_reads id (entry_of queue id).loc (places_at queue id queued)).1

  module _ (q : Call) (o : Records) (a : Asks q (RespReadIndirectionTableOp id Nothing)) where
    disk_lets_go : Clear (op_rows d s.disk (RespReadIndirectionTableOp id Nothing) q.node q.table)
    unfolding table_not_stored
    disk_lets_go = (answer_ok_iff queue id false).1 (record { there = queued; right = refl })

    pub let_go_table : joined_answer d 19 q o c s.disk ≡ 0
    let_go_table = let_go_accepts d s v q o (RespReadIndirectionTableOp id Nothing) a awaits disk_lets_go

    abbrev s1 : State
    s1 = after_step d s 19 q o

    abbrev c1 : CacheState
    c1 = with_awaited c not_waiting

    cache_after : s1.cache ≡ c1
    unfolding step_of steps
    cache_after =
        let e : cache_next d c 19 q ≡ c1 = rw a.disk (right_marks d c1 ((cache_form_iff d c).0 v.cache_form_lem).1.marks) in
        cache_left d s v q o (RespReadIndirectionTableOp id Nothing) a awaits disk_lets_go ∙ e

    queue_after : s1.disk.queues.tablereads ≡ remove_of queue id
    queue_after =
        ap (λ (z : DiskState). z.queues.tablereads) (disk_left d s v q o (RespReadIndirectionTableOp id Nothing) a awaits disk_lets_go)

    pub table_freed : has_of s1.disk.queues.tablereads id ≡ false
    table_freed = rw queue_after (remove_gone queue (table_queue_form_lem d queue (disk_form_lem d s v).tablereads) id queued)

    module _ (new : ℕ) (fresh : has_of s1.disk.queues.tablereads new ≡ false) (p : Call) (u : Records)
        (b : Asks p (ReqReadIndirectionTableOp new (place_read s))) where
      cache_pages_in : answer (cache_rows (settings_of d s1.disk) s1.cache 8 p) ≡ 0
      unfolding narrowed step_of steps
      cache_pages_in =
          let l = place_read s in
          let limits = within d s1 (kept d s v q o) 8 p page_in_indirection_table_req_step b.limits refl in
          let op : call_op p ≡ req_read_indirection_table new l = rw b.disk refl in
          rw cache_after
          ((cache_accepted (settings_of d s1.disk) c1 8 p refl).1 (
            (or_iff (outside_limits (settings_of d s1.disk) c1 8 p) false).1 (rw cache_after at limits, refl),
            (
              page_in_indirection_table_req_step,
              refl,
              (
                loading_indirection_table l (some new),
                (b.internal, (new, l, op, (l, none, loading_is c1 loading, record { no_read = refl; place = refl; next = refl }))),
              ),
            ),
          ))

      disk_pages_in : answer (disk_rows d s1.disk (disk_call 8 p)) ≡ 0
      disk_pages_in =
          let f = table_queue_form_lem d queue (disk_form_lem d s v).tablereads in
          let at = queued_table_place d queue (disk_form_lem d s v).tablereads id (place_read s)
          (places_at queue id queued ∙ ap some load_place) in
          disk_takes d s1 (kept d s v q o) 8 p b.limits
          (rw b.disk
          ((request_iff s1.disk.queues.tablereads new (table_allowed d (place_read s))).1
          (record { fresh = fresh; ok = and_both v.made_device at; room = rw queue_after (remove_room queue f id queued) })))

      pub page_in_table : joined_answer d 8 p u s1.cache s1.disk ≡ 0
      page_in_table = accepted_of d s1 8 p u refl refl cache_pages_in disk_pages_in
