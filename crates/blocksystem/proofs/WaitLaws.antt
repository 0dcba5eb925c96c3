-- What the invariant says of awaited reads and of a call within the limits: laws of NodeWait, TableWait and Waits. Assumes nothing.
use Prim.Native.Nat.{ℕ}
use mathlib.Core.Bool.{◌&&◌, false, true}
use mathlib.Core.Option.{some}
use mathlib.Core.Path.{◌∙◌, ◌≡◌, refl, sym}
use borrow.Author.Tests.{eq-eqb}
use lib.Dec.{leb}
use Rattle.base.proofs.Maps.{in_of}
use Rattle.base.proofs.Refusals.{Clear}
use Rattle.base.proofs.Tests.{and_both, and_iff, bool_ext, clash}
use Rattle.base.specs.Refusals.{answer}
use Rattle.blockcache.proofs.Bridge.{awaits_iff}
use Rattle.blockcache.proofs.LetGo.{awaits_read_iff, let_go_awaited}
use Rattle.blockcache.proofs.Numbers.{limits_iff}
use Rattle.blockcache.proofs.OpKinds.{loading_is, ready_is}
use Rattle.blockcache.proofs.ReadAnswers.{node_awaited_iff, table_awaited_iff}
use Rattle.blockcache.proofs.Waiting.{reads_has}
use Rattle.blockcache.specs.Abstract.{awaited_id, reads_map, ready_vars, vars_in}
use Rattle.blockcache.specs.Form.{call_form, is_ready, loading_phase, ready_phase}
use Rattle.blockcache.specs.Rows.{awaits_read, awaits_table}
use Rattle.blockcache.specs.Step.{cache_next, cache_rows, outside_limits}
use Rattle.blockcache.specs.Steps.{Step, is_crash, is_start, let_go_step, step_of, steps}
use Rattle.blockcache.specs.Upstream.{loading_indirection_table, ready}
use Rattle.blockcache.specs.declared.Call.{Call}
use Rattle.blockcache.specs.declared.Phase.{Phase}
use Rattle.blockcache.specs.declared.Phase.TheVariants.{Loading as PhaseLoading, Ready as PhaseReady, Unready as PhaseUnready}
use Rattle.blockdisk.proofs.Accepting.{disk_accepted_iff}
use Rattle.blockdisk.proofs.Forms.{DiskForm, disk_form_iff}
use Rattle.blockdisk.proofs.Outstanding.{places_at, places_has}
use Rattle.blockdisk.specs.Ops.{disk_rows, next_disk, op_rows}
use Rattle.blockdisk.specs.Upstream.{disk_vars, places}
use Rattle.blockdisk.specs.declared.Brought.TheVariants.{Nothing}
use Rattle.blockdisk.specs.declared.DiskOp.{DiskOp}
use Rattle.blockdisk.specs.declared.DiskOp.TheVariants.{RespReadIndirectionTableOp, RespReadNodeOp}
use Rattle.blockdisk.specs.declared.Records.{Records}
use Rattle.queue.specs.Queue.{entry_of, has_of}
use Rattle.queue.specs.declared.Requests.{Requests}
use Rattle.sectortype.specs.Form.{node_form, table_form}
use Rattle.blocksystem.proofs.Accepting.{disk_answer, disk_next, joined_cache, joined_disk, joined_zero}
use Rattle.blocksystem.proofs.Invariant.{InPhase, Invariant, Whole, picture_maps}
use Rattle.blocksystem.proofs.After.{step_named_iff}
use Rattle.blocksystem.proofs.Keep.{call_keeps}
use Rattle.blocksystem.specs.Joined.{disk_call, joined, joined_answer, settings_of}
use Rattle.blocksystem.specs.Run.{State, accepts_step, after_step, step}
use Rattle.blocksystem.specs.Waits.{Asks}

-- A STEP THAT IS NEITHER START NOR CRASH: accepted where cache and disk accept it

module _ (d : ℕ) (s : State) (n : ℕ) (q : Call) (o : Records) (no_crash : is_crash n ≡ false) (no_start : is_start n ≡ false) where
  pub accepted_of : answer (cache_rows (settings_of d s.disk) s.cache n q) ≡ 0 → answer (disk_rows d s.disk (disk_call n q)) ≡ 0 →
      joined_answer d n q o s.cache s.disk ≡ 0
  unfolding answer
  accepted_of a b = (joined_zero d n q o s.cache s.disk).1 (a, disk_answer d n q o s.disk no_crash ∙ b, rw no_start)

  pub accepts_of : joined_answer d n q o s.cache s.disk ≡ 0 → accepts_step d s n q o ≡ true
  unfolding joined
  accepts_of e = eq-eqb (joined_answer d n q o s.cache s.disk) 0 e

-- WHAT THE INVARIANT SAYS OF A STATE

module _ (d : ℕ) (s : State) (v : Invariant d s) where
  pub disk_form_lem : DiskForm d s.disk
  disk_form_lem = (disk_form_iff d s.disk).0 v.disk_form_lem

  -- the cache and a call within the limits
  pub within : (n : ℕ) (q : Call) (k : Step) → call_form q ≡ true → step_of n ≡ some k →
      outside_limits (settings_of d s.disk) s.cache n q ≡ false
  within n q k f e =
      (limits_iff (settings_of d s.disk) s.cache n q).1
      (and_both (and_both (and_both v.made_device disk_form_lem.rule) v.cache_form_lem) f, (k, e))

  -- an operation of the disk, whose rows are clear
  pub disk_takes : (n : ℕ) (q : Call) → call_form q ≡ true → Clear (op_rows d s.disk (disk_call n q).op q.node q.table) →
      answer (disk_rows d s.disk (disk_call n q)) ≡ 0
  disk_takes n q f k =
      let g = (and_iff (leb q.reference 63 && node_form q.node) (table_form q.table)).0 f in
      (disk_accepted_iff d s.disk (disk_call n q)).1
      (record { disk = disk_form_lem; node = ((and_iff (leb q.reference 63) (node_form q.node)).0 g.0).1; table = g.1; rows = k })

  -- let go keeps it
  pub kept : (q : Call) (o : Records) → Invariant d (after_step d s 19 q o)
  kept q o = call_keeps d s (step 19 q o) v ((step_named_iff d s 19 q o).1 (λ t e. clash e refl))

  -- A NODE'S READ, IN READY

  module _ (ok : is_ready s.cache ≡ true) where
    pub whole : Whole d (ready (ready_vars s.cache)) (disk_vars d s.disk) (picture_maps s.pictures)
    whole = rw (ready_is s.cache ok) at v.whole

    pub read_queued : (id : ℕ) → has_of s.cache.outstanding.reads id ≡ true → has_of s.disk.queues.nodereads id ≡ true
    read_queued id known =
        sym (places_has s.disk.queues.nodereads id) ∙ whole.phase.reads.queued id (reads_has s.cache.outstanding.reads id ∙ known)

  -- in another phase none is queued
  read_awaited : (id : ℕ) → has_of s.disk.queues.nodereads id ≡ true → (is_ready s.cache ≡ true)
      × (has_of s.cache.outstanding.reads id ≡ true)
  read_awaited id q = go s.cache.phase v.whole.phase
    where
      reading : Requests
      reading = s.cache.outstanding.reads

      at : places s.disk.queues.nodereads id ≡ some (entry_of s.disk.queues.nodereads id).loc
      at = places_at s.disk.queues.nodereads id q

      go : (p : Phase) → InPhase (vars_in p s.cache) (disk_vars d s.disk) (picture_maps s.pictures) → (ready_phase p ≡ true)
          × (has_of reading id ≡ true)
      go PhaseUnready h = absurd (h.no_node_reads id (entry_of s.disk.queues.nodereads id).loc at)
      go PhaseLoading h = absurd (h.no_node_reads id (entry_of s.disk.queues.nodereads id).loc at)
      go PhaseReady h =
          let w = h.reads.awaited id (entry_of s.disk.queues.nodereads id).loc at in
          (refl, sym (reads_has reading id) ∙ in_of (reads_map reading) id w.1)

  pub node_reads_exact : (id : ℕ) → has_of s.disk.queues.nodereads id ≡ awaits_read s.cache (RespReadNodeOp id Nothing)
  node_reads_exact id =
      let is = node_awaited_iff s.cache id Nothing in
      bool_ext (has_of s.disk.queues.nodereads id) (awaits_read s.cache (RespReadNodeOp id Nothing))
      (λ q. is.1 (read_awaited id q)) (λ e. let h = is.0 e in read_queued h.0 id h.1)

  -- A TABLE'S READ, IN LOADING

  module _ (loading : loading_phase s.cache.phase ≡ true) where
    pub whole_loading : Whole d (loading_indirection_table s.cache.places.persistent (awaited_id s.cache.awaited)) (disk_vars d s.disk)
        (picture_maps s.pictures)
    whole_loading = rw (loading_is s.cache loading) at v.whole

    pub load_queued : (id : ℕ) → awaits_table s.cache.awaited id ≡ true → has_of s.disk.queues.tablereads id ≡ true
    load_queued id waits =
        sym (places_has s.disk.queues.tablereads id) ∙ whole_loading.phase.queued id ((awaits_iff s.cache.awaited id).0 waits)

  load_awaited : (id : ℕ) → has_of s.disk.queues.tablereads id ≡ true → (loading_phase s.cache.phase ≡ true)
      × (awaits_table s.cache.awaited id ≡ true)
  load_awaited id q = go s.cache.phase v.whole.phase
    where
      at : places s.disk.queues.tablereads id ≡ some (entry_of s.disk.queues.tablereads id).loc
      at = places_at s.disk.queues.tablereads id q

      go : (p : Phase) → InPhase (vars_in p s.cache) (disk_vars d s.disk) (picture_maps s.pictures) → (loading_phase p ≡ true)
          × (awaits_table s.cache.awaited id ≡ true)
      go PhaseUnready h = absurd (h.no_table_reads id (entry_of s.disk.queues.tablereads id).loc at)
      go PhaseLoading h = (refl, (awaits_iff s.cache.awaited id).1 (h.table_reads id (entry_of s.disk.queues.tablereads id).loc at).0)
      go PhaseReady h = absurd (h.persistent.no_reads id (entry_of s.disk.queues.tablereads id).loc at)

  pub table_reads_exact : (id : ℕ) → has_of s.disk.queues.tablereads id ≡ awaits_read s.cache (RespReadIndirectionTableOp id Nothing)
  table_reads_exact id =
      let is = table_awaited_iff s.cache id Nothing in
      bool_ext (has_of s.disk.queues.tablereads id) (awaits_read s.cache (RespReadIndirectionTableOp id Nothing))
      (λ q. is.1 (load_awaited id q)) (λ e. let h = is.0 e in load_queued h.0 id h.1)

-- LET GO under an answer that the cache awaits and the disk takes: it is accepted, and what it leaves

module _ (d : ℕ) (s : State) (v : Invariant d s) (q : Call) (o : Records) (op : DiskOp) (a : Asks q op)
    (awaits : awaits_read s.cache op ≡ true) (disk : Clear (op_rows d s.disk op q.node q.table)) where
  cache_zero : answer (cache_rows (settings_of d s.disk) s.cache 19 q) ≡ 0
  unfolding step_of steps
  cache_zero =
      let g = settings_of d s.disk in
      (let_go_awaited g s.cache q).1
      (within d s v 19 q let_go_step a.limits refl, a.internal, (awaits_read_iff g s.cache q).0 (rw a.disk awaits))

  disk_zero : answer (disk_rows d s.disk (disk_call 19 q)) ≡ 0
  disk_zero = disk_takes d s v 19 q a.limits (rw a.disk disk)

  pub let_go_accepts : joined_answer d 19 q o s.cache s.disk ≡ 0
  let_go_accepts = accepted_of d s 19 q o refl refl cache_zero disk_zero

  pub cache_left : (after_step d s 19 q o).cache ≡ cache_next d s.cache 19 q
  cache_left = joined_cache d 19 q o s.cache s.disk let_go_accepts

  pub disk_left : (after_step d s 19 q o).disk ≡ next_disk d s.disk op q.node q.table
  disk_left =
      let e : next_disk d s.disk q.dop q.node q.table ≡ next_disk d s.disk op q.node q.table = rw a.disk refl in
      joined_disk d 19 q o s.cache s.disk let_go_accepts ∙ disk_next d 19 q o s.disk refl disk_zero ∙ e
