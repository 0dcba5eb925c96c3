-- Each of the cache's steps, joined with the disk's exact move, keeps the invariant: one law for each of upstream's steps, and one for let go. Assumes nothing.
use Prim.Native.Nat.{ℕ}
use mathlib.Core.Logic.{⊎_elim}
use mathlib.Core.Option.{some}
use mathlib.Core.Path.{◌∙◌, ◌≡◌, sym}
use Rattle.base.proofs.Tests.{clash}
use Rattle.base.specs.Maps.{Map, del, put}
use Rattle.blockcache.specs.LetGo.{AwaitsRead, LetGo, LetNodeGo}
use Rattle.blockcache.specs.NextStep.{NextStep, OnBoth}
use Rattle.blockcache.specs.Steps.{Step, alloc_step, clean_up_step, dirty_step, evict_step, freeze_step, no_op_step}
use Rattle.blockcache.specs.Steps.{page_in_indirection_table_req_step, page_in_indirection_table_resp_step, page_in_node_req_step}
use Rattle.blockcache.specs.Steps.{page_in_node_resp_step, read_step, receive_loc_step, transaction_step, unalloc_step}
use Rattle.blockcache.specs.Steps.{write_back_indirection_table_req_step, write_back_indirection_table_resp_step, write_back_node_req_step}
use Rattle.blockcache.specs.Steps.{write_back_node_resp_step}
use Rattle.blockcache.specs.Upstream.{Alloc, CleanUp, Dirty, Evict, Freeze, PageInNodeReq, PageInNodeResp, Ready, Unalloc, Variables}
use Rattle.blockcache.specs.Upstream.{WriteBackIndirectionTableReq, WriteBackIndirectionTableResp, WriteBackNodeReq, WriteBackNodeResp}
use Rattle.blockcache.specs.Upstream.{ready}
use Rattle.blockcache.specs.UpstreamInv.{Inv}
use Rattle.blockcache.specs.declared.VersionOp.{VersionOp}
use Rattle.blockcache.specs.declared.VersionOp.TheVariants.{SendFrozenLocOp, SendPersistentLocOp}
use Rattle.blockdisk.proofs.Moves.{next_vars}
use Rattle.blockdisk.specs.Upstream.{Dop, Next, Variables as DVariables}
use Rattle.disklayout.proofs.Places.{table_overlap_iff}
use Rattle.disklayout.specs.Device.{device_of}
use Rattle.disklayout.specs.declared.Location.{Location}
use Rattle.sectortype.specs.declared.Node.{Node}
use Rattle.blocksystem.proofs.Invariant.{PictureMaps, Whole}
use Rattle.blocksystem.proofs.KeepNodes.{working_maps, keep_alloc, keep_dirty, keep_evict, keep_page_in, keep_unalloc}
use Rattle.blocksystem.proofs.KeepQueues.{Started, keep_idle, keep_let_node_go, keep_let_table_go, keep_read_req, keep_receive}
use Rattle.blocksystem.proofs.KeepQueues.{keep_table_read, keep_write_resp}
use Rattle.blocksystem.proofs.KeepTables.{cleaned_maps, froze_maps, frozen_named_lem, keep_clean_up, keep_freeze, keep_table_page_in}
use Rattle.blocksystem.proofs.KeepTables.{keep_table_resp, keep_table_write, named_maps}
use Rattle.blocksystem.proofs.KeepWrite.{keep_write_req}

-- both states are Ready
on_both : {X : Type 0} (s s' : Variables) (P : Ready → Ready → Type 0) → OnBoth s s' P →
    ((x y : Ready) → s ≡ ready x → s' ≡ ready y → P x y → X) → X
on_both s s' P h f = f h.0 h.2.0 h.1 h.2.1 h.2.2

module _ (d : ℕ) (s s' : Variables) (v v' : DVariables) (dop : Dop) (vop : VersionOp) (ref : ℕ) (n : Node) (t : PictureMaps)
    (w : Whole d s v t) (i : Inv d s')
    (disk : Next v v' dop) (move : v' ≡ next_vars v dop) where
  abbrev Taken : Step → Type 0
  Taken step = NextStep d s s' dop vop ref n step

  pub write_back_node_req_kept : Taken write_back_node_req_step → Whole d s' v' t
  write_back_node_req_kept g =
      let id = g.1.0 in
      let loc = g.1.1 in
      let m = g.1.2 in
      let b = g.1.3 in
      let h = g.1.4 in
      on_both s s' (λ x y. WriteBackNodeReq d x y id loc m ref) h
      (λ x y ex ey u. rw (ey, move, b) (keep_write_req d x y v t id ref loc m (rw ex at w) u (rw ey at i)))

  pub write_back_node_resp_kept : Taken write_back_node_resp_step → Whole d s' v' t
  write_back_node_resp_kept g =
      let id = g.1.0 in
      let b = g.1.1 in
      let h = g.1.2 in
      on_both s s' (λ x y. WriteBackNodeResp x y id) h
      (λ x y ex ey u. rw (ey, move, b) (keep_write_resp d x y v t id (rw ex at w) (rw ey at i) u))

  pub write_back_table_req_kept : Taken write_back_indirection_table_req_step → Whole d s' v' t
  write_back_table_req_kept g =
      let id = g.1.0 in
      let loc = g.1.1 in
      let f = g.1.2 in
      let b = g.1.3 in
      let h = g.1.4 in
      on_both s s' (λ x y. WriteBackIndirectionTableReq d x y id loc f) h
      (λ x y ex ey u. let k = rw ex at w in
      rw (ey, move, b)
      (keep_table_write d x y v t id loc f k (rw ey at i) u
      (λ e. clash ((table_overlap_iff
      (device_of d) loc x.persistent_indirection_table_loc u.valid k.inv.places.persistent_valid).1 e) u.apart)))

  pub write_back_table_resp_kept : (l : Location) → vop ≡ SendFrozenLocOp l → Taken write_back_indirection_table_resp_step →
      Whole d s' v' (named_maps t l)
  write_back_table_resp_kept l q g =
      let m = g.0 in
      let a = g.1 in
      let id = g.2.0 in
      let b = g.2.1 in
      let h = g.2.2 in
      on_both s s' (λ x y. WriteBackIndirectionTableResp x y id m) h
      (λ x y ex ey u. let h : SendFrozenLocOp m ≡ SendFrozenLocOp l = sym a ∙ q in
      let e : m ≡ l = cc in
      rw (ey, move, b) (rw e at (keep_table_resp d x y v t id m (rw ex at w) (rw ey at i) u)))

  pub unalloc_kept : Taken unalloc_step → Whole d s' v' (working_maps t (del t.working ref))
  unalloc_kept g =
      let b = g.1 in
      let h = g.2 in
      on_both s s' (λ x y. Unalloc x y ref) h
      (λ x y ex ey u. rw (ey, move, b) (keep_unalloc d x y v t ref (rw ex at w) (rw ey at i) u))

  pub page_in_node_req_kept : Taken page_in_node_req_step → Whole d s' v' t
  page_in_node_req_kept g =
      let id = g.1.0 in
      let loc = g.1.1 in
      let b = g.1.2 in
      let h = g.1.3 in
      on_both s s' (λ x y. PageInNodeReq x y id loc ref) h
      (λ x y ex ey u. rw (ey, move, b) (keep_read_req d x y v t id ref loc (rw ex at w) (rw ey at i) u))

  pub page_in_node_resp_kept : Taken page_in_node_resp_step → Whole d s' v' t
  page_in_node_resp_kept g =
      let id = g.1.0 in
      let m = g.1.1 in
      let b = g.1.2 in
      let h = g.1.3 in
      on_both s s' (λ x y. PageInNodeResp x y id m) h
      (λ x y ex ey u. let k = rw b at disk in rw (ey, move, b) (keep_page_in d x y v v' t id m (rw ex at w) (rw ey at i) u k))

  pub page_in_table_req_kept : Taken page_in_indirection_table_req_step → Whole d s' v' t
  page_in_table_req_kept g =
      let id = g.1.0 in
      let loc = g.1.1 in
      let b = g.1.2 in
      let at = g.1.3.0 in
      let read = g.1.3.1 in
      let ex = g.1.3.2 in
      let u = g.1.3.3 in
      rw (move, b) (keep_table_read d at read s' v t id loc (rw ex at w) i u)

  pub page_in_table_resp_kept : Taken page_in_indirection_table_resp_step → Whole d s' v' t
  page_in_table_resp_kept g =
      let id = g.1.0 in
      let f = g.1.1 in
      let b = g.1.2 in
      let at = g.1.3.0 in
      let read = g.1.3.1 in
      let ex = g.1.3.2 in
      let y = g.1.3.3.0 in
      let ey = g.1.3.3.1 in
      let u = g.1.3.3.2 in
      let k = rw b at disk in rw (ey, move, b) (keep_table_page_in d at read y v v' t id f (rw ex at w) (rw ey at i) u k)

  pub receive_loc_kept : (l : Location) (t' : PictureMaps) → vop ≡ SendPersistentLocOp l → Started t t' l → Taken receive_loc_step →
      Whole d s' v' t'
  receive_loc_kept l t' q n g =
      let b = g.0 in
      let m = g.1.0 in
      let a = g.1.1 in
      let u = g.1.2 in
      let h : SendPersistentLocOp m ≡ SendPersistentLocOp l = sym a ∙ q in
      let e : m ≡ l = cc in
      let r = rw (u.before, e) at u in
      rw (move, b) (keep_receive d s' v t t' l (rw u.before at w) i r n)

  pub evict_kept : Taken evict_step → Whole d s' v' t
  evict_kept g =
      let b = g.1 in
      let h = g.2 in
      on_both s s' (λ x y. Evict x y ref) h
      (λ x y ex ey u. rw (ey, move, b) (keep_evict d x y v t ref (rw ex at w) (rw ey at i) u))

  pub freeze_kept : (blank : Map Node) → Taken freeze_step → Whole d s' v' (froze_maps t blank)
  freeze_kept blank g =
      let b = g.1 in
      let h = g.2 in
      on_both s s' (λ x y. Freeze x y) h
      (λ x y ex ey u. rw (ey, move, b) (keep_freeze d x y v t blank (rw ex at w) (rw ey at i) u))

  -- the place that is left named is the one that was named as frozen
  pub clean_up_kept : (blank : Map Node) → Taken clean_up_step → (l : Location) × (t.second ≡ some l)
      × Whole d s' v' (cleaned_maps t l blank)
  clean_up_kept blank g =
      let b = g.1 in
      let h = g.2 in
      on_both s s' (λ x y. CleanUp x y) h
      (λ x y ex ey u.
      let k = rw ex at w in (
        u.loc,
        frozen_named_lem d x v t u.loc k u.no_table_write u.frozen_loc,
        rw (ey, move, b) (keep_clean_up d x y v t blank k (rw ey at i) u),
      ))

  pub no_op_kept : (AwaitsRead s dop → ⊥) → Taken no_op_step → Whole d s' v' t
  no_op_kept free g =
      let u = g.1 in
      rw (u.next, move) (keep_idle d s v t w dop u.op free)

  pub let_go_kept : LetGo s s' dop vop → Whole d s' v' t
  let_go_kept g =
      ⊎_elim
      (λ (id, m, b, h). on_both s s' (λ x y. LetNodeGo x y id) h
      (λ x y ex ey u. rw (ey, move, b) (keep_let_node_go d x y v t id m (rw ex at w) (rw ey at i) u)))
      (λ (id, f, b, (at, read, ex, u)). rw (move, b) (keep_let_table_go d at read s' v t id f (rw ex at w) i u))
      g.answer

  -- an empty list moves nothing
  pub transaction_kept : Taken transaction_step → Whole d s' v' t
  transaction_kept g = rw (g.1, move, g.0.1) w

  pub dirty_kept : Taken dirty_step → Whole d s' v' (working_maps t (put t.working ref n))
  dirty_kept g =
      let b = g.0.1 in
      let h = g.1 in
      on_both s s' (λ x y. Dirty x y ref n) h
      (λ x y ex ey u. rw (ey, move, b) (keep_dirty d x y v t ref n (rw ex at w) (rw ey at i) u))

  pub alloc_kept : Taken alloc_step → Whole d s' v' (working_maps t (put t.working ref n))
  alloc_kept g =
      let b = g.0.1 in
      let h = g.1 in
      on_both s s' (λ x y. Alloc x y ref n) h
      (λ x y ex ey u. rw (ey, move, b) (keep_alloc d x y v t ref n (rw ex at w) (rw ey at i) u))

-- a read changes nothing; it takes no disk operation
pub read_kept : (d : ℕ) (s s' : Variables) (v v' : DVariables) (dop : Dop) (vop : VersionOp) (ref : ℕ) (n : Node) (t : PictureMaps) →
    Whole d s v t → v' ≡ v → NextStep d s s' dop vop ref n read_step → Whole d s' v' t
read_kept d s s' v v' dop vop ref n t w e g = rw (g.0, e) w
