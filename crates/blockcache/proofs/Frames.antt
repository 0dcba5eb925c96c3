-- V, D and phase apart from the rest of a step: of the rows, the gate that is clear exactly where they are the step's; of upstream's NextStep and
-- of let go, the step's own predicate over the cache's abstract state, once they are. Assumes nothing.
use Prim.Native.Nat.{ℕ}
use mathlib.Core.Bool.{false, true}
use mathlib.Core.List.{List}
use mathlib.Core.Logic.{◌↔◌, ◌⊎◌, inl, inr, ⊎_elim}
use mathlib.Core.Option.{Option}
use mathlib.Core.Path.{◌≡◌, refl}
use lib.Dec.{eqb}
use Rattle.base.specs.Maps.{flagged}
use Rattle.base.proofs.Refusals.{Clear}
use Rattle.base.proofs.Tests.{not_iff, or_inl, or_inr}
use Rattle.base.specs.Refusals.{Row}
use Rattle.blockcache.proofs.IdleOps.{idle_kind}
use Rattle.blockcache.proofs.OpKinds.{crash_op_iff, idle_vop_iff, unready_iff, advance_iff, clean_up_iff, freeze_iff, internal_iff}
use Rattle.blockcache.proofs.OpKinds.{no_disk_op_iff, no_op_iff, on_loading_iff, on_ready_iff, req_read_node_iff, req_read_table_iff}
use Rattle.blockcache.proofs.OpKinds.{req_write_node_iff, req_write_table_iff, resp_read_node_iff, resp_read_table_iff, resp_write_node_iff}
use Rattle.blockcache.proofs.OpKinds.{resp_write_table_iff, send_frozen_iff, send_persistent_iff}
use Rattle.blockcache.proofs.ReadAnswers.{answer_phase_iff}
use Rattle.blockcache.specs.Abstract.{awaited_id, cache_vars, call_op, ready_vars}
use Rattle.blockcache.specs.Form.{is_ready, loading_phase}
use Rattle.blockcache.specs.LetGo.{LetNodeGo, LetTableGo, StoreStep}
use Rattle.blockcache.specs.Narrowings.{step_narrowed}
use Rattle.blockcache.specs.Next.{step_next}
use Rattle.blockcache.specs.NextStep.{OnBoth, OnLoading, OnReady, OnRespWriteIndirectionTable, TransactionOp}
use Rattle.blockcache.specs.Ops.{advance, dop_brought, dop_id, dop_kind, dop_loc, internal, is_d, no_dop, node_read_resp, table_read_resp}
use Rattle.blockcache.specs.Ops.{vop_kind, vop_loc}
use Rattle.blockcache.specs.Rows.{Takes, gate, own_rows, takes}
use Rattle.blockcache.specs.Steps.{Step, alloc_step, clean_up_step, crash_step, dirty_step, evict_step, freeze_step, let_go_step}
use Rattle.blockcache.specs.Steps.{no_op_step, page_in_indirection_table_req_step, page_in_indirection_table_resp_step}
use Rattle.blockcache.specs.Steps.{page_in_node_req_step, page_in_node_resp_step, read_step, receive_loc_step, transaction_step}
use Rattle.blockcache.specs.Steps.{unalloc_step, write_back_indirection_table_req_step, write_back_indirection_table_resp_step}
use Rattle.blockcache.specs.Steps.{write_back_node_req_step, write_back_node_resp_step}
use Rattle.blockcache.specs.Upstream.{Alloc, CleanUp, Dirty, Evict, Freeze, Init, NoOp, PageInIndirectionTableReq}
use Rattle.blockcache.specs.Upstream.{PageInIndirectionTableResp, PageInNodeReq, PageInNodeResp, ReadStep, Ready, ReceiveLoc, Unalloc}
use Rattle.blockcache.specs.Upstream.{Variables, WriteBackIndirectionTableReq, WriteBackIndirectionTableResp, WriteBackNodeReq}
use Rattle.blockcache.specs.Upstream.{WriteBackNodeResp}
use Rattle.blockcache.specs.declared.CacheState.{CacheState}
use Rattle.blockcache.specs.declared.Call.{Call}
use Rattle.blockcache.specs.declared.Settings.{Settings}
use Rattle.blockcache.specs.declared.VersionOp.TheVariants.{StatesInternalOp}
use Rattle.blockdisk.specs.Ops.{something_in}
use Rattle.blockdisk.specs.Upstream.{no_disk_op}
use Rattle.disklayout.specs.declared.Location.{Location}
use Rattle.sectortype.specs.Abstract.{IndirectionTable, indirection_table}
use Rattle.sectortype.specs.declared.Node.{Node}

-- the gate is open where V, D and the phase are the step's
abbrev pub OpenFor : Takes → Type 0
OpenFor t = (t.version ≡ true) × (t.disk ≡ true) × (t.phase ≡ true)

pub gate_iff : (t : Takes) (rest : List Row) → Clear (gate t rest) ↔ (OpenFor t × Clear rest)
gate_iff t rest = (
  (λ k. (((not_iff t.version).0 k.0, (not_iff t.disk).0 k.1.0, (not_iff t.phase).0 k.1.1.0), k.1.1.1)),
  (λ (o, k). ((not_iff t.version).1 o.0, ((not_iff t.disk).1 o.1, ((not_iff t.phase).1 o.2, k)))),
)

module _ (g : Settings) (c : CacheState) (q : Call) where
  abbrev r : ℕ
  r = q.reference

  abbrev id : ℕ
  id = dop_id q.dop

  abbrev loc : Location
  loc = dop_loc q.dop

  abbrev brought_node : Option Node
  brought_node = flagged (something_in (dop_brought q.dop)) q.node

  abbrev brought_table : Option IndirectionTable
  brought_table = flagged (something_in (dop_brought q.dop)) (indirection_table q.table)

  abbrev pub Open : Step → Type 0
  Open step = OpenFor (takes c.phase q.vop q.dop step)

  -- the step's own predicate
  abbrev pub Own : Step → Variables → Type 0
  Own write_back_node_req_step s' = OnReady s' (λ y. WriteBackNodeReq g.device (ready_vars c) y id loc q.node r)
  Own write_back_node_resp_step s' = OnReady s' (λ y. WriteBackNodeResp (ready_vars c) y id)
  Own write_back_indirection_table_req_step s' =
      OnReady s' (λ y. WriteBackIndirectionTableReq g.device (ready_vars c) y id loc (indirection_table q.table))
  Own write_back_indirection_table_resp_step s' = OnReady s' (λ y. WriteBackIndirectionTableResp (ready_vars c) y id (vop_loc q.vop))
  Own unalloc_step s' = OnReady s' (λ y. Unalloc (ready_vars c) y r)
  Own page_in_node_req_step s' = OnReady s' (λ y. PageInNodeReq (ready_vars c) y id loc r)
  Own page_in_node_resp_step s' = OnReady s' (λ y. PageInNodeResp (ready_vars c) y id brought_node)
  Own page_in_indirection_table_req_step s' = PageInIndirectionTableReq c.places.persistent (awaited_id c.awaited) s' id loc
  Own page_in_indirection_table_resp_step s' =
      OnReady s' (λ y. PageInIndirectionTableResp g.device c.places.persistent (awaited_id c.awaited) y id brought_table)
  Own receive_loc_step s' = ReceiveLoc g.device (cache_vars c) s' (vop_loc q.vop)
  Own evict_step s' = OnReady s' (λ y. Evict (ready_vars c) y r)
  Own freeze_step s' = OnReady s' (λ y. Freeze (ready_vars c) y)
  Own clean_up_step s' = OnReady s' (λ y. CleanUp (ready_vars c) y)
  Own no_op_step s' = NoOp (cache_vars c) s' (call_op q)
  Own dirty_step s' = OnReady s' (λ y. Dirty (ready_vars c) y r q.node)
  Own alloc_step s' = OnReady s' (λ y. Alloc (ready_vars c) y r q.node)
  Own read_step s' = (s' ≡ cache_vars c) × ((n : Node) × ReadStep (ready_vars c) r n)
  Own crash_step s' = Init s'
  -- one for each kind of answer, with its phase
  Own let_go_step s' =
      ((is_d node_read_resp q.dop ≡ true) × (is_ready c ≡ true) × OnReady s' (λ y. LetNodeGo (ready_vars c) y id))
      ⊎ ((is_d table_read_resp q.dop ≡ true) × (loading_phase c.phase ≡ true) × LetTableGo c.places.persistent (awaited_id c.awaited) s' id)
  Own transaction_step s' = s' ≡ cache_vars c

  abbrev pub Next : Step → Variables → Type 0
  Next step s' = StoreStep g.device (cache_vars c) s' (call_op q) q.vop q.reference q.node step

  -- what the rows accept upstream allows, with the next state
  abbrev pub Sound : Step → Type 0
  Sound step = Open step → Clear (own_rows g c q step) → Own step (cache_vars (step_next c q step))

  -- what upstream allows the rows accept, where no narrowing applies
  abbrev pub Complete : Step → Type 0
  Complete step = (s' : Variables) → step_narrowed g c q step ≡ false → Own step s' → Clear (own_rows g c q step)

  -- what demand 2 asks of a step
  pub record Exact (step : Step) : Type 0 where
    pub sound : Sound step
    pub complete : Complete step
    -- a narrowing refuses
    pub free : Clear (own_rows g c q step) → step_narrowed g c q step ≡ false

  module _ (s' : Variables) where
    -- V is internal; D, and then the phase, by the laws of their kinds
    internal_frame : {O B Q P R : Type 0} → O ↔ (B × Q) → Q ↔ (P × R) →
        ((q.vop ≡ StatesInternalOp) × O) ↔ (((eqb (vop_kind q.vop) internal ≡ true) × B × P) × R)
    internal_frame o p = (
      (λ (v, y). let a = o.0 y in let h = p.0 a.1 in (((internal_iff q.vop).1 v, a.0, h.0), h.1)),
      (λ ((v, b, h), u). ((internal_iff q.vop).0 v, o.1 (b, p.1 (h, u)))),
    )

    -- no D, in Ready
    no_dop_frame : {A B : Type 0} (P : Ready → Ready → Type 0) → A ↔ B →
        (B × (call_op q ≡ no_disk_op) × OnBoth (cache_vars c) s' P) ↔
        ((A × (eqb (dop_kind q.dop) no_dop ≡ true) × (is_ready c ≡ true)) × OnReady s' (λ y. P (ready_vars c) y))
    no_dop_frame P v =
        let o = no_disk_op_iff q.dop q.node q.table in
        let on = on_ready_iff c (λ x. OnReady s' (λ y. P x y)) in (
          (λ (a, n, p). let h = on.0 p in ((v.1 a, o.1 n, h.0), h.1)),
          (λ ((a, n, h), u). (v.0 a, o.0 n, on.1 (h, u))),
        )

    transaction_frame : (P : Ready → Ready → Type 0) →
        (TransactionOp (call_op q) q.vop × OnBoth (cache_vars c) s' P)
        ↔ (((eqb (vop_kind q.vop) advance ≡ true) × (eqb (dop_kind q.dop) no_dop ≡ true) × (is_ready c ≡ true))
        × OnReady s' (λ y. P (ready_vars c) y))
    transaction_frame P =
        let h = no_dop_frame P (advance_iff q.vop) in
        ((λ (t, p). h.0 (t.0, t.1, p)), (λ x. let y = h.1 x in ((y.0, y.1), y.2)))

    table_resp_frame : Next write_back_indirection_table_resp_step s' ↔
        (Open write_back_indirection_table_resp_step × Own write_back_indirection_table_resp_step s')
    table_resp_frame =
        let given : Location →
        Type 0 = λ l. OnRespWriteIndirectionTable (call_op q)
        (λ i. OnBoth (cache_vars c) s' (λ x y. WriteBackIndirectionTableResp x y i l)) in
        let asked : ℕ → Type 0 = λ i. OnBoth (cache_vars c) s' (λ x y. WriteBackIndirectionTableResp x y i (vop_loc q.vop)) in
        let resp = resp_write_table_iff q.dop q.node q.table asked in
        let on = on_ready_iff c (λ x. OnReady s' (λ y. WriteBackIndirectionTableResp x y id (vop_loc q.vop))) in (
          (λ u. let v = (send_frozen_iff q.vop given).0 u in let a = resp.0 v.1 in let h = on.0 a.1 in ((v.0, a.0, h.0), h.1)),
          (λ ((v, k, h), p). (send_frozen_iff q.vop given).1 (v, resp.1 (k, on.1 (h, p)))),
        )

    receive_frame : Next receive_loc_step s' ↔ (Open receive_loc_step × Own receive_loc_step s')
    receive_frame =
        let sent = send_persistent_iff q.vop (λ l. ReceiveLoc g.device (cache_vars c) s' l) in
        let no_op = no_disk_op_iff q.dop q.node q.table in (
          (λ (o, v). let a = sent.0 v in ((a.0, no_op.1 o, (unready_iff c).0 a.1.before), a.1)),
          (λ ((v, o, u), p). (no_op.0 o, sent.1 (v, p))),
        )

    let_go_frame : Next let_go_step s' ↔ (Open let_go_step × Own let_go_step s')
    let_go_frame =
        let node = resp_read_node_iff q.dop q.node q.table (λ i n. OnBoth (cache_vars c) s' (λ x y. LetNodeGo x y i)) in
        let table = resp_read_table_iff q.dop q.node q.table (λ i t. OnLoading (cache_vars c) (λ at read. LetTableGo at read s' i)) in
        let ready = on_ready_iff c (λ x. OnReady s' (λ y. LetNodeGo x y id)) in
        let loading = on_loading_iff c (λ at read. LetTableGo at read s' id) in
        let phase = answer_phase_iff c.phase q.dop in
        let n = is_d node_read_resp q.dop in
        let t = is_d table_read_resp q.dop in (
          (λ l. let v = (internal_iff q.vop).1 l.op in
              ⊎_elim
              (λ x. let a = node.0 x in let b = ready.0 a.1 in ((v, or_inl t a.0, phase.1 (inl (a.0, b.0))), inl (a.0, b.0, b.1)))
              (λ x. let a = table.0 x in let b = loading.0 a.1 in ((v, or_inr n a.0, phase.1 (inr (a.0, b.0))), inr (a.0, b.0, b.1)))
              l.answer),
          (λ ((v, o, p), u).
              record {
                op = (internal_iff q.vop).0 v;
                answer = ⊎_elim (λ x. inl (node.1 (x.0, ready.1 (x.1, x.2)))) (λ x. inr (table.1 (x.0, loading.1 (x.1, x.2)))) u;
              }),
        )

    pub frame : (step : Step) → Next step s' ↔ (Open step × Own step s')
    frame write_back_node_req_step =
        internal_frame (req_write_node_iff q.dop q.node q.table
        (λ i l n. OnBoth (cache_vars c) s' (λ x y. WriteBackNodeReq g.device x y i l n r)))
        (on_ready_iff c (λ x. OnReady s' (λ y. WriteBackNodeReq g.device x y id loc q.node r)))
    frame write_back_node_resp_step =
        internal_frame (resp_write_node_iff q.dop q.node q.table (λ i. OnBoth (cache_vars c) s' (λ x y. WriteBackNodeResp x y i)))
        (on_ready_iff c (λ x. OnReady s' (λ y. WriteBackNodeResp x y id)))
    frame write_back_indirection_table_req_step =
        internal_frame (req_write_table_iff q.dop q.node q.table
        (λ i l t. OnBoth (cache_vars c) s' (λ x y. WriteBackIndirectionTableReq g.device x y i l t)))
        (on_ready_iff c (λ x. OnReady s' (λ y. WriteBackIndirectionTableReq g.device x y id loc (indirection_table q.table))))
    frame write_back_indirection_table_resp_step = table_resp_frame
    frame unalloc_step = no_dop_frame (λ x y. Unalloc x y r) (no_op_iff q.vop)
    frame page_in_node_req_step =
        internal_frame (req_read_node_iff q.dop q.node q.table (λ i l. OnBoth (cache_vars c) s' (λ x y. PageInNodeReq x y i l r)))
        (on_ready_iff c (λ x. OnReady s' (λ y. PageInNodeReq x y id loc r)))
    frame page_in_node_resp_step =
        internal_frame (resp_read_node_iff q.dop q.node q.table (λ i n. OnBoth (cache_vars c) s' (λ x y. PageInNodeResp x y i n)))
        (on_ready_iff c (λ x. OnReady s' (λ y. PageInNodeResp x y id brought_node)))
    frame page_in_indirection_table_req_step =
        internal_frame (req_read_table_iff q.dop q.node q.table
        (λ i l. OnLoading (cache_vars c) (λ at read. PageInIndirectionTableReq at read s' i l)))
        (on_loading_iff c (λ at read. PageInIndirectionTableReq at read s' id loc))
    frame page_in_indirection_table_resp_step =
        internal_frame (resp_read_table_iff q.dop q.node q.table
        (λ i t. OnLoading (cache_vars c) (λ at read. OnReady s' (λ y. PageInIndirectionTableResp g.device at read y i t))))
        (on_loading_iff c (λ at read. OnReady s' (λ y. PageInIndirectionTableResp g.device at read y id brought_table)))
    frame receive_loc_step = receive_frame
    frame evict_step = no_dop_frame (λ x y. Evict x y r) (internal_iff q.vop)
    frame freeze_step = no_dop_frame (λ x y. Freeze x y) (freeze_iff q.vop)
    frame clean_up_step = no_dop_frame (λ x y. CleanUp x y) (clean_up_iff q.vop)
    frame no_op_step = (
      (λ (v, u). (((idle_vop_iff q.vop).1 v, (idle_kind c q.node q.table q.dop u.op).0, refl), u)),
      (λ ((v, o, h), u). ((idle_vop_iff q.vop).0 v, u)),
    )
    frame dirty_step = transaction_frame (λ x y. Dirty x y r q.node)
    frame alloc_step = transaction_frame (λ x y. Alloc x y r q.node)
    frame read_step =
        let on = on_ready_iff c (λ x. (n : Node) × ReadStep x r n) in
        ((λ (e, p). let h = on.0 p in ((refl, refl, h.0), (e, h.1))), (λ ((v, o, h), u). (u.0, on.1 (h, u.1))))
    frame crash_step = ((λ (v, i). (((crash_op_iff q.vop).1 v, refl, refl), i)), (λ ((v, o, h), i). ((crash_op_iff q.vop).0 v, i)))
    frame let_go_step = let_go_frame
    frame transaction_step =
        let v = advance_iff q.vop in
        let o = no_disk_op_iff q.dop q.node q.table in
        let on = on_ready_iff c (λ x. Unit {0}) in
        ((λ (t, e, p). ((v.1 t.0, o.1 t.1, (on.0 p).0), e)), (λ ((a, n, h), e). ((v.0 a, o.0 n), e, on.1 (h, tt))))
