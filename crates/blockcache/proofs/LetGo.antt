-- Step 19 over any settings, cache and call, in demand 2's manner; and what NoOp leaves to it. Assumes nothing.
use Prim.Native.Nat.{◌<◌, ℕ}
use mathlib.Core.Bool.{◌||◌, and-false, false, or-false, true}
use mathlib.Core.Logic.{◌↔◌, inl, inr, ⊎_elim}
use mathlib.Core.Option.{none, some}
use mathlib.Core.Path.{◌∙◌, ◌≡◌, refl, subst, sym}
use native.Mathlib.Omega.{arith}
use borrow.Author.Tests.{eqb-true}
use Rattle.base.proofs.Refusals.{answer_holds, answer_lowest}
use Rattle.base.proofs.Tests.{clash, not_iff, or_iff, or_inl, or_inr, split}
use Rattle.base.specs.Maps.{del}
use Rattle.base.specs.Refusals.{answer, holds}
use Rattle.blockcache.proofs.Bridge.{awaits_iff}
use Rattle.blockcache.proofs.Demand2.{store_accepted, store_allowed}
use Rattle.blockcache.proofs.ReadAnswers.{answer_phase_iff, awaits_read_is}
use Rattle.blockcache.proofs.Numbers.{number_decides, rows_ascending}
use Rattle.blockcache.proofs.OpKinds.{idle_vop_iff, on_loading_iff, on_ready_iff, resp_read_node_iff, resp_read_table_iff}
use Rattle.blockcache.proofs.Waiting.{reads_has}
use Rattle.blockcache.specs.Abstract.{cache_vars, call_op}
use Rattle.blockcache.specs.Form.{is_ready}
use Rattle.blockcache.specs.LetGo.{AwaitsNodeRead, AwaitsRead, AwaitsTableRead, LetGo}
use Rattle.blockcache.specs.Narrowings.{narrowed}
use Rattle.blockcache.specs.NextStep.{IdleVop}
use Rattle.blockcache.specs.Ops.{dop_id, dop_kind, internal, is_d, is_v, node_read_resp, table_read_resp}
use Rattle.blockcache.specs.Rows.{answer_phase, awaits_read, takes}
use Rattle.blockcache.specs.Step.{cache_next, cache_rows, outside_limits}
use Rattle.blockcache.specs.Steps.{let_go_step, no_op_step, step_of, steps}
use Rattle.blockcache.specs.Upstream.{In, Variables, loading_indirection_table, ready, set_reads}
use Rattle.blockcache.specs.declared.CacheState.{CacheState}
use Rattle.blockcache.specs.declared.Call.{Call}
use Rattle.blockcache.specs.declared.Settings.{Settings}
use Rattle.blockcache.specs.declared.VersionOp.TheVariants.{StatesInternalOp}

module _ (g : Settings) (c : CacheState) (q : Call) where
  -- accepted exactly where 1 doesn't apply, V is internal, and a node read answer comes in Ready or a table read answer in Loading under an awaited id
  pub let_go_accepted : (answer (cache_rows g c 19 q) ≡ 0) ↔
      ((outside_limits g c 19 q ≡ false) × ((s' : Variables) × LetGo (cache_vars c) s' (call_op q) q.vop))
  unfolding narrowed step_of steps
  let_go_accepted =
      let a = store_accepted g c 19 q in (
        (λ e. let h = a.0 e in
            let x = h.1 in
            let z = number_decides 19 x.0 let_go_step x.1 refl in
            (((or_iff (outside_limits g c 19 q) false).0 h.0).0, (x.2.0, rw z at x.2.1))),
        (λ (m, (s', l)). a.1 ((or_iff (outside_limits g c 19 q) false).1 (m, refl), (let_go_step, refl, (s', l)))),
      )

  -- and then the next variables are the old ones without that wait
  pub let_go_next : answer (cache_rows g c 19 q) ≡ 0 → LetGo (cache_vars c) (cache_vars (cache_next g.device c 19 q)) (call_op q) q.vop
  let_go_next e =
      let x = store_allowed g c 19 q e in
      let z = number_decides 19 x.0 let_go_step x.1 refl in
      rw z at x.2

  -- what NoOp refuses with 22, as upstream's variables say it
  pub awaits_read_iff : (awaits_read c q.dop ≡ true) ↔ AwaitsRead (cache_vars c) (call_op q)
  awaits_read_iff =
      let is = awaits_read_is c q.dop in
      let node = resp_read_node_iff q.dop q.node q.table (λ i n. AwaitsNodeRead (cache_vars c) i) in
      let table = resp_read_table_iff q.dop q.node q.table (λ i t. AwaitsTableRead (cache_vars c) i) in
      let id = dop_id q.dop in
      let has = reads_has c.outstanding.reads id in
      let waits = awaits_iff c.awaited id in
      let ready = on_ready_iff c (λ x. In id x.outstanding_block_reads) in
      let loading = on_loading_iff c (λ at read. read ≡ some id) in (
        (λ e. ⊎_elim
            (λ x. inl (node.1 (x.0, ready.1 (x.1, has ∙ x.2))))
            (λ x. inr (table.1 (x.0, loading.1 (x.1, waits.0 x.2))))
            (is.0 e)),
        (λ u. is.1 (⊎_elim
            (λ x. let a = node.0 x in let b = ready.0 a.1 in inl (a.0, b.0, sym has ∙ b.1))
            (λ x. let a = table.0 x in let b = loading.0 a.1 in inr (a.0, b.0, waits.1 b.1))
            u)),
      )

  -- what NoOp takes is not awaited
  pub no_op_unawaited : answer (cache_rows g c 14 q) ≡ 0 → AwaitsRead (cache_vars c) (call_op q) → ⊥
  unfolding narrowed step_of steps
  no_op_unawaited e a =
      let n = (or_iff (outside_limits g c 14 q) (awaits_read c q.dop)).0 ((store_accepted g c 14 q).0 e).0 in
      clash (awaits_read_iff.1 a) n.1

  -- let go takes exactly the awaited answers
  pub let_go_awaited : (answer (cache_rows g c 19 q) ≡ 0) ↔
      ((outside_limits g c 19 q ≡ false) × (q.vop ≡ StatesInternalOp) × AwaitsRead (cache_vars c) (call_op q))
  let_go_awaited =
      let a = let_go_accepted in (
        (λ e. let h = a.0 e in let l = h.1.1 in (
          h.0,
          l.op,
          ⊎_elim
              (λ (i, n, op, (x, ex, (y, ey, u))). inl (i, n, op, (x, ex, u.awaited)))
              (λ (i, t, op, (at, read, ex, u)). inr (i, t, op, (at, read, ex, u.awaited)))
              l.answer,
        )),
        (λ (m, v, w). a.1 (
          m,
          ⊎_elim
              (λ (i, n, op, (x, ex, u)). let y = set_reads x (del x.outstanding_block_reads i) in
              (ready y, record { op = v; answer = inl (i, n, op, (x, ex, (y, refl, record { awaited = u; next = refl }))) }))
              (λ (i, t, op, (at, read, ex, u)). (
                loading_indirection_table at none,
                record { op = v; answer = inr (i, t, op, (at, read, ex, record { awaited = u; next = refl })) },
              ))
              w,
        )),
      )

  -- what it is refused with, where 1 doesn't apply: V first, then D in every phase, then the phase of a read answer, then the wait
  module _ (m : outside_limits g c 19 q ≡ false) where
    pub let_go_2 : is_v internal q.vop ≡ false → answer (cache_rows g c 19 q) ≡ 2
    unfolding step_of steps answer
    let_go_2 v = rw (m, v)

    module _ (v : q.vop ≡ StatesInternalOp) where
      pub let_go_3 : is_d node_read_resp q.dop ≡ false → is_d table_read_resp q.dop ≡ false → answer (cache_rows g c 19 q) ≡ 3
      unfolding step_of steps answer
      let_go_3 n t = rw (m, v, n, t)

      pub let_go_4 : (is_d node_read_resp q.dop || is_d table_read_resp q.dop) ≡ true → answer_phase c.phase q.dop ≡ false →
          answer (cache_rows g c 19 q) ≡ 4
      unfolding step_of steps answer
      let_go_4 r p = rw (m, v, r, p)

      pub let_go_5 : answer_phase c.phase q.dop ≡ true → awaits_read c q.dop ≡ false → answer (cache_rows g c 19 q) ≡ 5
      unfolding step_of steps answer
      let_go_5 p w =
          let r : (is_d node_read_resp q.dop || is_d table_read_resp q.dop) ≡ true =
          ⊎_elim (λ x. or_inl (is_d table_read_resp q.dop) x.0) (λ x. or_inr (is_d node_read_resp q.dop) x.0)
          ((answer_phase_iff c.phase q.dop).0 p) in
          rw (m, v, r, p, w)

  -- a condition of a lower number doesn't hold where the answer is 22
  lower : (k : ℕ) → k < 22 → answer (cache_rows g c 14 q) ≡ 22 → holds k (cache_rows g c 14 q) ≡ false
  lower k b e =
      split (holds k (cache_rows g c 14 q))
      (λ t. absurd (let le = answer_lowest 0 (cache_rows g c 14 q) (rows_ascending g c 14 q) k t in omega arith)) (λ t. t)

  given_22 : answer (cache_rows g c 14 q) ≡ 22 → (outside_limits g c 14 q ≡ false) × IdleVop q.vop × AwaitsRead (cache_vars c) (call_op q)
  unfolding step_of steps
  given_22 e =
      let h : holds 22 (cache_rows g c 14 q) ≡ true =
      subst (λ n. holds n (cache_rows g c 14 q) ≡ true) e
      (answer_holds (cache_rows g c 14 q) (λ z. let w : ◌≡◌ {A = ℕ} 0 22 = sym z ∙ e in omega arith)) in (
        ((or_iff (outside_limits g c 14 q) false).0 (lower 1 (omega arith) e)).0,
        (idle_vop_iff q.vop).0 (simp (or-false, not_iff) at (lower 2 (omega arith) e)),
        awaits_read_iff.0 (simp or-false at h),
      )

  gives_22 : outside_limits g c 14 q ≡ false → (takes c.phase q.vop q.dop no_op_step).version ≡ true → awaits_read c q.dop ≡ true →
      answer (cache_rows g c 14 q) ≡ 22
  unfolding step_of steps answer
  gives_22 m v w =
      ⊎_elim
      (λ x. let k : dop_kind q.dop ≡ node_read_resp = eqb-true (dop_kind q.dop) node_read_resp x.0 in
      rw (m, v, k, and-false (is_ready c), w) refl)
      (λ x. let k : dop_kind q.dop ≡ table_read_resp = eqb-true (dop_kind q.dop) table_read_resp x.0 in
      rw (m, v, k, and-false (is_ready c), w) refl)
      ((awaits_read_is c q.dop).0 w)

  -- NoOp gives 22 exactly for these, where nothing else refuses it
  pub no_op_22_iff : (answer (cache_rows g c 14 q) ≡ 22) ↔
      ((outside_limits g c 14 q ≡ false) × IdleVop q.vop × AwaitsRead (cache_vars c) (call_op q))
  no_op_22_iff = (given_22, (λ (m, v, w). gives_22 m ((idle_vop_iff q.vop).1 v) (awaits_read_iff.1 w)))
