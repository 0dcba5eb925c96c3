-- Demand 2 for the cache: a call is accepted exactly where upstream's NextStep allows some next state and no narrowing refuses it, and then the
-- state handed back is one that upstream allows. For any settings, cache, call and step number but those of document 02's steps, which upstream
-- doesn't have: LetGo.antt has their laws, from the same theorem over every step of the store. Assumes nothing.
use Prim.Native.Nat.{◌≤◌, ℕ}
use mathlib.Core.Bool.{false, true}
use mathlib.Core.Logic.{◌↔◌}
use mathlib.Core.Option.{some}
use mathlib.Core.Path.{◌≡◌, refl, subst}
use native.Mathlib.Omega.{arith}
use borrow.Author.Tests.{ne_eqb}
use Rattle.base.proofs.Refusals.{Clear}
use Rattle.base.proofs.Tests.{or_iff}
use Rattle.base.specs.Refusals.{answer}
use Rattle.blockcache.proofs.EveryStep.{exact}
use Rattle.blockcache.proofs.Forms.{well_formed_iff, WellFormed}
use Rattle.blockcache.proofs.Frames.{frame, gate_iff, Next}
use Rattle.blockcache.proofs.GraphSteps.{read_cached}
use Rattle.blockcache.proofs.MarkLaws.{marks_forgotten, right_marks}
use Rattle.blockcache.proofs.Numbers.{call_accepted_iff, limits_iff, number_decides, step_of_number}
use Rattle.blockcache.specs.Abstract.{Allowed, cache_vars, call_op, ready_vars}
use Rattle.blockcache.specs.Form.{is_ready}
use Rattle.blockcache.specs.LetGo.{StoreStep}
use Rattle.blockcache.specs.Narrowings.{narrowed, narrowed_of, step_narrowed}
use Rattle.blockcache.specs.Next.{step_next}
use Rattle.blockcache.specs.NextStep.{NextStep}
use Rattle.blockcache.specs.Rows.{own_rows, step_rows, takes}
use Rattle.blockcache.specs.Step.{cache_next, cache_rows, node_of, outside_limits}
use Rattle.blockcache.specs.Steps.{is_new, number_of, read_step, Step, step_of, steps}
use Rattle.blockcache.specs.Upstream.{ReadStep, unready, Variables}
use Rattle.blockcache.specs.declared.CacheState.{CacheState}
use Rattle.blockcache.specs.declared.Call.{Call}
use Rattle.blockcache.specs.declared.Settings.{Settings}

module _ (g : Settings) (c : CacheState) (q : Call) (w : WellFormed g c q) where
  -- the rows of a step are clear exactly where its predicate allows it and no narrowing of it applies
  step_accepted : (step : Step) →
      Clear (step_rows g c q step) ↔ ((step_narrowed g c q step ≡ false) × ((s' : Variables) × Next g c q step s'))
  step_accepted step =
      let x = exact g c q w step in
      let gates = gate_iff (takes c.phase q.vop q.dop step) (own_rows g c q step) in
      let after = cache_vars (step_next c q step) in (
        (λ k. let h = gates.0 k in (x.free h.1, (after, (frame g c q after step).1 (h.0, x.sound h.0 h.1)))),
        (λ (n, (s', nx)). let o = (frame g c q s' step).0 nx in gates.1 (o.0, x.complete s' n o.1)),
      )

  -- the next state is one that it allows
  step_allowed : (step : Step) → Clear (step_rows g c q step) → Next g c q step (cache_vars (step_next c q step))
  step_allowed step k =
      let h = (gate_iff (takes c.phase q.vop q.dop step) (own_rows g c q step)).0 k in
      (frame g c q (cache_vars (step_next c q step)) step).1 (h.0, (exact g c q w step).sound h.0 h.1)

-- EVERY STEP OF THE STORE

-- some next state
abbrev pub StoreAllows : ℕ → CacheState → ℕ → Call → Type 0
StoreAllows d c n q =
    (step : Step) × (step_of n ≡ some step) × ((s' : Variables) × StoreStep d (cache_vars c) s' (call_op q) q.vop q.reference q.node step)

pub store_accepted : (g : Settings) (c : CacheState) (n : ℕ) (q : Call) →
    (answer (cache_rows g c n q) ≡ 0) ↔ ((narrowed g c n q ≡ false) × StoreAllows g.device c n q)
unfolding narrowed
store_accepted g c n q = (
  (λ e. let x = (call_accepted_iff g c n q).0 e in
      let h = (step_accepted g c q x.form x.step).0 x.clear in
      let within = (limits_iff g c n q).1 ((well_formed_iff g c q).1 x.form, (x.step, x.is)) in
      ((or_iff (outside_limits g c n q) (narrowed_of g c q (step_of n))).1 (within, rw x.is h.0), (x.step, x.is, h.1))),
  (λ (m, (step, e, a)).
      let h = (or_iff (outside_limits g c n q) (narrowed_of g c q (step_of n))).0 m in
      let w = (well_formed_iff g c q).0 ((limits_iff g c n q).0 h.0).0 in
      (call_accepted_iff g c n q).1 (record { form = w; step = step; is = e; clear = (step_accepted g c q w step).1 (rw e at h.1, a) })),
)

pub store_allowed : (g : Settings) (c : CacheState) (n : ℕ) (q : Call) → answer (cache_rows g c n q) ≡ 0 →
    (step : Step) × (step_of n ≡ some step)
    × StoreStep g.device (cache_vars c) (cache_vars (cache_next g.device c n q)) (call_op q) q.vop q.reference q.node step
store_allowed g c n q e =
    let x = (call_accepted_iff g c n q).0 e in
    (x.step, x.is, rw x.is (rw (marks_forgotten g.device (step_next c q x.step)) (step_allowed g c q x.form x.step x.clear)))

-- THE THEOREMS: upstream's steps

-- document 01's are not new
pub old_steps : (n : ℕ) → n ≤ 18 → is_new n ≡ false
old_steps n b = ne_eqb n 19 (λ e. let h = b in omega arith)

-- a number that is no new step's is a step of upstream
pub upstreams : (n : ℕ) (step : Step) → is_new n ≡ false → step_of n ≡ some step → is_new (number_of step) ≡ false
upstreams n step old e = subst (λ m. is_new m ≡ false) (step_of_number n step e) old

module _ (g : Settings) (c : CacheState) (n : ℕ) (q : Call) (old : is_new n ≡ false) where
  pub cache_accepted : (answer (cache_rows g c n q) ≡ 0) ↔ ((narrowed g c n q ≡ false) × Allowed g.device c n q)
  cache_accepted =
      let a = store_accepted g c n q in (
        (λ e. let h = a.0 e in let x = h.1 in (h.0, (x.0, x.1, (x.2.0, rw (upstreams n x.0 old x.1) at x.2.1)))),
        (λ (m, (step, e, (s', k))). a.1 (m, (step, e, (s', rw (upstreams n step old e) k)))),
      )

  pub cache_allowed : answer (cache_rows g c n q) ≡ 0 →
      (step : Step) × (step_of n ≡ some step)
      × NextStep g.device (cache_vars c) (cache_vars (cache_next g.device c n q)) (call_op q) q.vop q.reference q.node step
  cache_allowed e = let x = store_allowed g c n q e in (x.0, x.1, rw (upstreams n x.0 old x.1) at x.2)

-- an accepted read leaves the cache as it is, and ReadStep names the cached node
pub cache_read : (g : Settings) (c : CacheState) (q : Call) → answer (cache_rows g c 17 q) ≡ 0 →
    (is_ready c ≡ true) × (cache_next g.device c 17 q ≡ c) × ReadStep (ready_vars c) q.reference (node_of c 17 q)
unfolding step_of steps
cache_read g c q e =
    let x = (call_accepted_iff g c 17 q).0 e in
    let k : Clear (step_rows g c q read_step) = subst (λ s. Clear (step_rows g c q s))
    (number_decides 17 x.step read_step x.is refl) x.clear in
    let h = (gate_iff (takes c.phase q.vop q.dop read_step) (own_rows g c q read_step)).0 k in
    (h.0.2, right_marks g.device c x.form.blocks.marks, read_cached g c q x.form h.1)

-- a crash leaves the cache unready
pub cache_crash : (d : ℕ) (c : CacheState) (q : Call) → cache_vars (cache_next d c 18 q) ≡ unready
unfolding step_of steps
cache_crash d c q = refl
