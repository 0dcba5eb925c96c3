-- A call past V, D and phase, as the code makes it: what the step itself does, with the marks made anew where an accepted step may have moved a location
-- or an outstanding write. Assumes nothing.
use Prim.Native.Nat.{ℕ}
use mathlib.Core.Bool.{Bool, ◌&&◌, false, not, true}
use mathlib.Core.List.{◌∷◌}
use mathlib.Core.Option.{Option, none, some}
use mathlib.Core.Path.{◌∙◌, ◌≡◌, refl, sym}
use native.Mathlib.Omega.{arith}
use borrow.Author.Tests.{eqb-true}
use lib.Dec.{eqb}
use Rattle.base.proofs.Refusals.{accepted_iff}
use Rattle.base.proofs.Tests.{split}
use Rattle.base.specs.Maps.{is_some}
use Rattle.base.specs.Refusals.{◌when◌, answer}
use Rattle.blockcache.proofs.EveryStep.{rows_ascend}
use Rattle.blockcache.proofs.Forms.{well_formed_iff}
use Rattle.blockcache.proofs.Frames.{gate_iff}
use Rattle.blockcache.proofs.Gate.{rows_open, step_is, step_shut, step_unformed}
use Rattle.blockcache.proofs.MarkSteps.{marks_stay}
use Rattle.blockcache.proofs.Numbers.{step_of_number}
use Rattle.blockcache.specs.Form.{cache_form, call_form, settings_form}
use Rattle.blockcache.specs.Next.{marks_renewed, step_next}
use Rattle.blockcache.specs.Rows.{own_rows, step_rows, takes}
use Rattle.blockcache.specs.Step.{answered, cache_step, dispatched, gated, next_of, node_of, outcome, past_gate, renewed_outcome, rows_of}
use Rattle.blockcache.specs.Step.{renewed_if, well_formed}
use Rattle.blockcache.specs.Steps.{Step, number_of, relocates, step_of}
use Rattle.blockcache.specs.declared.CacheOutcome.{CacheOutcome}
use Rattle.blockcache.specs.declared.CacheState.{CacheState}
use Rattle.blockcache.specs.declared.Call.{Call}
use Rattle.blockcache.specs.declared.Settings.{Settings}
use Rattle.sectortype.specs.declared.Node.{Node}

-- an outcome with the marks made anew in the next cache, and one with them made anew afterwards, where the step may have moved them
renews : (d n : ℕ) (node : Node) (next c : CacheState) (moved : Bool) → (moved ≡ false → n ≡ 0 → marks_renewed d next ≡ next) →
    outcome n node (marks_renewed d next) c ≡ renewed_if d moved (outcome n node next c)
renews d n node next c moved stay =
    split (eqb n 0)
    (λ t. split moved (λ m. rw (t, m)) (λ m. rw (t, m, stay m (eqb-true n 0 t))))
    (λ t. rw t)

module _ (g : Settings) (c : CacheState) (n : ℕ) (q : Call) (w : well_formed g c q ≡ true) where
  -- a step that moves nothing, accepted
  stays : (step : Step) → answer (step_rows g c q step) ≡ 0 → relocates (number_of step) ≡ false →
      marks_renewed g.device (step_next c q step) ≡ step_next c q step
  unfolding answer
  stays step e m =
      let clear = ((accepted_iff ((1 when false) ∷ step_rows g c q step) (rows_ascend g c q false step)).0 e).1 in
      marks_stay g c q ((well_formed_iff g c q).0 w) step m ((gate_iff (takes c.phase q.vop q.dop step) (own_rows g c q step)).0 clear).1

  of_number : (o : Option Step) → step_of n ≡ o → gated c.phase q.vop q.dop o ≡ 0 →
      outcome (answer ((1 when not (is_some o)) ∷ rows_of g c q o)) (node_of c n q) (next_of g.device c q o) c ≡ renewed_if g.device
      (relocates n) (dispatched g c q o)
  unfolding gated answer past_gate
  of_number none e z = absurd (omega arith)
  of_number (some step) e z =
      let a : answer (step_rows g c q step) ≡ answer (own_rows g c q step) = rows_open g c q step z in
      rw (a, step_of_number n step e)
      (renews g.device (answer (own_rows g c q step)) (node_of c (number_of step) q) (step_next c q step) c (relocates (number_of step))
      (λ m k. stays step (a ∙ k) m))

  pub step_open : gated c.phase q.vop q.dop (step_of n) ≡ 0 →
      cache_step g c n q ≡ renewed_if g.device (relocates n) (dispatched g c q (step_of n))
  step_open z = step_is g c n q ∙ rw w (of_number (step_of n) refl z)

-- THE CODE'S ARMS, one law for each place where it returns

module _ (g : Settings) (c : CacheState) (n : ℕ) (q : Call) where
  pub arm_unnamed : settings_form g ≡ false → answered 1 c ≡ cache_step g c n q
  arm_unnamed s = sym (step_unformed g c n q (rw s))

  module _ (s : settings_form g ≡ true) where
    pub arm_unformed : (cache_form g.device c && call_form q) ≡ false → answered 1 c ≡ cache_step g c n q
    arm_unformed f = sym (step_unformed g c n q (rw s f))

    module _ (f : (cache_form g.device c && call_form q) ≡ true) where
      pub formed : well_formed g c q ≡ true
      formed = rw s f

      pub arm_shut : (gated c.phase q.vop q.dop (step_of n) ≡ 0 → ⊥) →
          answered (gated c.phase q.vop q.dop (step_of n)) c ≡ cache_step g c n q
      arm_shut ne = sym (step_shut g c n q formed ne)

      module _ (z : gated c.phase q.vop q.dop (step_of n) ≡ 0) where
        abbrev does : CacheOutcome
        does = dispatched g c q (step_of n)

        pub arm_moved : (eqb does.answer 0 && relocates n) ≡ true → renewed_outcome g.device does ≡ cache_step g c n q
        arm_moved t = sym (step_open g c n q formed z ∙ rw t)

        pub arm_stays : (eqb does.answer 0 && relocates n) ≡ false → does ≡ cache_step g c n q
        arm_stays t = sym (step_open g c n q formed z ∙ rw t)
