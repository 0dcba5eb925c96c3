-- The freeze rule over any settings, cache and call: another than 1 and 2 is refused; the two differ in Freeze alone, and there by 25 alone, which
-- upstream's Freeze gets while a frozen place is set. Assumes nothing.
use Prim.Native.Nat.{ℕ}
use mathlib.Core.Bool.{Bool, and-false, false, or-false, true}
use mathlib.Core.List.{[], ◌∷◌}
use mathlib.Core.Logic.{◌↔◌}
use mathlib.Core.Option.{Option, none, some}
use mathlib.Core.Path.{◌∙◌, ◌≡◌, ap, refl, subst, sym}
use native.Mathlib.Omega.{arith}
use borrow.Author.Tests.{eqb-true}
use lib.Dec.{eqb}
use Rattle.base.proofs.Maps.{flagged_some}
use Rattle.base.proofs.Refusals.{answer_holds}
use Rattle.base.proofs.Tests.{and_iff, or_iff, split}
use Rattle.base.specs.Refusals.{◌when◌, answer, holds}
use Rattle.blockcache.proofs.Demand2.{cache_accepted}
use Rattle.blockcache.proofs.EveryStep.{rows_of_rule}
use Rattle.blockcache.proofs.Gate.{step_unformed}
use Rattle.blockcache.proofs.Numbers.{number_decides, step_of_number}
use Rattle.blockcache.proofs.OpKinds.{on_ready_iff}
use Rattle.blockcache.specs.Abstract.{Allowed, cache_vars}
use Rattle.blockcache.specs.Freezing.{FrozenPlaceSet, freeze_answer, with_rule}
use Rattle.blockcache.specs.Narrowings.{narrowed}
use Rattle.blockcache.specs.Rows.{frozen_held}
use Rattle.blockcache.specs.Step.{answered, cache_rows, cache_step, outside_limits, rows_of}
use Rattle.blockcache.specs.Steps.{Step, freeze_step, step_of, steps}
use Rattle.blockcache.specs.declared.CacheState.{CacheState}
use Rattle.blockcache.specs.declared.Call.{Call}
use Rattle.blockcache.specs.declared.Settings.{Settings}
use Rattle.blockdisk.specs.Form.{is_rule}
use Rattle.disklayout.specs.declared.Location.{Location}

-- Freeze's rows with 25 behind them, and without it
last_row : (b1 b2 b3 b4 b10 b25 : Bool) →
    answer ((1 when b1) ∷ (2 when b2) ∷ (3 when b3) ∷ (4 when b4) ∷ (10 when b10) ∷ (25 when b25) ∷ []) ≡
    freeze_answer b25 (answer ((1 when b1) ∷ (2 when b2) ∷ (3 when b3) ∷ (4 when b4) ∷ (10 when b10) ∷ (25 when false) ∷ []))
unfolding answer
last_row true b2 b3 b4 b10 b25 = refl
last_row false true b3 b4 b10 b25 = refl
last_row false false true b4 b10 b25 = refl
last_row false false false true b10 b25 = refl
last_row false false false false true b25 = refl
last_row false false false false false b25 = refl

module _ (g : Settings) (c : CacheState) (q : Call) where
  -- another rule than 1 and 2 is refused with 1, whatever the step
  pub no_rule_refused : (n : ℕ) → is_rule g.rule ≡ false → cache_step g c n q ≡ answered 1 c
  no_rule_refused n e = step_unformed g c n q (rw (e, and-false) refl)

  -- THE TWO RULES

  -- every other step has the same rows under both
  of_number : (n : ℕ) → (n ≡ 12 → ⊥) → (o : Option Step) → step_of n ≡ o → rows_of (with_rule g 2) c q o ≡ rows_of (with_rule g 1) c q o
  of_number n ne none e = refl
  of_number n ne (some step) e = rows_of_rule g c q step (λ k. ne (step_of_number n step e ∙ k))

  pub other_rows : (n : ℕ) → (n ≡ 12 → ⊥) → cache_rows (with_rule g 2) c n q ≡ cache_rows (with_rule g 1) c n q
  other_rows n ne = rw (of_number n ne (step_of n) refl) refl

  -- under rule 1 Freeze is accepted exactly where 1 doesn't apply and upstream allows it
  pub freeze_rule_1 : g.rule ≡ 1 → (answer (cache_rows g c 12 q) ≡ 0) ↔ ((outside_limits g c 12 q ≡ false) × Allowed g.device c 12 q)
  unfolding narrowed step_of steps
  freeze_rule_1 one =
      let a = cache_accepted g c 12 q refl in
      let free : frozen_held g c ≡ false = rw one refl in
      let n = or_iff (outside_limits g c 12 q) (frozen_held g c) in
      ((λ e. let h = a.0 e in ((n.0 h.0).0, h.1)), (λ (m, k). a.1 (n.1 (m, free), k)))

  -- Freeze has the same rows under both but for 25
  pub freeze_rule_2 : answer (cache_rows (with_rule g 2) c 12 q)
      ≡ freeze_answer c.places.isfrozen (answer (cache_rows (with_rule g 1) c 12 q))
  unfolding step_of steps
  freeze_rule_2 = last_row _ _ _ _ _ _

-- WHAT 25 IS

module _ (g : Settings) (c : CacheState) (q : Call) where
  abbrev set_place : Bool
  set_place = c.places.isfrozen

  -- upstream's Freeze is in Ready
  set_iff : Allowed g.device c 12 q → (set_place ≡ true) ↔ FrozenPlaceSet (cache_vars c)
  unfolding step_of steps
  set_iff (step, e, (s', k)) =
      let z = number_decides 12 step freeze_step e refl in
      let f = rw z at k in
      let ready = on_ready_iff c (λ x. (l : Location) × (x.frozen_indirection_table_loc ≡ some l)) in
      let phase = ((on_ready_iff c _).0 f.2).0 in (
        (λ t. ready.1 (phase, (c.places.frozen, rw t refl))),
        (λ u. (flagged_some set_place c.places.frozen (ready.0 u).1.1).0),
      )

  holds_25 : answer (cache_rows g c 12 q) ≡ 25 → (g.rule ≡ 2) × (set_place ≡ true)
  unfolding step_of steps
  holds_25 e =
      let rows = cache_rows g c 12 q in
      let h : holds 25 rows ≡ true = subst (λ n. holds n rows ≡ true) e
      (answer_holds rows (λ z. let w : ◌≡◌ {A = ℕ} 0 25 = sym z ∙ e in omega arith)) in
      let b = (and_iff (eqb g.rule 2) set_place).0 (simp or-false at h) in
      (eqb-true g.rule 2 b.0, b.1)

-- what 25 is given for, rule 1 accepts
first_accepts : (g : Settings) (c : CacheState) (q : Call) → answer (cache_rows (with_rule g 2) c 12 q) ≡ 25 →
    answer (cache_rows (with_rule g 1) c 12 q) ≡ 0
first_accepts g c q e =
    let a = answer (cache_rows (with_rule g 1) c 12 q) in
    let f : freeze_answer c.places.isfrozen a ≡ 25 = sym (freeze_rule_2 g c q) ∙ e in
    split (eqb a 0)
    (λ t. eqb-true a 0 t)
    (λ t. absurd (let w : ◌≡◌ {A = ℕ} 1 2 = (holds_25 (with_rule g 1) c q (rw t at f)).0 in omega arith))

-- settings of rule 2
under_2 : (g : Settings) → g.rule ≡ 2 → g ≡ with_rule g 2
under_2 g e = λ i. record { device = g.device; rule = e i }

-- 25 is given exactly for upstream's Freeze within the limits, under rule 2, while a frozen place is set; whether there is a frozen table is not asked
pub freeze_25_iff : (g : Settings) (c : CacheState) (q : Call) → (answer (cache_rows g c 12 q) ≡ 25) ↔
    ((outside_limits g c 12 q ≡ false) × Allowed g.device c 12 q × (g.rule ≡ 2) × FrozenPlaceSet (cache_vars c))
freeze_25_iff g c q = (
  (λ e. let h = holds_25 g c q e in
      let is = under_2 g h.0 in
      let f = (freeze_rule_1 (with_rule g 1) c q refl).0 (first_accepts g c q (subst (λ x. answer (cache_rows x c 12 q) ≡ 25) is e)) in
      (subst (λ x. outside_limits x c 12 q ≡ false) (sym is) f.0, f.1, h.0, (set_iff g c q f.1).0 h.1)),
  (λ (m, k, two, u).
      let is = under_2 g two in
      let a = (freeze_rule_1 (with_rule g 1) c q refl).1 (subst (λ x. outside_limits x c 12 q ≡ false) is m, k) in
      ap (λ x. answer (cache_rows x c 12 q)) is ∙ freeze_rule_2 g c q ∙ rw (a, (set_iff g c q k).1 u) refl),
)
