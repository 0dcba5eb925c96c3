-- The number of a step, and what it is for a call to be accepted: it is within the limits, its number is a step's, and none of the step's
-- conditions holds. Assumes nothing.
use Prim.Native.Nat.{◌+◌, ◌≤◌, suc, zero, ℕ}
use mathlib.Core.Bool.{◌&&◌, and-false, Bool, false, not, true}
use mathlib.Core.List.{[], ◌∷◌, List}
use mathlib.Core.Logic.{◌↔◌}
use mathlib.Core.Option.{none, Option, some}
use mathlib.Core.Path.{◌∙◌, ◌≡◌, ap, refl, sym}
use native.Mathlib.Omega.{arith}
use borrow.Author.Tests.{eqb-true, le-leb, le-ltb, leb-true, lt-leb, lt-ltb, ltb-false, ltb-true}
use lib.Dec.{eqb, leb, ltb}
use lib.ListN.{length}
use Rattle.base.proofs.Refusals.{accepted_iff, Clear}
use Rattle.base.proofs.Tests.{and_both, and_iff, and_left, and_right, never, none_iff, not_iff, or_iff, some_iff, split}
use Rattle.base.specs.Lists.{nth}
use Rattle.base.specs.Maps.{is_some}
use Rattle.base.specs.Refusals.{◌when◌, answer, ascending}
use Rattle.blockcache.proofs.EveryStep.{number_of_step, rows_ascend}
use Rattle.blockcache.proofs.Forms.{well_formed_iff, WellFormed}
use Rattle.blockcache.specs.Rows.{step_rows}
use Rattle.blockcache.specs.Step.{cache_rows, outside_limits, rows_of, well_formed}
use Rattle.blockcache.specs.Steps.{number_of, Step, step_of, steps}
use Rattle.blockcache.specs.declared.CacheState.{CacheState}
use Rattle.blockcache.specs.declared.Call.{Call}
use Rattle.blockcache.specs.declared.Settings.{Settings}

-- THE NUMBER

ltb_suc : (k n : ℕ) → ltb (suc k) (suc n) ≡ ltb k n
ltb_suc k n =
    split (ltb k n) (λ t. rw t (lt-ltb (suc k) (suc n) (omega (arith, ltb-true k n t))))
    (λ t. rw t (le-ltb (suc k) (suc n) (omega (arith, ltb-false k n t))))

nth_within : {A : Type 0} (l : List A) (k : ℕ) → is_some (nth l k) ≡ ltb k (length l)
nth_within [] k = sym (le-ltb k 0 (omega arith))
nth_within (x ∷ xs) zero = sym (lt-ltb 0 (suc (length xs)) (omega arith))
nth_within (x ∷ xs) (suc k) = nth_within xs k ∙ sym (ltb_suc k (length xs))

-- the steps have the numbers from 1 to as many as there are
pub step_number : (n : ℕ) → is_some (step_of n) ≡ (leb 1 n && leb n (length steps))
unfolding step_of
step_number zero = refl
step_number (suc k) =
    let e = nth_within steps k in
    split (ltb k (length steps))
    (λ t. let b = ltb-true k (length steps) t in
    e ∙ t ∙ sym (and_both (le-leb 1 (suc k) (omega arith)) (le-leb (suc k) (length steps) (omega arith))))
    (λ t. let b = ltb-false k (length steps) t in
    e ∙ t ∙ sym (rw (lt-leb (suc k) (length steps) (omega arith)) (and-false (leb 1 (suc k)))))

-- n is none of 1 to k: what a match with an arm for each of these leaves for the rest
abbrev pub NoneTo : ℕ → ℕ → Type 0
NoneTo n zero = Unit {0}
NoneTo n (suc k) = NoneTo n k × (n ≡ suc k → ⊥)

none_to : (n k : ℕ) → NoneTo n k → 1 ≤ n → n ≤ k → ⊥
none_to n zero h a b = omega arith
none_to n (suc k) h a b = none_to n k h.0 a (let ne = h.1 in omega arith)

pub no_step : (n : ℕ) → NoneTo n (length steps) → step_of n ≡ none
no_step n h =
    (none_iff (step_of n)).0
    (split (is_some (step_of n))
    (λ t. let b = (and_iff (leb 1 n) (leb n (length steps))).0 (sym (step_number n) ∙ t) in
    absurd (none_to n (length steps) h (leb-true 1 n b.0) (leb-true n (length steps) b.1)))
    (λ t. t))

-- the list gives each step its number
abbrev numbered : ℕ → List Step → Bool
numbered k [] = true
numbered k (step ∷ rest) = eqb (number_of step) k && numbered (suc k) rest

steps_numbered : numbered 1 steps ≡ true
unfolding steps
steps_numbered = refl

nth_number : (l : List Step) (i k : ℕ) (step : Step) → numbered i l ≡ true → nth l k ≡ some step → number_of step ≡ i + k
nth_number [] i k step t e = never e
nth_number (x ∷ xs) i zero step t e =
    let q : x ≡ step = cc in
    let h : number_of x ≡ i = eqb-true (number_of x) i (and_left (eqb (number_of x) i) (numbered (suc i) xs) t) in
    let m : number_of step ≡ i = ap number_of (sym q) ∙ h in
    omega arith
nth_number (x ∷ xs) i (suc k) step t e =
    let h : number_of step ≡ suc i + k = nth_number xs (suc i) k step (and_right (eqb (number_of x) i) (numbered (suc i) xs) t) e in
    omega arith

pub step_of_number : (n : ℕ) (step : Step) → step_of n ≡ some step → n ≡ number_of step
unfolding step_of
step_of_number zero step e = never e
step_of_number (suc k) step e = let h : number_of step ≡ 1 + k = nth_number steps 1 k step steps_numbered e in omega arith

-- the step whose number it is
pub number_decides : (n : ℕ) (step k : Step) → step_of n ≡ some step → eqb n (number_of k) ≡ true → step ≡ k
number_decides n step k e t = let h : step_of n ≡ some k = ap step_of (eqb-true n (number_of k) t) ∙ number_of_step k in cc

-- A CALL THAT IS ACCEPTED

of_ascend : (g : Settings) (c : CacheState) (q : Call) (b : Bool) (o : Option Step) → ascending ((1 when b) ∷ rows_of g c q o) ≡ true
of_ascend g c q b none = refl
of_ascend g c q b (some step) = rows_ascend g c q b step

pub rows_ascending : (g : Settings) (c : CacheState) (n : ℕ) (q : Call) → ascending (cache_rows g c n q) ≡ true
rows_ascending g c n q = of_ascend g c q (outside_limits g c n q) (step_of n)

pub record Accepted (g : Settings) (c : CacheState) (n : ℕ) (q : Call) : Type 0 where
  pub form : WellFormed g c q
  pub step : Step
  pub is : step_of n ≡ some step
  pub clear : Clear (step_rows g c q step)

-- within the limits: the forms, and a step
pub limits_iff : (g : Settings) (c : CacheState) (n : ℕ) (q : Call) →
    (outside_limits g c n q ≡ false) ↔ ((well_formed g c q ≡ true) × ((step : Step) × (step_of n ≡ some step)))
limits_iff g c n q = (
  (λ e. let h = (or_iff (not (well_formed g c q)) (not (is_some (step_of n)))).0 e in
      ((not_iff (well_formed g c q)).0 h.0, (some_iff (step_of n)).0 ((not_iff (is_some (step_of n))).0 h.1))),
  (λ (w, (step, e)). (or_iff (not (well_formed g c q)) (not (is_some (step_of n)))).1
      ((not_iff (well_formed g c q)).1 w, (not_iff (is_some (step_of n))).1 (ap is_some e))),
)

pub call_accepted_iff : (g : Settings) (c : CacheState) (n : ℕ) (q : Call) → (answer (cache_rows g c n q) ≡ 0) ↔ Accepted g c n q
call_accepted_iff g c n q =
    let a = accepted_iff (cache_rows g c n q) (rows_ascending g c n q) in (
      (λ e. let k = a.0 e in let l = (limits_iff g c n q).0 k.0 in
          record { form = (well_formed_iff g c q).0 l.0; step = l.1.0; is = l.1.1; clear = rw l.1.1 at k.1 }),
      (λ x. a.1 ((limits_iff g c n q).1 ((well_formed_iff g c q).1 x.form, (x.step, x.is)), rw x.is x.clear)),
    )
