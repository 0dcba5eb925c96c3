-- What each test says: one law each, `(test ≡ true) ↔ meaning` and its twin for false. Assumes nothing.
use mathlib.Core.Path.{◌≡◌, refl, sym, ◌∙◌}
use mathlib.Core.Bool.{Bool, true, false, cond, not, ◌&&◌, ◌||◌, false≢true, true≢false}
use mathlib.Core.Logic.{◌⊎◌, inl, inr, ◌↔◌}
use mathlib.Core.Option.{Option, some, none, none-ne-some}
use Prim.Native.Nat.{ℕ, ◌<◌, ◌≤◌}
use lib.Dec.{eqb, ltb, leb}
use borrow.Author.Tests.{eqb-true, eqb-false, eq-eqb, ne_eqb, ltb-true, ltb-false, lt-ltb, le-ltb, leb-true, leb-false, le-leb, lt-leb}
use Rattle.base.specs.Maps.{is_some}

-- two cases on a test, each with its equation
abbrev pub split {ℓ} : {X : Type ℓ} (b : Bool) → (b ≡ true → X) → (b ≡ false → X) → X
split true f g = f refl
split false f g = g refl

-- the same in both cases
pub cond_same : {A : Type 0} (b : Bool) (x : A) → cond b x x ≡ x
cond_same true x = refl
cond_same false x = refl

-- both values at once are absurd
pub clash {ℓ} : {X : Type ℓ} {b : Bool} → b ≡ true → b ≡ false → X
clash t f = absurd (false≢true (sym f ∙ t))

pub and_left : (a b : Bool) → (a && b) ≡ true → a ≡ true
and_left true b e = refl
and_left false b e = e

pub and_right : (a b : Bool) → (a && b) ≡ true → b ≡ true
and_right true b e = e
and_right false b e = absurd (false≢true e)

pub and_both : {a b : Bool} → a ≡ true → b ≡ true → (a && b) ≡ true
and_both p q = cc

pub or_left : (a b : Bool) → (a || b) ≡ false → a ≡ false
or_left true b e = e
or_left false b e = refl

pub or_right : (a b : Bool) → (a || b) ≡ false → b ≡ false
or_right true b e = absurd (true≢false e)
or_right false b e = e

pub not_iff : (b : Bool) → (not b ≡ false) ↔ (b ≡ true)
not_iff true = ((λ e. refl), (λ e. refl))
not_iff false = ((λ e. sym e), (λ e. sym e))

pub not_true_iff : (b : Bool) → (not b ≡ true) ↔ (b ≡ false)
not_true_iff true = ((λ e. sym e), (λ e. sym e))
not_true_iff false = ((λ e. refl), (λ e. refl))

pub and_iff : (a b : Bool) → ((a && b) ≡ true) ↔ ((a ≡ true) × (b ≡ true))
and_iff a b = ((λ e. (and_left a b e, and_right a b e)), (λ e. and_both e.0 e.1))

-- an implication and no sum, so that a search can use it
pub and_false_iff : (a b : Bool) → ((a && b) ≡ false) ↔ (a ≡ true → b ≡ false)
and_false_iff true b = ((λ e q. e), (λ h. h refl))
and_false_iff false b = ((λ e q. absurd (false≢true q)), (λ h. refl))

pub or_iff : (a b : Bool) → ((a || b) ≡ false) ↔ ((a ≡ false) × (b ≡ false))
or_iff true b = ((λ e. (e, cc)), (λ e. e.0))
or_iff false b = ((λ e. (refl, e)), (λ e. e.1))

pub or_true_iff : (a b : Bool) → ((a || b) ≡ true) ↔ (a ≡ false → b ≡ true)
or_true_iff true b = ((λ e q. absurd (true≢false q)), (λ h. refl))
or_true_iff false b = ((λ e q. e), (λ h. h refl))

pub or_cases : (a b : Bool) → (a || b) ≡ true → (a ≡ true) ⊎ (b ≡ true)
or_cases true b e = inl refl
or_cases false b e = inr e

pub or_inl : {a : Bool} (b : Bool) → a ≡ true → (a || b) ≡ true
or_inl b e = cc

pub or_inr : (a : Bool) {b : Bool} → b ≡ true → (a || b) ≡ true
or_inr true e = refl
or_inr false e = e

pub eqb_iff : (a b : ℕ) → (eqb a b ≡ true) ↔ (a ≡ b)
eqb_iff a b = (eqb-true a b, eq-eqb a b)

pub eqb_false_iff : (a b : ℕ) → (eqb a b ≡ false) ↔ (a ≡ b → ⊥)
eqb_false_iff a b = (eqb-false a b, ne_eqb a b)

pub ltb_iff : (a b : ℕ) → (ltb a b ≡ true) ↔ (a < b)
ltb_iff a b = (ltb-true a b, lt-ltb a b)

pub ltb_false_iff : (a b : ℕ) → (ltb a b ≡ false) ↔ (b ≤ a)
ltb_false_iff a b = (ltb-false a b, le-ltb a b)

pub leb_iff : (a b : ℕ) → (leb a b ≡ true) ↔ (a ≤ b)
leb_iff a b = (leb-true a b, le-leb a b)

pub leb_false_iff : (a b : ℕ) → (leb a b ≡ false) ↔ (b < a)
leb_false_iff a b = (leb-false a b, lt-leb a b)

-- two tests that mean the same are equal
pub bool_ext : (a b : Bool) → (a ≡ true → b ≡ true) → (b ≡ true → a ≡ true) → a ≡ b
bool_ext true b f g = sym (f refl)
bool_ext false true f g = g refl
bool_ext false false f g = refl

-- an absent thing is none that is there
pub never : {A X : Type 0} {a : A} → ◌≡◌ {A = Option A} none (some a) → X
never {a = a} e = absurd (none-ne-some a e)

module _ {A : Type 0} where
  pub some_iff : (o : Option A) → (is_some o ≡ true) ↔ ((a : A) × (o ≡ some a))
  some_iff none = ((λ e. absurd (false≢true e)), (λ d. never d.1))
  some_iff (some a) = ((λ e. (a, refl)), (λ d. refl))

  pub none_iff : (o : Option A) → (is_some o ≡ false) ↔ (o ≡ none)
  none_iff none = ((λ e. refl), (λ e. refl))
  none_iff (some a) = ((λ e. absurd (true≢false e)), (λ e. never (sym e)))

pub ruleset tests = (
  not_iff,
  not_true_iff,
  and_iff,
  and_false_iff,
  or_iff,
  or_true_iff,
  eqb_iff,
  eqb_false_iff,
  ltb_iff,
  ltb_false_iff,
  leb_iff,
  leb_false_iff,
  some_iff,
  none_iff,
)
