-- What a result says where the device is made, and where it is not. Assumes nothing.
use mathlib.Core.Path.{◌≡◌, refl}
use mathlib.Core.Bool.{Bool, true, false, cond}
use mathlib.Core.Logic.{◌↔◌}
use mathlib.Core.Option as maybe
use Prim.Native.Nat.{ℕ, ◌≤◌}
use borrow.Author.Tests.{leb-true, le-leb}
use Rattle.std.specs.Prelude.{Option, None, Ok, Err}
use Rattle.std.specs.Result.{result_unwrap_or}
use Rattle.base.proofs.Tests.{and_iff, split}
use Rattle.disklayout.specs.declared.Kind.{Kind}
use Rattle.disklayout.specs.declared.Refused.{Refused}
use Rattle.disklayout.specs.declared.Refused.TheVariants.{Undefined}
use Rattle.disklayout.specs.Calls.{answered, answered_if, answered_when, holds_on, kind_or_none, number_on, told}
use Rattle.disklayout.specs.Device.{made}

pub made_iff : (d : ℕ) → (made d ≡ true) ↔ (d ≤ 2)
made_iff d = (leb-true d 2, le-leb d 2)

-- an option that is handed on where ok holds
pub option_handed : (ok : Bool) (o : maybe.Option ℕ) →
    cond ok (answered_when true (told o)) (answered_when false (told maybe.none)) ≡ answered_when ok (told o)
option_handed true o = refl
option_handed false o = refl

module _ (d : ℕ) where
  -- a question passes where the device is made and the answer is yes
  pub answered_yes : (b : Bool) → result_unwrap_or (answered d b) false ≡ holds_on d b
  answered_yes b = split (made d) (λ t. rw t) (λ f. rw f)

  pub flag_yes_iff : (b : Bool) → (holds_on d b ≡ true) ↔ ((made d ≡ true) × (b ≡ true))
  flag_yes_iff b = and_iff (made d) b

  pub answered_number : (v : ℕ) → result_unwrap_or (answered d v) 0 ≡ number_on d v
  answered_number v = split (made d) (λ t. rw t) (λ f. rw f)

  pub answered_kind : (k : Option Kind) → result_unwrap_or (answered d k) None ≡ kind_or_none d k
  answered_kind k = split (made d) (λ t. rw t) (λ f. rw f)

  module _ {A : Type 0} (v : A) where
    pub answered_made : made d ≡ true → answered d v ≡ Ok v
    answered_made m = rw m

    pub answered_refused : made d ≡ false → answered d v ≡ Err Undefined
    answered_refused m = rw m

    -- where `pre` is asked for too
    pub answered_past : (pre : Bool) → made d ≡ true → pre ≡ false → answered_if d pre v ≡ Err Undefined
    answered_past pre m f = rw (m, f)

    -- and back
    pub made_told : {x : A} → answered d v ≡ Ok x → (made d ≡ true) × (x ≡ v)
    made_told e = split (made d) (λ t. let q : Ok v ≡ answered d v = rw t in (t, cc)) (λ f. let q : Err Undefined ≡ answered d v = rw f in cc)

    pub refusal_told : {r : Refused} → answered d v ≡ Err r → made d ≡ false
    refusal_told e = split (made d) (λ t. let q : Ok v ≡ answered d v = rw t in cc) (λ f. f)
