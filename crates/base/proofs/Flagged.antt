-- A thing with a flag beside it: what it is as an option. Assumes nothing.
use mathlib.Core.Bool.{Bool, false, false≢true, true, true≢false}
use mathlib.Core.Logic.{◌↔◌}
use mathlib.Core.Option.{none, some}
use mathlib.Core.Path.{◌∙◌, ◌≡◌, ap, refl, sym}
use Rattle.base.specs.Maps.{flagged}
use Rattle.base.proofs.Maps.{flagged_some}
use Rattle.base.proofs.Tests.{never}

pub flagged_none_iff : {A : Type 0} (b : Bool) (a : A) → (b ≡ false) ↔ (flagged b a ≡ none)
flagged_none_iff true a = ((λ e. absurd (true≢false e)), (λ e. never (sym e)))
flagged_none_iff false a = ((λ e. refl), (λ e. refl))

pub flagged_is_iff : {A : Type 0} (b : Bool) (a v : A) → (flagged b a ≡ some v) ↔ ((b ≡ true) × (a ≡ v))
flagged_is_iff b a v = (flagged_some b a, λ (t, e). rw t (ap some e))

-- a statement of what is there
pub flagged_each_iff : {A : Type 0} (b : Bool) (a : A) (P : A → Type 0) → ((t : A) → flagged b a ≡ some t → P t) ↔ (b ≡ true → P a)
flagged_each_iff true a P = ((λ h e. h a refl), (λ h t e. let q : a ≡ t = cc in rw (← q) (h refl)))
flagged_each_iff false a P = ((λ h e. absurd (false≢true e)), (λ h t e. never e))

-- what is not flagged is the one blank z, so two flagged things that are equal as options are equal, flag and thing
pub flagged_ext : {A : Type 0} (b c : Bool) (x y z : A) → (b ≡ false → x ≡ z) → (c ≡ false → y ≡ z) → flagged b x ≡ flagged c y → (b ≡ c)
    × (x ≡ y)
flagged_ext true true x y z f g e = (refl, cc)
flagged_ext true false x y z f g e = never (sym e)
flagged_ext false true x y z f g e = never e
flagged_ext false false x y z f g e = (refl, f refl ∙ sym (g refl))
