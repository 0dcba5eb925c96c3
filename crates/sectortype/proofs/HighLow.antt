-- Contents are equal, and zeros, where the tests say so. Assumes nothing.
use mathlib.Core.Bool.{true}
use mathlib.Core.Logic.Iff
use mathlib.Core.Logic.{◌↔◌}
use mathlib.Core.Path.{◌≡◌, ap, refl}
use Rattle.base.proofs.Tests.{and_iff, eqb_iff}
use Rattle.sectortype.specs.HighLow.{contents_zero, same_contents, zero_contents}
use Rattle.sectortype.specs.declared.Contents.{Contents}

pub contents_ext : {a b : Contents} → a.high ≡ b.high → a.low ≡ b.low → a ≡ b
contents_ext p q = λ i. record { high = p i; low = q i }

pub same_contents_iff : (a b : Contents) → (same_contents a b ≡ true) ↔ (a ≡ b)
unfolding same_contents
same_contents_iff a b = (
  (λ e. let h = simp (and_iff, eqb_iff) at e in contents_ext h.0 h.1),
  (λ e. simp (and_iff, eqb_iff) (ap (λ c. c.high) e, ap (λ c. c.low) e)),
)

pub contents_zero_iff : (c : Contents) → (contents_zero c ≡ true) ↔ ((c.high ≡ 0) × (c.low ≡ 0))
unfolding contents_zero
contents_zero_iff c = simp (and_iff, eqb_iff) Iff.rfl

pub contents_zero_is : (c : Contents) → contents_zero c ≡ true → c ≡ zero_contents
contents_zero_is c e = let h = (contents_zero_iff c).0 e in contents_ext h.0 h.1

pub zero_contents_zero : contents_zero zero_contents ≡ true
zero_contents_zero = (contents_zero_iff zero_contents).1 (refl, refl)
