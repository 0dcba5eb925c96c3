-- An array of 64 rows with a count of those that are flagged: what a table and a map of nodes share, so that each law is shown once.
-- Assumes nothing.
use Prim.Native.Nat.{◌<◌, ℕ}
use mathlib.Core.Bool.{Bool, ◌&&◌, cond, false, true}
use mathlib.Core.List.{List}
use mathlib.Core.Logic.Iff
use mathlib.Core.Logic.{◌↔◌}
use mathlib.Core.Path.{◌∙◌, ◌≡◌, refl, sym}
use native.Mathlib.Omega.{arith}
use borrow.Author.Tests.{eqb-false, eqb-true}
use lib.Dec.{eqb}
use lib.ListN.{get_or, get_or-replicate, length, length-replicate, length-set, replicate, set}
use lib.Seq.{ext_get_or, get_or-set_other, get_or-set_same}
use Rattle.base.proofs.Scan.{all_iff, count_zero}
use Rattle.base.proofs.Tests.{and_iff, eqb_iff, split}
use Rattle.base.specs.Scan.{all_below, count_below}

-- one place set, and any place read
pub set_at_place : {A : Type 0} (l : List A) (r : ℕ) (e z : A) (j : ℕ) → r < length l →
    get_or (set l r e) j z ≡ cond (eqb j r) e (get_or l j z)
set_at_place l r e z j b =
    split (eqb j r)
    (λ t. let q : j ≡ r = eqb-true j r t in rw t (rw q (get_or-set_same l r e z b)))
    (λ t. rw t (get_or-set_other l r j e z (eqb-false j r t)))

module _ {A : Type 0} (flag form : A → Bool) (z : A) where
  abbrev pub rows_form : ℕ → List A → Bool
  rows_form n l = eqb (length l) 64 && (eqb n (count_below (λ r. flag (get_or l r z)) 64) && all_below (λ r. form (get_or l r z)) 64)

  pub rows_iff : (n : ℕ) (l : List A) →
      (rows_form n l ≡ true) ↔ ((length l ≡ 64)
      × ((n ≡ count_below (λ r. flag (get_or l r z)) 64) × ((r : ℕ) → r < 64 → form (get_or l r z) ≡ true)))
  rows_iff n l = simp (and_iff, eqb_iff, all_iff) Iff.rfl

  -- the rows settle the count
  pub rows_ext : (n m : ℕ) (l k : List A) → rows_form n l ≡ true → rows_form m k ≡ true →
      ((r : ℕ) → r < 64 → get_or l r z ≡ get_or k r z) → (n ≡ m) × (l ≡ k)
  rows_ext n m l k f g h =
      let u = (rows_iff n l).0 f in
      let v = (rows_iff m k).0 g in
      let e : l ≡ k = ext_get_or z l k (u.0 ∙ sym v.0) (λ r b. h r (omega (arith, u.0))) in
      (u.1.0 ∙ rw e (sym v.1.0), e)

  pub rows_set : (n r : ℕ) (l : List A) (e : A) → rows_form n l ≡ true → r < 64 → form e ≡ true →
      rows_form (count_below (λ j. flag (get_or (set l r e) j z)) 64) (set l r e) ≡ true
  rows_set n r l e f b g =
      let u = (rows_iff n l).0 f in
      (rows_iff _ (set l r e)).1 (
        length-set l r e ∙ u.0,
        (
          refl,
          λ j c. rw (set_at_place l r e z j (omega (arith, u.0)))
              (split (eqb j r) (λ t. rw t g) (λ t. rw t (u.1.1 j c))),
        ),
      )

  pub rows_blank : (w : A) → form w ≡ true → flag w ≡ false → rows_form 0 (replicate 64 w) ≡ true
  rows_blank w f g =
      (rows_iff 0 (replicate 64 w)).1 (
        length-replicate 64 w,
        (
          sym (count_zero (λ r. flag (get_or (replicate 64 w) r z)) 64 (λ r b. rw (get_or-replicate 64 r w z b) g)),
          λ r b. rw (get_or-replicate 64 r w z b) f,
        ),
      )
