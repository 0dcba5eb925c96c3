-- Laws of a list with one element more or one less, and of a loop that fills an array. Assumes nothing.
use mathlib.Core.Path.{◌≡◌, refl, ap, sym, ◌∙◌}
use mathlib.Core.List.{List, [], ◌∷◌, ◌++◌, map}
use Prim.Native.Nat.{ℕ, zero, suc, ◌+◌, ◌-◌, ◌<◌, ◌≤◌}
use native.Mathlib.Nat.{le_of_suc-le-suc, not-suc-le-zero}
use native.Mathlib.Omega.{arith}
use lib.Dec.{ltb}
use borrow.Author.Tests.{ltb-true, ltb-false}
use lib.ListN.{length, get_or, set, length-map}
use lib.Seq.{get_or-set_same, get_or-set_other, ext_get_or}
use Rattle.base.specs.Lists.{opened, closed}
use Rattle.base.proofs.Tests.{split}

module _ {A : Type 0} where
  pub length_opened : (l : List A) (p : ℕ) (w : A) → p ≤ length l → length (opened l p w) ≡ suc (length l)
  unfolding opened
  length_opened l zero w b = refl
  length_opened [] (suc p) w b = refl
  length_opened (x ∷ xs) (suc p) w b = ap suc (length_opened xs p w (le_of_suc-le-suc b))

  pub length_closed : (l : List A) (p : ℕ) → p < length l → suc (length (closed l p)) ≡ length l
  unfolding closed
  length_closed [] p b = absurd (not-suc-le-zero b)
  length_closed (x ∷ xs) zero b = refl
  length_closed (x ∷ xs) (suc p) b = ap suc (length_closed xs p (le_of_suc-le-suc b))

  -- before, at and behind the place
  pub opened_before : (l : List A) (p : ℕ) (w d : A) (k : ℕ) → k < p → p ≤ length l → get_or (opened l p w) k d ≡ get_or l k d
  unfolding opened
  opened_before l zero w d k a b = absurd (not-suc-le-zero a)
  opened_before [] (suc p) w d k a b = absurd (not-suc-le-zero b)
  opened_before (x ∷ xs) (suc p) w d zero a b = refl
  opened_before (x ∷ xs) (suc p) w d (suc k) a b = opened_before xs p w d k (le_of_suc-le-suc a) (le_of_suc-le-suc b)

  pub opened_at : (l : List A) (p : ℕ) (w d : A) → p ≤ length l → get_or (opened l p w) p d ≡ w
  unfolding opened
  opened_at l zero w d b = refl
  opened_at [] (suc p) w d b = absurd (not-suc-le-zero b)
  opened_at (x ∷ xs) (suc p) w d b = opened_at xs p w d (le_of_suc-le-suc b)

  -- with the code's `- 1`
  pub opened_behind : (l : List A) (p : ℕ) (w d : A) (k : ℕ) → p < k → p ≤ length l → get_or (opened l p w) k d ≡ get_or l (k - 1) d
  unfolding opened
  opened_behind l p w d zero a b = absurd (not-suc-le-zero a)
  opened_behind l p w d (suc k) a b = let e : suc k - 1 ≡ k = omega arith in rw e (go l p k (le_of_suc-le-suc a) b)
    where
      go : (l : List A) (p k : ℕ) → p ≤ k → p ≤ length l → get_or (opened l p w) (suc k) d ≡ get_or l k d
      go l zero k a b = refl
      go [] (suc p) k a b = absurd (not-suc-le-zero b)
      go (x ∷ xs) (suc p) zero a b = absurd (not-suc-le-zero a)
      go (x ∷ xs) (suc p) (suc k) a b = go xs p k (le_of_suc-le-suc a) (le_of_suc-le-suc b)

  pub closed_before : (l : List A) (p : ℕ) (d : A) (k : ℕ) → k < p → get_or (closed l p) k d ≡ get_or l k d
  unfolding closed
  closed_before l zero d k a = absurd (not-suc-le-zero a)
  closed_before [] (suc p) d k a = refl
  closed_before (x ∷ xs) (suc p) d zero a = refl
  closed_before (x ∷ xs) (suc p) d (suc k) a = closed_before xs p d k (le_of_suc-le-suc a)

  pub closed_behind : (l : List A) (p : ℕ) (d : A) (k : ℕ) → p ≤ k → get_or (closed l p) k d ≡ get_or l (suc k) d
  unfolding closed
  closed_behind [] p d k a = refl
  closed_behind (x ∷ xs) zero d k a = refl
  closed_behind (x ∷ xs) (suc p) d zero a = absurd (not-suc-le-zero a)
  closed_behind (x ∷ xs) (suc p) d (suc k) a = closed_behind xs p d k (le_of_suc-le-suc a)

  -- an element past the end changes no read
  pub get_d_pad : (l : List A) (d : A) (k : ℕ) → get_or (l ++ (d ∷ [])) k d ≡ get_or l k d
  get_d_pad [] d zero = refl
  get_d_pad [] d (suc k) = refl
  get_d_pad (x ∷ xs) d zero = refl
  get_d_pad (x ∷ xs) d (suc k) = get_d_pad xs d k

  -- A loop that fills an array toward the list t: after a turn, and at its end.
  pub fill_turn : (t : List A) (d : A) (l : List A) (i : ℕ) (v : A) → i < length l → ((k : ℕ) → k < i → get_or l k d ≡ get_or t k d) →
      v ≡ get_or t i d →
      (k : ℕ) → k < i + 1 → get_or (set l i v) k d ≡ get_or t k d
  fill_turn t d l i v b h e k a =
      split (ltb k i)
      (λ y. let m : k < i = ltb-true k i y in get_or-set_other l i k v d (λ q. omega arith) ∙ h k m)
      (λ y. let m : i ≤ k = ltb-false k i y in let q : k ≡ i = omega arith in rw q (get_or-set_same l i v d b ∙ e))

  pub fill_end : (t : List A) (d : A) (l : List A) {i n : ℕ} → length l ≡ n → length t ≡ n →
      ((k : ℕ) → k < i → get_or l k d ≡ get_or t k d) → n ≤ i → l ≡ t
  fill_end t d l {i} {n} u v h b = ext_get_or d l t (u ∙ sym v) (λ k a. h k (omega arith))

-- the length of an array of structs that is a field of a parameter: `search (needs, unmapped)`
pub unmapped : (X Y : Type 0) (f : X → Y) (l : List X) (n : ℕ) → length (map f l) ≡ n → length l ≡ n
unmapped X Y f l n e = sym (length-map l f) ∙ e
