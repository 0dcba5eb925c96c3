-- A list whose elements behind a place are copied one place on, or back, is the list with one element more, or one less. Assumes nothing.
use mathlib.Core.Path.{◌∙◌, ◌≡◌, ap, sym}
use mathlib.Core.List.{List, [], ◌∷◌, ◌++◌, append-nil}
use Prim.Native.Nat.{ℕ, zero, suc, ◌+◌, ◌-◌, ◌<◌, ◌≤◌}
use native.Mathlib.Nat.{not-suc-le-zero}
use native.Mathlib.Omega.{arith}
use lib.ListN.{drop, drop_of_length-le, length, length-drop, set, take}
use lib.Seq.{set-append_seam, take_all}
use Rattle.std.specs.List.{copy_within}
use Rattle.base.specs.Lists.{opened, closed}

module _ {A : Type 0} where
  abbrev copied_on : List A → ℕ → ℕ → List A
  copied_on l p n = take (suc p) l ++ take (n - p) (drop p l) ++ drop (suc n) l

  opened_go : (l : List A) (p n : ℕ) (w : A) → length l ≡ suc n → p ≤ n → set (copied_on l p n) p w ≡ take (suc n) (opened l p w)
  unfolding opened
  opened_go [] p n w e b = absurd (omega arith)
  opened_go (x ∷ xs) zero n w e b =
      let z : n - 0 ≡ n = omega arith in
      rw (z, drop_of_length-le xs (let b : length xs ≤ n = omega arith in b), append-nil (take n (x ∷ xs)))
  opened_go (x ∷ xs) (suc p) zero w e b = absurd (not-suc-le-zero b)
  opened_go (x ∷ xs) (suc p) (suc m) w e b =
      let z : suc m - suc p ≡ m - p = omega arith in
      rw z (ap (λ r. x ∷ r) (opened_go xs p m w (omega arith) (omega arith)))

  pub opened_by_copy : (l : List A) (p c : ℕ) (w : A) → p < c → length l ≡ c →
      set (copy_within l p (c - 1) (p + 1)) p w ≡ take c (opened l p w)
  opened_by_copy l p c w b e =
      let n = c - 1 in
      let s : p + 1 ≡ suc p = omega arith in
      let t : p + 1 + (c - 1 - p) ≡ suc (c - 1) = omega arith in
      let u : c ≡ suc (c - 1) = omega arith in
      rw (t, s) (opened_go l p n w (omega arith) (omega arith) ∙ ap (λ k. take k (opened l p w)) (sym u))

  -- the one element behind a list, set
  set_last : (xs ys : List A) (n : ℕ) (z : A) → length xs ≡ n → length ys ≡ 1 → set (xs ++ ys) n z ≡ xs ++ (z ∷ [])
  set_last xs [] n z e f = absurd (omega arith)
  set_last xs (y ∷ []) n z e f = rw (← e) (set-append_seam xs y [] z)
  set_last xs (y ∷ w ∷ ys) n z e f = absurd (omega arith)

  abbrev copied_back : List A → ℕ → ℕ → List A
  copied_back l p n = take p l ++ take (n - p) (drop (suc p) l) ++ drop n l

  closed_go : (l : List A) (p n : ℕ) (z : A) → length l ≡ suc n → p ≤ n → set (copied_back l p n) n z ≡ closed l p ++ (z ∷ [])
  unfolding closed
  closed_go [] p n z e b = absurd (omega arith)
  closed_go (x ∷ xs) zero n z e b =
      let y : n - 0 ≡ n = omega arith in
      rw (y, take_all n xs (omega arith)) (set_last xs (drop n (x ∷ xs)) n z (omega arith) (omega (arith, length-drop n (x ∷ xs))))
  closed_go (x ∷ xs) (suc p) zero z e b = absurd (not-suc-le-zero b)
  closed_go (x ∷ xs) (suc p) (suc m) z e b =
      let y : suc m - suc p ≡ m - p = omega arith in
      rw y (ap (λ r. x ∷ r) (closed_go xs p m z (omega arith) (omega arith)))

  pub closed_by_copy : (l : List A) (p c : ℕ) (z : A) → p < c → length l ≡ c →
      set (copy_within l (p + 1) c p) (c - 1) z ≡ closed l p ++ (z ∷ [])
  closed_by_copy l p c z b e =
      let s : p + 1 ≡ suc p = omega arith in
      let t : p + (c - (p + 1)) ≡ c - 1 = omega arith in
      let u : c - suc p ≡ c - 1 - p = omega arith in
      rw (t, s, u) (closed_go l p (c - 1) z (omega arith) (omega arith))
