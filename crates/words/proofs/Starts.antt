-- What it says that one text begins with another, and that two are the same, byte by byte. Assumes nothing.
use Rattle.std.proofs.Common.{◌≡◌, ◌∙◌, ℕ, ◌≤◌, Bool, true, ◌&&◌, eqb, leb, List, length, take, get_or, sym, ap, arith}
use Rattle.std.proofs.lemmas.List.{ext_get_or, get_or-take, length-take, length-take-le}
use Rattle.std.proofs.lemmas.Slice.Eq.{bytes_eq-Decides}
use borrow.Author.Tests.{eq-eqb, eqb-true, le-leb, leb-true}
use lib.Seq.{take_all}
use Rattle.std.specs.Str.{bytes_eq}
use Rattle.base.proofs.Scan.{all_at, all_of}
use Rattle.base.proofs.Tests.{and_left, and_right, clash, split}
use Rattle.base.specs.Scan.{all_below}
use Rattle.words.specs.Bytes.{same_of, starts_of}

-- two tests, each of which passes where the other does
both_ways : (a b : Bool) → (a ≡ true → b ≡ true) → (b ≡ true → a ≡ true) → a ≡ b
both_ways a b f g = split a (λ t. t ∙ sym (f t)) (λ t. split b (λ u. clash (g u) t) (λ u. t ∙ sym u))

begun : (s p : List ℕ) → length p ≤ length s → length (take (length p) s) ≡ length p
begun s p h = length-take-le (length p) s h

-- each byte of p stands at its place in s
abbrev each_of : List ℕ → List ℕ → Bool
each_of s p = all_below (λ k. eqb (get_or s k 0) (get_or p k 0)) (length p)

-- s has at least as many bytes as p, and each byte of p at its place
pub starts_all : (s p : List ℕ) →
    starts_of s p ≡ (leb (length p) (length s) && each_of s p)
starts_all s p = both_ways _ _ there back
  where
    there : starts_of s p ≡ true → (leb (length p) (length s) && each_of s p) ≡ true
    there t =
        let e : p ≡ take (length p) s = (bytes_eq-Decides p (take (length p) s)).0 t in
        let l : length p ≡ length (take (length p) s) = ap length e in
        let h : length p ≤ length s = omega (arith, l, length-take (length p) s) in
        rw (le-leb _ _ h) (all_of (λ j. eqb (get_or s j 0) (get_or p j 0)) (length p)
        (λ k c. eq-eqb (get_or s k 0) (get_or p k 0) (sym (get_or-take (length p) s k 0 c) ∙ ap (λ q. get_or q k 0) (sym e))))

    back : (leb (length p) (length s) && each_of s p) ≡ true → starts_of s p ≡ true
    back t =
        let h : length p ≤ length s = leb-true (length p) (length s) (and_left (leb (length p) (length s)) (each_of s p) t) in
        let a : each_of s p ≡ true = and_right (leb (length p) (length s)) (each_of s p) t in
        (bytes_eq-Decides p (take (length p) s)).1 (ext_get_or 0 p (take (length p) s) (sym (begun s p h))
        (λ k c. sym (get_or-take (length p) s k 0 c
        ∙ eqb-true (get_or s k 0) (get_or p k 0) (all_at (λ j. eqb (get_or s j 0) (get_or p j 0)) (length p) k a c))))

-- the same bytes: one begins with the other, and is as long
pub same_starts : (s p : List ℕ) → same_of s p ≡ (starts_of s p && eqb (length s) (length p))
unfolding same_of
same_starts s p = both_ways _ _ there back
  where
    there : bytes_eq s p ≡ true → (starts_of s p && eqb (length s) (length p)) ≡ true
    there t =
        let e : s ≡ p = (bytes_eq-Decides s p).0 t in
        let l : length s ≡ length p = ap length e in
        let b : starts_of s p ≡ true = (bytes_eq-Decides p (take (length p) s)).1
        (sym (take_all (length p) s (let h : length s ≤ length p = omega (arith, l) in h) ∙ e)) in
        rw b (eq-eqb (length s) (length p) l)

    back : (starts_of s p && eqb (length s) (length p)) ≡ true → bytes_eq s p ≡ true
    back t =
        let l : length s ≡ length p = eqb-true (length s) (length p) (and_right (starts_of s p) (eqb (length s) (length p)) t) in
        let e : p ≡ take (length p) s =
        (bytes_eq-Decides p (take (length p) s)).0 (and_left (starts_of s p) (eqb (length s) (length p)) t) in
        (bytes_eq-Decides s p).1 (sym (e ∙ take_all (length p) s (let h : length s ≤ length p = omega (arith, l) in h)))
