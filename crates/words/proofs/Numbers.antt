-- Laws of numbers as text, for the loop that reads one. Assumes nothing.
use Prim.Native.Nat.{ℕ, zero, suc, ◌+◌, ◌-◌, ◌*◌, ◌^◌, ◌<◌, ◌≤◌}
use mathlib.Core.Bool.{Bool, true, false, ◌&&◌, and-false}
use mathlib.Core.List.{List}
use mathlib.Core.Path.{◌≡◌, refl, sym, ap, ◌∙◌}
use native.Mathlib.Omega.{arith}
use native.Mathlib.Numerals.{add-one}
use lib.Dec.{ltb, eqb}
use lib.ListN.{length, get_or}
use borrow.Author.Tests.{ne_eqb, ltb-true, ltb-false, lt-ltb, le-ltb}
use Rattle.base.specs.Scan.{all_below}
use Rattle.base.proofs.Scan.{below_or_last, all_fails, all_turn}
use Rattle.base.proofs.Tests.{split, clash}
use Rattle.std.proofs.Common.{Option, Some, None, rules}
use Rattle.words.specs.Numbers.{digit, appended_of, value_of, number_of}

abbrev pub is_read : {A : Type 0} → Option A → Bool
is_read (Some a) = true
is_read None = false

-- a digit more that was taken
pub appended_value : (n b m : ℕ) → appended_of n b ≡ Some m → (digit b ≡ true) × (m ≡ n * 10 + (b - 48)) × (m < 2 ^ 64)
appended_value n b m e =
    split (digit b)
    (λ t. split (ltb (n * 10 + (b - 48)) (2 ^ 64))
    (λ u.
    let h : Some (n * 10 + (b - 48)) ≡ Some m = simp (t, u) at e in
    let j : n * 10 + (b - 48) ≡ m = search (rules, h) in
    let k : n * 10 + (b - 48) < 2 ^ 64 = ltb-true _ _ u in
    (t, sym j, omega arith))
    (λ u. clash refl (ap is_read (sym (simp (t, u) at e)))))
    (λ t. clash refl (ap is_read (sym (simp t at e))))

-- a digit more that was not
pub appended_bad : (n b : ℕ) → appended_of n b ≡ None → digit b ≡ true → 2 ^ 64 ≤ n * 10 + (b - 48)
appended_bad n b e t =
    split (ltb (n * 10 + (b - 48)) (2 ^ 64))
    (λ u. clash refl (ap is_read (simp (t, u) at e)))
    (λ u. ltb-false _ _ u)

pub value_more : (s : List ℕ) (k : ℕ) → value_of s (k + 1) ≡ value_of s k * 10 + (get_or s k 0 - 48)
unfolding value_of
value_more s k = rw add-one

pub value_grows : (s : List ℕ) (k n : ℕ) → k ≤ n → value_of s k ≤ value_of s n
unfolding value_of
value_grows s k zero b = let e : k ≡ 0 = omega arith in rw e (let h : value_of s 0 ≤ value_of s 0 = omega arith in h)
value_grows s k (suc n) b =
    below_or_last k (suc n) (let h : k < suc (suc n) = omega arith in h)
    (λ t. let h : value_of s k ≤ value_of s n = value_grows s k n (omega arith) in omega arith)
    (λ e. rw e (let h : value_of s (suc n) ≤ value_of s (suc n) = omega arith in h))

-- one byte more
pub number_turn : (s : List ℕ) (i n m : ℕ) → n ≡ value_of s i →
    true ≡ all_below (λ k. digit (get_or s k 0)) i → appended_of n (get_or s i 0) ≡ Some m →
    (m ≡ value_of s (i + 1)) × (m < 2 ^ 64) × (true ≡ all_below (λ k. digit (get_or s k 0)) (i + 1))
number_turn s i n m e g h =
    let x = appended_value n (get_or s i 0) m h in
    (x.1 ∙ rw (value_more s i, e), x.2, all_turn (λ k. digit (get_or s k 0)) i g (sym x.0))

-- where a byte is not taken the text is no number
pub number_stop : (s : List ℕ) (i n : ℕ) → i < length s → n ≡ value_of s i → appended_of n (get_or s i 0) ≡ None → None ≡ number_of s
unfolding number_of
number_stop s i n b q e =
    split (digit (get_or s i 0))
    (λ t.
    let h : 2 ^ 64 ≤ n * 10 + (get_or s i 0 - 48) = appended_bad n (get_or s i 0) e t in
    let v : value_of s (i + 1) ≤ value_of s (length s) = value_grows s (i + 1) (length s) (omega arith) in
    let m : value_of s (i + 1) ≡ value_of s i * 10 + (get_or s i 0 - 48) = value_more s i in
    let g : 2 ^ 64 ≤ value_of s (length s) = omega (arith, h, v, m, q) in
    simp (le-ltb (value_of s (length s)) (2 ^ 64) g, and-false))
    (λ t. simp (all_fails (λ k. digit (get_or s k 0)) (length s) i b t))

-- where all are taken it is
pub number_good : (s : List ℕ) (n : ℕ) → n ≡ value_of s (length s) → n < 2 ^ 64 →
    true ≡ all_below (λ k. digit (get_or s k 0)) (length s) → (length s ≡ 0 → ⊥) →
    (1 < length s → get_or s 0 0 ≡ 48 → ⊥) → Some n ≡ number_of s
unfolding number_of
number_good s n v f t h k =
    let p : 0 < length s = omega arith in
    let w : value_of s (length s) < 2 ^ 64 = rw (← v) f in
    let j : (ltb 1 (length s) && eqb (get_or s 0 0) 48) ≡ false =
    split (ltb 1 (length s)) (λ x. rw x (ne_eqb _ _ (k (ltb-true _ _ x)))) (λ x. rw x) in
    simp (v, ← t, lt-ltb 0 (length s) p, j, lt-ltb (value_of s (length s)) (2 ^ 64) w)

-- a text without bytes is none, and none of several bytes begins with 0
pub number_empty : (s : List ℕ) → length s ≡ 0 → None ≡ number_of s
unfolding number_of
number_empty s h = let l : 0 ≤ 0 = omega arith in simp (h, le-ltb 0 0 l, and-false)

pub number_led : (s : List ℕ) → 1 < length s → get_or s 0 0 ≡ 48 → None ≡ number_of s
unfolding number_of
number_led s h e = simp (lt-ltb 1 (length s) h, e, and-false)

pub value_none : (s : List ℕ) → 0 ≡ value_of s 0
unfolding value_of
value_none s = refl
