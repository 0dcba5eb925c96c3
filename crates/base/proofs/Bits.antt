-- Laws of a word of tests: what the machine's operations on it say of the tests. A set digit, a word with its digits turned over and one shifted
-- down are words of tests again; ones count the tests that pass, trailing zeros find the first. Assumes nothing.
use mathlib.Core.Path.{◌∙◌, ◌≡◌, ap, refl, sym}
use mathlib.Core.Bool.{Bool, ◌||◌, false, false≢true, not, or-false, or-true, true}
use mathlib.Core.Logic.{◌↔◌}
use Prim.Native.Nat.{◌*◌, ◌+◌, ◌-◌, ◌/◌, ◌%◌, ◌<◌, ◌^◌, ◌≤◌, bit_or-bitwise, bitwise, max, suc, zero, ℕ}
use native.Mathlib.Nat.{div-add-mod', mod-eq_of_lt, mod-lt, mod-one, not-suc-le-zero, pow-suc, zero-max}
use native.Mathlib.Omega.{arith}
use lib.Bits.{bit_or, bitwise_block, or_zero_r}
use lib.Count.{ones, ones_cat, count_trailing_zeros}
use lib.Dec.{eqb}
use lib.Pow.{high, low, mod-pow-add, pow-add, pow-lt, pow_pos}
use borrow.Author.Tests.{eq-eqb, ne_eqb}
use Rattle.base.proofs.Scan.{below_or_last, count_zero_at, first_before, first_found, first_is, first_passes, none_at, some_of_none}
use Rattle.base.proofs.Tests.{clash, split}
use Rattle.base.specs.Bits.{digit_at, word_of}
use Rattle.base.specs.Scan.{bit, count_below, first_below, some_below}

pub word_same : (g h : ℕ → Bool) (n : ℕ) → ((k : ℕ) → k < n → g k ≡ h k) → word_of g n ≡ word_of h n
unfolding word_of
word_same g h zero e = refl
word_same g h (suc n) e = rw (word_same g h n (λ k b. e k (omega arith)), e n (omega arith))

bit_lt : (b : Bool) (p r : ℕ) → r < p → bit b * p + r < p * 2
bit_lt true p r h = omega arith
bit_lt false p r h = omega arith

-- a word of n tests has n digits
pub word_lt : (g : ℕ → Bool) (n : ℕ) → word_of g n < 2 ^ n
unfolding word_of
word_lt g zero = omega arith
word_lt g (suc n) = rw (pow-suc 2 n) (bit_lt (g n) (2 ^ n) (word_of g n) (word_lt g n))

-- A DIGIT SET

or_hz : (b : ℕ) → b ≡ b / 2 * 2 + max zero (b % 2)
or_hz b = sym (ap (λ (x : ℕ). b / 2 * 2 + x) (zero-max (b % 2)) ∙ div-add-mod' b 2)

or_is : (a b : ℕ) → bit_or a b ≡ bitwise (λ b. b) max a b
or_is zero b = refl
or_is (suc a) b = bit_or-bitwise (suc a) b

or_block : (k a b r s : ℕ) → r < 2 ^ k → s < 2 ^ k → bit_or (a * 2 ^ k + r) (b * 2 ^ k + s) ≡ bit_or a b * 2 ^ k + bit_or r s
or_block k a b r s u v =
    or_is (a * 2 ^ k + r) (b * 2 ^ k + s) ∙ bitwise_block (λ b. b) max or_hz refl k a b r s u v ∙ rw (or_is a b, or_is r s)

or_bits : (a b : Bool) → bit_or (bit a) (bit b) ≡ bit (a || b)
or_bits true true = refl
or_bits true false = refl
or_bits false b = refl

-- of two words
pub word_or : (g h : ℕ → Bool) (n : ℕ) → bit_or (word_of g n) (word_of h n) ≡ word_of (λ k. g k || h k) n
unfolding word_of
word_or g h zero = refl
word_or g h (suc n) =
    or_block n (bit (g n)) (bit (h n)) (word_of g n) (word_of h n) (word_lt g n) (word_lt h n) ∙ rw (or_bits (g n) (h n), word_or g h n)

bit_or_one : (b : Bool) → bit_or (bit b) 1 ≡ 1
bit_or_one true = refl
bit_or_one false = refl

-- the top digit, and one below it
set_top : (g : ℕ → Bool) (n : ℕ) → bit_or (word_of g (suc n)) (2 ^ n) ≡ word_of (λ k. g k || eqb k n) (suc n)
unfolding word_of
set_top g n =
    let z : 1 * 2 ^ n + 0 ≡ 2 ^ n = omega arith in
    let e : bit_or (bit (g n) * 2 ^ n + word_of g n) (2 ^ n) ≡ bit_or (bit (g n)) 1 * 2 ^ n + bit_or (word_of g n) 0 =
    ap (bit_or (bit (g n) * 2 ^ n + word_of g n)) (sym z) ∙ or_block n (bit (g n)) 1 (word_of g n) 0 (word_lt g n) (pow_pos n) in
    let rest : word_of (λ k. g k || eqb k n) n ≡ word_of g n =
    word_same (λ k. g k || eqb k n) g n (λ k l. rw (ne_eqb k n (λ (x : k ≡ n). omega arith)) (or-false (g k))) in
    e ∙ rw (bit_or_one (g n), or_zero_r (word_of g n), eq-eqb n n refl, or-true (g n), rest)

set_below : (g : ℕ → Bool) (n b : ℕ) → b < n → bit_or (word_of g n) (2 ^ b) ≡ word_of (λ k. g k || eqb k b) n →
    bit_or (word_of g (suc n)) (2 ^ b) ≡ word_of (λ k. g k || eqb k b) (suc n)
unfolding word_of
set_below g n b l h =
    let z : 0 * 2 ^ n + 2 ^ b ≡ 2 ^ b = omega arith in
    let e : bit_or (bit (g n) * 2 ^ n + word_of g n) (2 ^ b) ≡ bit_or (bit (g n)) 0 * 2 ^ n + bit_or (word_of g n) (2 ^ b) =
    ap (bit_or (bit (g n) * 2 ^ n + word_of g n)) (sym z) ∙ or_block n (bit (g n)) 0 (word_of g n) (2 ^ b) (word_lt g n) (pow-lt l) in
    e ∙ rw (or_zero_r (bit (g n)), h, ne_eqb n b (λ (q : n ≡ b). omega arith), or-false (g n))

pub word_set : (g : ℕ → Bool) (n b : ℕ) → b < n → bit_or (word_of g n) (2 ^ b) ≡ word_of (λ k. g k || eqb k b) n
word_set g zero b h = absurd (not-suc-le-zero h)
word_set g (suc n) b h = below_or_last b n h (λ l. set_below g n b l (word_set g n b l)) (λ q. rw q (set_top g n))

-- TURNED OVER

both_bits : (b : Bool) (p x y : ℕ) → x + y + 1 ≡ p → (bit b * p + x) + (bit (not b) * p + y) + 1 ≡ p * 2
both_bits true p x y e = omega arith
both_bits false p x y e = omega arith

word_both : (g : ℕ → Bool) (n : ℕ) → word_of g n + word_of (λ k. not (g k)) n + 1 ≡ 2 ^ n
unfolding word_of
word_both g zero = refl
word_both g (suc n) = rw (pow-suc 2 n) (both_bits (g n) (2 ^ n) (word_of g n) (word_of (λ k. not (g k)) n) (word_both g n))

pub word_not : (g : ℕ → Bool) (n : ℕ) → (2 ^ n - 1) - word_of g n ≡ word_of (λ k. not (g k)) n
word_not g n = omega (arith, word_both g n)

-- SHIFTED DOWN

word_cut : (g : ℕ → Bool) (j m : ℕ) → word_of g (j + m) ≡ word_of (λ k. g (j + k)) m * 2 ^ j + word_of g j
unfolding word_of
word_cut g j zero = let z : j + 0 ≡ j = omega arith in rw z (omega arith)
word_cut g j (suc m) =
    let z : j + suc m ≡ suc (j + m) = omega arith in
    rw (z, word_cut g j m, pow-add 2 j m) (omega arith)

pub word_shift : (g : ℕ → Bool) (j m : ℕ) → word_of g (j + m) / 2 ^ j ≡ word_of (λ k. g (j + k)) m
word_shift g j m = rw (word_cut g j m) (high (word_of (λ k. g (j + k)) m) j (word_lt g j))

-- A DIGIT READ

word_odd : (g : ℕ → Bool) (m : ℕ) → word_of g (1 + m) % 2 ≡ bit (g 0)
unfolding word_of
word_odd g m =
    rw (word_cut g 1 m) (low (word_of (λ k. g (1 + k)) m) 1 (word_lt g 1) ∙ (let z : bit (g 0) * 1 + 0 ≡ bit (g 0) = omega arith in z))

pub word_digit : (g : ℕ → Bool) (n k : ℕ) → k < n → word_of g n / 2 ^ k % 2 ≡ bit (g k)
word_digit g n k h =
    let q : n ≡ k + (1 + (n - k - 1)) = omega arith in
    let z : k + 0 ≡ k = omega arith in
    rw q (rw (word_shift g k (1 + (n - k - 1))) (word_odd (λ j. g (k + j)) (n - k - 1) ∙ ap (λ j. bit (g j)) z))

-- and the test of each place is that of its digit
bit_test : (b : Bool) → eqb (bit b) 1 ≡ b
bit_test true = refl
bit_test false = refl

pub word_read : (g : ℕ → Bool) (n k : ℕ) → k < n → digit_at (word_of g n) k ≡ g k
word_read g n k h = rw (word_digit g n k h) (bit_test (g k))

-- a number below 2 ^ n is the word of its digits
digit_bit : (x : ℕ) → x < 2 → bit (eqb x 1) ≡ x
digit_bit zero h = refl
digit_bit (suc zero) h = refl
digit_bit (suc (suc x)) h = absurd (omega arith)

word_low : (w n : ℕ) → word_of (digit_at w) n ≡ w % 2 ^ n
unfolding word_of
word_low w zero = sym (mod-one w)
word_low w (suc n) =
    let z : suc n ≡ 1 + n = omega arith in
    rw (digit_bit (w / 2 ^ n % 2) (mod-lt (w / 2 ^ n) (omega arith)), word_low w n, z) (sym (mod-pow-add w 1 n))

pub word_of_digits : (w n : ℕ) → w < 2 ^ n → word_of (digit_at w) n ≡ w
word_of_digits w n h = word_low w n ∙ mod-eq_of_lt h

-- ONES

ones_bit : (b : Bool) → ones (bit b) ≡ bit b
unfolding ones
ones_bit true = refl
ones_bit false = refl

pub word_ones : (g : ℕ → Bool) (n : ℕ) → ones (word_of g n) ≡ count_below g n
unfolding word_of count_below ones
word_ones g zero = refl
word_ones g (suc n) =
    ones_cat n (bit (g n)) (word_of g n) (word_lt g n) ∙ rw (ones_bit (g n), word_ones g n) (omega arith)

word_none : (n : ℕ) → word_of (λ k. false) n ≡ 0
unfolding word_of
word_none zero = refl
word_none (suc n) = rw (word_none n) (omega arith)

pub word_zero_iff : (g : ℕ → Bool) (n : ℕ) → (word_of g n ≡ 0) ↔ (some_below g n ≡ false)
unfolding ones
word_zero_iff g n = (
  (λ e. let c : count_below g n ≡ 0 = sym (word_ones g n) ∙ ap ones e in some_of_none g n (λ k b. count_zero_at g n k c b)),
  (λ e. word_same g (λ k. false) n (λ k b. none_at g n k e b) ∙ word_none n),
)

-- TRAILING ZEROS

first_next : (g : ℕ → Bool) (n : ℕ) → g 0 ≡ false → some_below (λ k. g (1 + k)) n ≡ true →
    first_below g (1 + n) ≡ 1 + first_below (λ k. g (1 + k)) n
first_next g n z e =
    let f = first_below (λ k. g (1 + k)) n in
    let l : f < n = first_found (λ k. g (1 + k)) n e in
    first_is g (1 + n) (1 + f) (omega arith) (first_passes (λ k. g (1 + k)) n l) (before f (λ k b. first_before (λ j. g (1 + j)) n k b))
  where
    before : (f : ℕ) → ((k : ℕ) → k < f → g (1 + k) ≡ false) → (j : ℕ) → j < 1 + f → g j ≡ false
    before f h zero b = z
    before f h (suc j) b = let q : 1 + j ≡ suc j = omega arith in rw (← q) (h j (omega arith))

trailing_step : (g : ℕ → Bool) (n m : ℕ) → some_below g (1 + m) ≡ true →
    (some_below (λ k. g (1 + k)) m ≡ true → count_trailing_zeros n (word_of (λ k. g (1 + k)) m) ≡ first_below (λ k. g (1 + k)) m) →
    count_trailing_zeros (suc n) (word_of g (1 + m)) ≡ first_below g (1 + m)
unfolding count_trailing_zeros
trailing_step g n m e rest =
    rw (word_odd g m, word_shift g 1 m)
    (split (g 0)
    (λ t. rw t (sym (first_is g (1 + m) 0 (omega arith) t (λ j b. absurd (not-suc-le-zero b)))))
    (λ f. let s = some_next f in rw (f, rest s) (let n = first_next g m f s in omega arith)))
  where
    none : g 0 ≡ false → some_below (λ k. g (1 + k)) m ≡ false → (k : ℕ) → k < 1 + m → g k ≡ false
    none f t zero b = f
    none f t (suc k) b = let q : 1 + k ≡ suc k = omega arith in rw (← q) (none_at (λ j. g (1 + j)) m k t (omega arith))

    some_next : g 0 ≡ false → some_below (λ k. g (1 + k)) m ≡ true
    some_next f = split (some_below (λ k. g (1 + k)) m) (λ t. t) (λ t. clash e (some_of_none g (1 + m) (none f t)))

pub word_trailing : (g : ℕ → Bool) (n m : ℕ) → some_below g m ≡ true → m ≤ n → count_trailing_zeros n (word_of g m) ≡ first_below g m
unfolding some_below
word_trailing g n zero e h = absurd (false≢true e)
word_trailing g zero (suc m) e h = absurd (not-suc-le-zero h)
word_trailing g (suc n) (suc m) e h =
    let q : suc m ≡ 1 + m = omega arith in
    rw q (trailing_step g n m (rw (← q) e) (λ s. word_trailing (λ k. g (1 + k)) n m s (omega arith)))
