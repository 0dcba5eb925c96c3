-- The marks read: the first free block from one on by the words' zeros, over one word and over two, going round after the last one given, and the count of
-- the free blocks by the words' ones. Assumes nothing.
use Prim.Native.Nat.{◌+◌, ◌-◌, ◌/◌, ◌<◌, ◌^◌, ◌≤◌, ℕ}
use mathlib.Core.Bool.{Bool, false, not, true}
use mathlib.Core.Path.{◌∙◌, ◌≡◌, ap, refl, sym}
use native.Mathlib.Omega.{arith}
use borrow.Author.Tests.{le-leb, le-ltb, lt-leb, lt-ltb, ltb-false, ltb-true}
use lib.Count.{ones, count_trailing_zeros}
use lib.Dec.{ltb}
use Rattle.std.specs.Prelude.{Option, Some, None}
use Rattle.base.proofs.Bits.{word_not, word_of_digits, word_ones, word_shift, word_trailing, word_zero_iff}
use Rattle.base.proofs.Scan.{count_cut, count_not, count_same, first_before, first_found, first_is, first_le, first_miss, first_passes, some_at}
use Rattle.base.proofs.Scan.{some_of_none}
use Rattle.base.proofs.Tests.{clash, split}
use Rattle.base.specs.Bits.{digit_at, word_of}
use Rattle.base.specs.Scan.{count_below, first_below, first_from, some_below}
use Rattle.bitmap.specs.Bitmap.{if_below, is_free_in, next_free}
use Rattle.blockcache.specs.Chooser.{block_after}
use Rattle.blockcache.specs.declared.Marks.{Marks}

-- A NUMBER BELOW AN END, OR NONE

pub below_some : (n k : ℕ) → k < n → Some k ≡ if_below n k
below_some n k h = rw (lt-ltb k n h) refl

pub below_none : (n k : ℕ) → n ≤ k → None ≡ if_below n k
below_none n k h = rw (le-ltb k n h) refl

-- what is asked first, and where that gives none what is asked then
pub or_then : (n j : ℕ) {o r y z : Option ℕ} → o ≡ if_below n j → ((k : ℕ) → o ≡ Some k → r ≡ Some k) → (o ≡ None → r ≡ y) →
    (j < n → Some j ≡ z) → (n ≤ j → y ≡ z) → r ≡ z
or_then n j e some none found missed =
    split (ltb j n)
    (λ t. let h : j < n = ltb-true j n t in some j (e ∙ sym (below_some n j h)) ∙ found h)
    (λ t. let h : n ≤ j = ltb-false j n t in none (e ∙ sym (below_none n j h)) ∙ missed h)

-- THE FIRST FROM A PLACE ON

module _ (test : ℕ → Bool) (a n : ℕ) where
  from_le : a ≤ n → first_from test a n ≤ n
  from_le h = omega (arith, first_le (λ k. test (a + k)) (n - a))

  -- before it the test fails; at it, if it is below n, it passes
  from_before : (j : ℕ) → a ≤ j → j < first_from test a n → test j ≡ false
  from_before j l b =
      let q : a + (j - a) ≡ j = omega arith in
      ap test (sym q) ∙ first_before (λ k. test (a + k)) (n - a) (j - a) (omega arith)

  from_passes : first_from test a n < n → test (first_from test a n) ≡ true
  from_passes b = first_passes (λ k. test (a + k)) (n - a) (omega arith)

  -- and the number of which that holds is the first
  from_is : (f : ℕ) → a ≤ f → f ≤ n → (f < n → test f ≡ true) → ((j : ℕ) → a ≤ j → j < f → test j ≡ false) → f ≡ first_from test a n
  from_is f l h t b =
      split (ltb f n)
      (λ u. let i : f < n = ltb-true f n u in
      let q : a + (f - a) ≡ f = omega arith in
      let e : first_below (λ k. test (a + k)) (n - a) ≡ f - a =
      first_is (λ k. test (a + k)) (n - a) (f - a) (omega arith) (ap test q ∙ t i) (λ j c. b (a + j) (omega arith) (omega arith)) in
      omega arith)
      (λ u. let i : n ≤ f = ltb-false f n u in
      let e : n - a ≡ first_below (λ k. test (a + k)) (n - a) =
      first_miss (λ k. test (a + k)) (n - a)
      (sym (some_of_none (λ k. test (a + k)) (n - a) (λ j c. b (a + j) (omega arith) (omega arith)))) in
      omega arith)

-- OF A WORD

-- digit k is 0
abbrev pub clear_at : ℕ → ℕ → Bool
clear_at w k = not (digit_at w k)

-- the word turned over and shifted down
abbrev pub rest_of : ℕ → ℕ → ℕ
rest_of w f = ((2 ^ 64 - 1) - w) / 2 ^ f

module _ (w f : ℕ) (small : w < 2 ^ 64) (within : f ≤ 64) where
  -- its digits are the tests of the word's digits from place f on
  rest_word : rest_of w f ≡ word_of (λ k. clear_at w (f + k)) (64 - f)
  rest_word =
      let e : (2 ^ 64 - 1) - w ≡ word_of (clear_at w) 64 = ap (λ x. (2 ^ 64 - 1) - x) (sym (word_of_digits w 64 small))
      ∙ word_not (digit_at w) 64 in
      let q : 64 ≡ f + (64 - f) = omega arith in
      ap (λ x. x / 2 ^ f) (e ∙ ap (word_of (clear_at w)) q) ∙ word_shift (clear_at w) f (64 - f)

  pub no_clear : rest_of w f ≡ 0 → None ≡ if_below 64 (first_from (clear_at w) f 64)
  no_clear z =
      let s = (word_zero_iff (λ k. clear_at w (f + k)) (64 - f)).0 (sym rest_word ∙ z) in
      below_none 64 _ (omega (arith, first_miss (λ k. clear_at w (f + k)) (64 - f) (sym s)))

  pub clear_found : (rest_of w f ≡ 0 → ⊥) → Some (f + count_trailing_zeros 64 (rest_of w f)) ≡ if_below 64 (first_from (clear_at w) f 64)
  clear_found z =
      split (some_below (λ k. clear_at w (f + k)) (64 - f))
      (λ t. let e : f + count_trailing_zeros 64 (rest_of w f) ≡ first_from (clear_at w) f 64 =
      rw rest_word (ap (λ x. f + x) (word_trailing (λ k. clear_at w (f + k)) 64 (64 - f) t (omega arith))) in
      rw e (below_some 64 _ (omega (arith, first_found (λ k. clear_at w (f + k)) (64 - f) t))))
      (λ t. absurd (z (rest_word ∙ (word_zero_iff (λ k. clear_at w (f + k)) (64 - f)).1 t)))

pub clear_none : (w f : ℕ) → 64 ≤ f → None ≡ if_below 64 (first_from (clear_at w) f 64)
clear_none w f h = below_none 64 _ (omega arith)

-- OF TWO WORDS

module _ (m : Marks) where
  free_low : (b : ℕ) → b < 64 → is_free_in m b ≡ clear_at m.low b
  free_low b l = rw (lt-ltb b 64 l)

  free_high : (b : ℕ) → is_free_in m (64 + b) ≡ clear_at m.high b
  free_high b = let q : (64 + b) - 64 ≡ b = omega arith in rw (le-ltb (64 + b) 64 (omega arith)) (ap (clear_at m.high) q)

  in_low : (a : ℕ) → first_from (clear_at m.low) a 64 < 64 → first_from (clear_at m.low) a 64 ≡ first_from (is_free_in m) a 128
  in_low a l =
      let f = first_from (clear_at m.low) a 64 in
      from_is (is_free_in m) a 128 f (omega arith) (omega arith)
      (λ i. free_low f l ∙ from_passes (clear_at m.low) a 64 l)
      (λ j c b. free_low j (omega arith) ∙ from_before (clear_at m.low) a 64 j c b)

  -- from place a on, where none is free before place c of the high word
  past : (a c : ℕ) → a ≤ 64 + c → c ≤ 64 → ((j : ℕ) → a ≤ j → j < 64 + c → is_free_in m j ≡ false) →
      64 + first_from (clear_at m.high) c 64 ≡ first_from (is_free_in m) a 128
  past a c l h none =
      let f = first_from (clear_at m.high) c 64 in
      let t : f ≤ 64 = from_le (clear_at m.high) c 64 h in
      from_is (is_free_in m) a 128 (64 + f) (omega arith) (omega arith)
      (λ i. free_high f ∙ from_passes (clear_at m.high) c 64 (omega arith))
      (λ j i b. split (ltb j (64 + c))
      (λ u. none j i (ltb-true j (64 + c) u))
      (λ u. let v : 64 + c ≤ j = ltb-false j (64 + c) u in
      let q : j ≡ 64 + (j - 64) = omega arith in
      rw q (free_high (j - 64) ∙ from_before (clear_at m.high) c 64 (j - 64) (omega arith) (omega arith))))

  pub low_found : (a : ℕ) → first_from (clear_at m.low) a 64 < 64 →
      Some (first_from (clear_at m.low) a 64) ≡ if_below 128 (first_from (is_free_in m) a 128)
  low_found a l = below_some 128 (first_from (clear_at m.low) a 64) (omega arith) ∙ ap (if_below 128) (in_low a l)

  pub low_missed : (a : ℕ) → a ≤ 64 → 64 ≤ first_from (clear_at m.low) a 64 →
      if_below 128 (64 + first_from (clear_at m.high) 0 64) ≡ if_below 128 (first_from (is_free_in m) a 128)
  low_missed a h l =
      ap (if_below 128) (past a 0 h (omega arith) (λ j c b. free_low j b ∙ from_before (clear_at m.low) a 64 j c (omega arith)))

  pub in_high : (a : ℕ) → 64 ≤ a → a ≤ 128 →
      if_below 128 (64 + first_from (clear_at m.high) (a - 64) 64) ≡ if_below 128 (first_from (is_free_in m) a 128)
  in_high a l h = ap (if_below 128) (past a (a - 64) (omega arith) (omega arith) (λ j c b. absurd (omega arith)))

  -- GOING ROUND

  pub none_there : (last : ℕ) → 127 < last → None ≡ if_below 128 (next_free m last)
  unfolding next_free
  none_there last h = rw (lt-leb last 127 h) refl

  module _ (last : ℕ) (h : last ≤ 127) where
    -- block f is free, k places on, and none before it is
    round : (f k : ℕ) → k < 128 → f < 128 → block_after last k ≡ f → is_free_in m f ≡ true →
        ((j : ℕ) → j < k → is_free_in m (block_after last j) ≡ false) → f ≡ next_free m last
    unfolding next_free
    round f k l b e t n =
        let q : first_below (λ k. is_free_in m (block_after last k)) 128 ≡ k = first_is (λ k. is_free_in m (block_after last k)) 128 k l
        (ap (is_free_in m) e ∙ t) n in
        rw (le-leb last 127 h, some_at (is_free_in m) 128 f b t) (sym (ap (block_after last) q ∙ e))

    pub next_after : first_from (is_free_in m) (last + 1) 128 < 128 →
        Some (first_from (is_free_in m) (last + 1) 128) ≡ if_below 128 (next_free m last)
    next_after b =
        let f = first_from (is_free_in m) (last + 1) 128 in
        below_some 128 f b ∙ ap (if_below 128) (round f (f - last - 1) (omega arith) b (omega arith) (from_passes (is_free_in m) (last + 1) 128 b)
        (λ j l. let q : block_after last j ≡ last + 1 + j = omega arith in
        rw q (from_before (is_free_in m) (last + 1) 128 (last + 1 + j) (omega arith) (omega arith))))

    -- none is free from block 0 on
    missed : 128 ≤ first_from (is_free_in m) 0 128 → first_from (is_free_in m) 0 128 ≡ next_free m last
    unfolding next_free
    missed l =
        let u : first_from (is_free_in m) 0 128 ≤ 128 = from_le (is_free_in m) 0 128 (omega arith) in
        let n : some_below (is_free_in m) 128 ≡ false = some_of_none (is_free_in m) 128
        (λ j c. from_before (is_free_in m) 0 128 j (omega arith) (omega arith)) in
        rw (le-leb last 127 h, n) (omega arith)

    pub next_round : 128 ≤ first_from (is_free_in m) (last + 1) 128 →
        if_below 128 (first_from (is_free_in m) 0 128) ≡ if_below 128 (next_free m last)
    next_round b =
        ap (if_below 128)
        (split (ltb (first_from (is_free_in m) 0 128) 128)
        (λ t. found (ltb-true (first_from (is_free_in m) 0 128) 128 t))
        (λ t. missed (ltb-false (first_from (is_free_in m) 0 128) 128 t)))
      where
        behind : (j : ℕ) → last < j → j < 128 → is_free_in m j ≡ false
        behind j l u = from_before (is_free_in m) (last + 1) 128 j (omega arith) (omega arith)

        passed : (j : ℕ) → j < 127 - last + first_from (is_free_in m) 0 128 → first_from (is_free_in m) 0 128 ≤ last →
            is_free_in m (block_after last j) ≡ false
        passed j l u =
            split (ltb (last + 1 + j) 128)
            (λ t. let v : last + 1 + j < 128 = ltb-true (last + 1 + j) 128 t in
            let q : block_after last j ≡ last + 1 + j = omega arith in
            rw q (behind (last + 1 + j) (omega arith) v))
            (λ t. let v : 128 ≤ last + 1 + j = ltb-false (last + 1 + j) 128 t in
            let q : block_after last j ≡ last + 1 + j - 128 = omega arith in
            rw q (from_before (is_free_in m) 0 128 (last + 1 + j - 128) (omega arith) (omega arith)))

        found : first_from (is_free_in m) 0 128 < 128 → first_from (is_free_in m) 0 128 ≡ next_free m last
        found l =
            let f = first_from (is_free_in m) 0 128 in
            let p : is_free_in m f ≡ true = from_passes (is_free_in m) 0 128 l in
            let u : f ≤ last = split (ltb last f) (λ s. clash p (behind f (ltb-true last f s) l)) (λ s. ltb-false last f s) in
            round f (127 - last + f) (omega arith) l (omega arith) p (λ j c. passed j c u)

-- THE COUNT

ones_clear : (w : ℕ) → w < 2 ^ 64 → ones w + count_below (clear_at w) 64 ≡ 64
ones_clear w h = rw (ap ones (sym (word_of_digits w 64 h)) ∙ word_ones (digit_at w) 64) (count_not (digit_at w) 64)

pub free_ones : (m : Marks) → m.low < 2 ^ 64 → m.high < 2 ^ 64 → ones m.low + ones m.high + count_below (is_free_in m) 128 ≡ 128
free_ones m l h =
    omega (
      arith,
      ones_clear m.low l,
      ones_clear m.high h,
      count_cut (is_free_in m) 64 64,
      count_same (is_free_in m) (clear_at m.low) 64 (free_low m),
      count_same (λ k. is_free_in m (64 + k)) (clear_at m.high) 64 (λ k b. free_high m k),
    )
