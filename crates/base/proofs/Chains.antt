-- The library's words for a chain over a list, as tests of the numbers below its length: of the whole list, of its first n, and of each
-- element with its place. Each law takes the length as a number of its own and d, which stands past the end. Assumes nothing.
use mathlib.Core.Path.{◌∙◌, ◌≡◌, ap, refl, sym}
use mathlib.Core.Bool.{Bool, ◌&&◌, ◌||◌, cond, false, not, true}
use mathlib.Core.List.{List, [], ◌∷◌}
use Prim.Native.Nat.{ℕ, min, zero, suc, ◌+◌, ◌<◌, ◌≤◌}
use native.Mathlib.Omega.{arith}
use mir.Val.{bool_byte}
use lib.Dec.{leb, ltb}
use lib.ListN.{length, get_or, length-take, take}
use lib.Pointwise.{pointwise}
use lib.Seq.{get_or-take, length-take-le}
use borrow.Author.Tests.{le-leb, le-ltb, lt-leb, lt-ltb, ltb-false, ltb-true}
use Rattle.std.specs.List.{list_any, list_all, count_by, enumerate_from, position, position_or_len, zip}
use Rattle.std.specs.Prelude.{Option, Some, None, unwrap_or}
use Rattle.std.proofs.lemmas.List.FromFn.{get_or-enumerate_from, length-enumerate_from}
use Rattle.std.proofs.lemmas.List.Sums.{position_or_len_is, sum_by-cons}
use Rattle.base.specs.Scan.{all_below, bit, count_below, first_below, some_below}
use Rattle.base.proofs.Scan.{all_of, all_same, count_same, count_zero, none_at, some_of_none, some_same}
use Rattle.base.proofs.Scan.{first_before, first_found, first_is, first_le, first_miss, first_passes, first_same}
use Rattle.base.proofs.Tests.{or_inr, split}

-- A TEST OF THE FIRST NUMBER, AND OF THE REST

or_assoc : (a b c : Bool) → ((a || b) || c) ≡ (a || (b || c))
or_assoc true b c = refl
or_assoc false b c = refl

pub and_assoc : (a b c : Bool) → ((a && b) && c) ≡ (a && (b && c))
and_assoc true b c = refl
and_assoc false b c = refl

or_nothing : (a : Bool) → a ≡ (a || false)
or_nothing true = refl
or_nothing false = refl

and_nothing : (a : Bool) → a ≡ (a && true)
and_nothing true = refl
and_nothing false = refl

pub some_front : (g : ℕ → Bool) (n : ℕ) → some_below g (suc n) ≡ (g 0 || some_below (λ k. g (suc k)) n)
unfolding some_below
some_front g zero = or_nothing (g 0)
some_front g (suc n) = ap (λ b. b || g (suc n)) (some_front g n) ∙ or_assoc (g 0) (some_below (λ k. g (suc k)) n) (g (suc n))

pub all_front : (g : ℕ → Bool) (n : ℕ) → all_below g (suc n) ≡ (g 0 && all_below (λ k. g (suc k)) n)
unfolding all_below
all_front g zero = and_nothing (g 0)
all_front g (suc n) = ap (λ b. b && g (suc n)) (all_front g n) ∙ and_assoc (g 0) (all_below (λ k. g (suc k)) n) (g (suc n))

pub count_front : (g : ℕ → Bool) (n : ℕ) → count_below g (suc n) ≡ bit (g 0) + count_below (λ k. g (suc k)) n
unfolding count_below
count_front g zero = omega arith
count_front g (suc n) = omega (arith, count_front g n)

ltb_next : (k n : ℕ) → ltb (suc k) (suc n) ≡ ltb k n
ltb_next k n = split (ltb k n) (λ t. let b : k < n = ltb-true k n t in rw (t, lt-ltb (suc k) (suc n) (omega arith)))
    (λ t. let b : n ≤ k = ltb-false k n t in rw (t, le-ltb (suc k) (suc n) (omega arith)))

-- A PLACE, OR NONE WHERE IT IS THE END

abbrev pub place_or_none : ℕ → ℕ → Option ℕ
place_or_none i n = cond (ltb i n) (Some i) None

pub place_or : (i n : ℕ) → i ≤ n → unwrap_or (place_or_none i n) n ≡ i
place_or i n b = split (ltb i n) (λ t. rw t) (λ t. let j : n ≤ i = ltb-false i n t in rw t (omega arith))

pub place_some : (i n : ℕ) {p : ℕ} → place_or_none i n ≡ Some p → (i ≡ p) × (p < n)
place_some i n {p} e =
    split (ltb i n)
    (λ t. let s : ◌≡◌ {A = Option ℕ} (Some i) (Some p) = rw t at e in
    let q : i ≡ p = cc in let b : i < n = ltb-true i n t in (q, omega arith))
    (λ t. let s : ◌≡◌ {A = Option ℕ} None (Some p) = rw t at e in cc)

pub place_none : (i n : ℕ) → i ≤ n → place_or_none i n ≡ None → i ≡ n
place_none i n b e =
    split (ltb i n) (λ t. let s : ◌≡◌ {A = Option ℕ} (Some i) None = rw t at e in cc) (λ t. let c : n ≤ i = ltb-false i n t in omega arith)

-- of n places, none of which passes from m on
pub place_cut : (g : ℕ → Bool) (m n : ℕ) → m ≤ n → ((k : ℕ) → m ≤ k → k < n → g k ≡ false) →
    place_or_none (first_below g m) m ≡ place_or_none (first_below g n) n
place_cut g m n b none = split (some_below g m) found missed
  where
    found : some_below g m ≡ true → place_or_none (first_below g m) m ≡ place_or_none (first_below g n) n
    found t =
        let f : first_below g m < m = first_found g m t in
        let e : first_below g n ≡ first_below g m =
        first_is g n (first_below g m) (omega arith) (first_passes g m f) (λ j c. first_before g m j c) in
        rw (e, lt-ltb _ _ f, lt-ltb (first_below g m) n (omega arith))

    failing : some_below g m ≡ false → (k : ℕ) → k < n → g k ≡ false
    failing t k c = split (ltb k m) (λ u. none_at g m k t (ltb-true k m u)) (λ u. none k (ltb-false k m u) c)

    missed : some_below g m ≡ false → place_or_none (first_below g m) m ≡ place_or_none (first_below g n) n
    missed t =
        let x : m ≡ first_below g m = first_miss g m (sym t) in
        let y : n ≡ first_below g n = first_miss g n (sym (some_of_none g n (failing t))) in
        rw (le-ltb (first_below g m) m (omega arith), le-ltb (first_below g n) n (omega arith))

-- the first of m, or m, is the first that passes or is no place of m
pub first_front : (g : ℕ → Bool) (m n : ℕ) → m ≤ n → first_below g m ≡ first_below (λ k. leb m k || g k) n
first_front g m n b = split (some_below g m) found missed
  where
    before : (k : ℕ) → k < m → g k ≡ false → (leb m k || g k) ≡ false
    before k c e = rw (lt-leb m k c, e)

    found : some_below g m ≡ true → first_below g m ≡ first_below (λ k. leb m k || g k) n
    found t =
        let f : first_below g m < m = first_found g m t in
        sym (first_is (λ k. leb m k || g k) n (first_below g m) (omega arith) (or_inr _ (first_passes g m f))
        (λ j c. before j (omega arith) (first_before g m j c)))

    missed : some_below g m ≡ false → first_below g m ≡ first_below (λ k. leb m k || g k) n
    missed t =
        let x : m ≡ first_below g m = first_miss g m (sym t) in
        split (ltb m n)
        (λ u. sym x ∙ sym (first_is (λ k. leb m k || g k) n m (ltb-true m n u) (rw (le-leb m m (omega arith)))
        (λ j c. before j c (none_at g m j t c))))
        (λ u. let c : n ≤ m = ltb-false m n u in let e : m ≡ n = omega arith in
        sym x ∙ e ∙ first_miss (λ k. leb m k || g k) n
        (sym (some_of_none _ n (λ k d. before k (omega arith) (none_at g m k t (omega arith))))))

-- THE WHOLE LIST

module _ {A : Type 0} (p : A → Bool) (d : A) where
  pub any_is_some : (xs : List A) → list_any p xs ≡ some_below (λ k. p (get_or xs k d)) (length xs)
  unfolding some_below
  any_is_some [] = refl
  any_is_some (x ∷ xs) = ap (λ b. p x || b) (any_is_some xs) ∙ sym (some_front (λ k. p (get_or (x ∷ xs) k d)) (length xs))

  pub all_is_all : (xs : List A) → list_all p xs ≡ all_below (λ k. p (get_or xs k d)) (length xs)
  unfolding all_below
  all_is_all [] = refl
  all_is_all (x ∷ xs) = ap (λ b. p x && b) (all_is_all xs) ∙ sym (all_front (λ k. p (get_or (x ∷ xs) k d)) (length xs))

  pub count_is_count : (xs : List A) → count_by p xs ≡ count_below (λ k. p (get_or xs k d)) (length xs)
  unfolding count_below
  count_is_count [] = refl
  count_is_count (x ∷ xs) =
      sum_by-cons (λ y. cond (p y) 1 0) x xs ∙ ap (λ n. bit (p x) + n) (count_is_count xs)
      ∙ sym (count_front (λ k. p (get_or (x ∷ xs) k d)) (length xs))

  -- of a list of n
  pub any_is_some_of : (n : ℕ) (xs : List A) → length xs ≡ n → list_any p xs ≡ some_below (λ k. p (get_or xs k d)) n
  any_is_some_of n xs e = any_is_some xs ∙ ap (some_below (λ k. p (get_or xs k d))) e

  pub all_is_all_of : (n : ℕ) (xs : List A) → length xs ≡ n → list_all p xs ≡ all_below (λ k. p (get_or xs k d)) n
  all_is_all_of n xs e = all_is_all xs ∙ ap (all_below (λ k. p (get_or xs k d))) e

  pub count_is_count_of : (n : ℕ) (xs : List A) → length xs ≡ n → count_by p xs ≡ count_below (λ k. p (get_or xs k d)) n
  count_is_count_of n xs e = count_is_count xs ∙ ap (count_below (λ k. p (get_or xs k d))) e

  pub first_is_first : (xs : List A) → position_or_len p xs ≡ first_below (λ k. p (get_or xs k d)) (length xs)
  first_is_first xs =
      position_or_len_is p xs (first_below (λ k. p (get_or xs k d)) (length xs)) d (first_le _ (length xs))
      (λ k b. first_before _ (length xs) k b) (λ b. first_passes _ (length xs) b)

  pub position_is_first : (xs : List A) →
      position p xs ≡ place_or_none (first_below (λ k. p (get_or xs k d)) (length xs)) (length xs)
  position_is_first xs = ap (λ i. place_or_none i (length xs)) (first_is_first xs)

  pub position_or_end : (xs : List A) (n : ℕ) → length xs ≡ n →
      unwrap_or (position p xs) n ≡ first_below (λ k. p (get_or xs k d)) n
  position_or_end xs n e =
      rw (← e) (ap (λ o. unwrap_or o (length xs)) (position_is_first xs)
      ∙ place_or (first_below (λ k. p (get_or xs k d)) (length xs)) (length xs) (first_le _ (length xs)))

  -- THE FIRST n

  pub any_front_is_some : (n : ℕ) (xs : List A) → list_any p (take n xs) ≡ some_below (λ k. ltb k n && p (get_or xs k d)) (length xs)
  any_front_is_some zero xs = sym (some_of_none _ (length xs) (λ k b. rw (le-ltb k 0 (omega arith))))
  any_front_is_some (suc n) [] = sym (some_of_none _ 0 (λ k b. absurd (omega arith)))
  any_front_is_some (suc n) (x ∷ xs) =
      ap (λ b. p x || b) (any_front_is_some n xs)
      ∙ sym (some_front (λ k. ltb k (suc n) && p (get_or (x ∷ xs) k d)) (length xs) ∙ rw (lt-ltb 0 (suc n) (omega arith))
      (ap (λ b. p x || b) (some_same _ _ (length xs) (λ k b. ap (λ t. t && p (get_or xs k d)) (ltb_next k n)))))

  pub all_front_is_all : (n : ℕ) (xs : List A) →
      list_all p (take n xs) ≡ all_below (λ k. not (ltb k n) || p (get_or xs k d)) (length xs)
  all_front_is_all zero xs = sym (all_of _ (length xs) (λ k b. rw (le-ltb k 0 (omega arith))))
  all_front_is_all (suc n) [] = sym (all_of _ 0 (λ k b. absurd (omega arith)))
  all_front_is_all (suc n) (x ∷ xs) =
      ap (λ b. p x && b) (all_front_is_all n xs)
      ∙ sym (all_front (λ k. not (ltb k (suc n)) || p (get_or (x ∷ xs) k d)) (length xs) ∙ rw (lt-ltb 0 (suc n) (omega arith))
      (ap (λ b. p x && b) (all_same _ _ (length xs) (λ k b. ap (λ t. not t || p (get_or xs k d)) (ltb_next k n)))))

  pub count_front_is_count : (n : ℕ) (xs : List A) →
      count_by p (take n xs) ≡ count_below (λ k. ltb k n && p (get_or xs k d)) (length xs)
  count_front_is_count zero xs = sym (count_zero _ (length xs) (λ k b. rw (le-ltb k 0 (omega arith))))
  count_front_is_count (suc n) [] = sym (count_zero _ 0 (λ k b. absurd (omega arith)))
  count_front_is_count (suc n) (x ∷ xs) =
      sum_by-cons (λ y. cond (p y) 1 0) x (take n xs) ∙ ap (λ n. bit (p x) + n) (count_front_is_count n xs)
      ∙ sym (count_front (λ k. ltb k (suc n) && p (get_or (x ∷ xs) k d)) (length xs) ∙ rw (lt-ltb 0 (suc n) (omega arith))
      (ap (λ b. bit (p x) + b) (count_same _ _ (length xs) (λ k b. ap (λ t. t && p (get_or xs k d)) (ltb_next k n)))))

  -- of a list of c
  pub any_front_is_some_of : (c n : ℕ) (xs : List A) → length xs ≡ c →
      list_any p (take n xs) ≡ some_below (λ k. ltb k n && p (get_or xs k d)) c
  any_front_is_some_of c n xs e = any_front_is_some n xs ∙ ap (some_below (λ k. ltb k n && p (get_or xs k d))) e

  pub all_front_is_all_of : (c n : ℕ) (xs : List A) → length xs ≡ c →
      list_all p (take n xs) ≡ all_below (λ k. not (ltb k n) || p (get_or xs k d)) c
  all_front_is_all_of c n xs e = all_front_is_all n xs ∙ ap (all_below (λ k. not (ltb k n) || p (get_or xs k d))) e

  pub position_front_is_first : (n : ℕ) (xs : List A) →
      position p (take n xs) ≡ place_or_none (first_below (λ k. ltb k n && p (get_or xs k d)) (length xs)) (length xs)
  position_front_is_first n xs =
      position_is_first (take n xs)
      ∙ rw (length-take n xs)
      (ap (λ i. place_or_none i (min n (length xs)))
      (first_same _ _ (min n (length xs)) (λ k b. rw (lt-ltb k n (omega arith)) (ap p (get_or-take n xs k d (omega arith)))))
      ∙ place_cut _ (min n (length xs)) (length xs) (omega arith)
      (λ k a b. rw (le-ltb k n (omega arith))))

  pub position_front_or_end : (c n : ℕ) (xs : List A) → length xs ≡ c →
      unwrap_or (position p (take n xs)) c ≡ first_below (λ k. ltb k n && p (get_or xs k d)) c
  position_front_or_end c n xs e =
      rw (← e) (ap (λ o. unwrap_or o (length xs)) (position_front_is_first n xs) ∙ place_or _ (length xs) (first_le _ (length xs)))

  pub position_front_or_front : (n : ℕ) (xs : List A) → n ≤ length xs →
      unwrap_or (position p (take n xs)) n ≡ first_below (λ k. leb n k || p (get_or xs k d)) (length xs)
  position_front_or_front n xs b =
      position_or_end (take n xs) n (length-take-le n xs b)
      ∙ first_same _ _ n (λ k c. ap p (get_or-take n xs k d c)) ∙ first_front (λ k. p (get_or xs k d)) n (length xs) b

-- EACH ELEMENT WITH ITS PLACE

module _ {A : Type 0} (h : ℕ → A → Bool) (d : A) where
  placed : (xs : List A) (k : ℕ) → k < length xs → get_or (enumerate_from 0 xs) k (0, d) ≡ (k, get_or xs k d)
  placed xs k b = let e : 0 + k ≡ k = omega arith in get_or-enumerate_from 0 xs k (0, d) b ∙ ap {B = ℕ × A} (λ i. (i, get_or xs k d)) e

  pub any_placed_is_some : (xs : List A) →
      list_any (λ (e : ℕ × A). h e.0 e.1) (enumerate_from 0 xs) ≡ some_below (λ k. h k (get_or xs k d)) (length xs)
  any_placed_is_some xs =
      any_is_some (λ (e : ℕ × A). h e.0 e.1) (0, d) (enumerate_from 0 xs) ∙ rw (length-enumerate_from 0 xs)
      (some_same _ _ (length xs) (λ k b. ap (λ (e : ℕ × A). h e.0 e.1) (placed xs k b)))

  pub all_placed_is_all : (xs : List A) →
      list_all (λ (e : ℕ × A). h e.0 e.1) (enumerate_from 0 xs) ≡ all_below (λ k. h k (get_or xs k d)) (length xs)
  all_placed_is_all xs =
      all_is_all (λ (e : ℕ × A). h e.0 e.1) (0, d) (enumerate_from 0 xs) ∙ rw (length-enumerate_from 0 xs)
      (all_same _ _ (length xs) (λ k b. ap (λ (e : ℕ × A). h e.0 e.1) (placed xs k b)))

  -- of a list of n
  pub any_placed_is_some_of : (n : ℕ) (xs : List A) → length xs ≡ n →
      list_any (λ (e : ℕ × A). h e.0 e.1) (enumerate_from 0 xs) ≡ some_below (λ k. h k (get_or xs k d)) n
  any_placed_is_some_of n xs e = any_placed_is_some xs ∙ ap (some_below (λ k. h k (get_or xs k d))) e

  pub all_placed_is_all_of : (n : ℕ) (xs : List A) → length xs ≡ n →
      list_all (λ (e : ℕ × A). h e.0 e.1) (enumerate_from 0 xs) ≡ all_below (λ k. h k (get_or xs k d)) n
  all_placed_is_all_of n xs e = all_placed_is_all xs ∙ ap (all_below (λ k. h k (get_or xs k d))) e

  pub count_placed_is_count : (xs : List A) →
      count_by (λ (e : ℕ × A). h e.0 e.1) (enumerate_from 0 xs) ≡ count_below (λ k. h k (get_or xs k d)) (length xs)
  count_placed_is_count xs =
      count_is_count (λ (e : ℕ × A). h e.0 e.1) (0, d) (enumerate_from 0 xs) ∙ rw (length-enumerate_from 0 xs)
      (count_same _ _ (length xs) (λ k b. ap (λ (e : ℕ × A). h e.0 e.1) (placed xs k b)))

  pub position_placed_is_first : (xs : List A) →
      position (λ (e : ℕ × A). h e.0 e.1) (enumerate_from 0 xs) ≡
      place_or_none (first_below (λ k. h k (get_or xs k d)) (length xs)) (length xs)
  position_placed_is_first xs =
      position_is_first (λ (e : ℕ × A). h e.0 e.1) (0, d) (enumerate_from 0 xs) ∙ rw (length-enumerate_from 0 xs)
      (ap (λ i. place_or_none i (length xs))
      (first_same _ _ (length xs) (λ k b. ap (λ (e : ℕ × A). h e.0 e.1) (placed xs k b))))

-- TWO LISTS OF ONE LENGTH, SIDE BY SIDE

module _ {A B : Type 0} (p : A × B → Bool) (d : A) (e : B) where
  pub all_zip_is_all : (xs : List A) (ys : List B) → length xs ≡ length ys →
      list_all p (zip xs ys) ≡ all_below (λ k. p (get_or xs k d, get_or ys k e)) (length xs)
  unfolding all_below
  all_zip_is_all [] ys l = refl
  all_zip_is_all (x ∷ xs) [] l = absurd (omega (arith, l))
  all_zip_is_all (x ∷ xs) (y ∷ ys) l =
      ap (λ b. p (x, y) && b) (all_zip_is_all xs ys (omega (arith, l)))
      ∙ sym (all_front (λ k. p (get_or (x ∷ xs) k d, get_or (y ∷ ys) k e)) (length xs))

-- TWO LISTS OF ONE LENGTH, COMPARED

pub pointwise_is_all : {A B : Type 0} (h : A → B → Bool) (d : A) (e : B) (xs : List A) (ys : List B) (n : ℕ) →
    length xs ≡ n → length ys ≡ n → pointwise h xs ys ≡ all_below (λ k. h (get_or xs k d) (get_or ys k e)) n
unfolding all_below
pointwise_is_all h d e [] [] zero p q = refl
pointwise_is_all h d e [] [] (suc n) p q = absurd (omega arith)
pointwise_is_all h d e [] (y ∷ ys) n p q = absurd (omega arith)
pointwise_is_all h d e (x ∷ xs) [] n p q = absurd (omega arith)
pointwise_is_all h d e (x ∷ xs) (y ∷ ys) zero p q = absurd (omega arith)
pointwise_is_all h d e (x ∷ xs) (y ∷ ys) (suc n) p q =
    ap (λ b. h x y && b) (pointwise_is_all h d e xs ys n (omega arith) (omega arith))
    ∙ sym (all_front (λ k. h (get_or (x ∷ xs) k d) (get_or (y ∷ ys) k e)) n)

-- A TEST AS A BYTE

pub byte_is_bit : (b : Bool) → bool_byte b ≡ bit b
byte_is_bit true = refl
byte_is_bit false = refl
