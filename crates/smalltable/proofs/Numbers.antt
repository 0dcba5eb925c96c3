-- Numbers and sets: a greater number's sets come later, each number below 546 has good sets, and each good four sets have one number. Three
-- tests that are computed over all numbers and all sets, and what they say. Assumes nothing.
use Prim.Native.Nat.{◌%◌, ◌*◌, ◌+◌, ◌-◌, ◌/◌, ◌<◌, ◌≤◌, suc, zero, ℕ}
use mathlib.Core.Bool.{Bool, ◌&&◌, ◌||◌, cond, false, false≢true, not, true}
use mathlib.Core.List.{List, [], ◌∷◌}
use mathlib.Core.Logic.{◌↔◌, inl, inr}
use mathlib.Core.Path.{◌∙◌, ◌≡◌, refl}
use native.Mathlib.Nat.{not-suc-le-zero}
use native.Mathlib.Omega.{arith}
use borrow.Author.Tests.{eqb-true, ltb-false, ltb-true}
use lib.Dec.{eqb, ltb}
use Rattle.base.proofs.Scan.{all_at, below_or_last}
use Rattle.base.proofs.Tests.{and_iff, split, tests}
use Rattle.base.specs.Bits.{digit_at}
use Rattle.base.specs.Scan.{all_below}
use Rattle.smalltable.specs.Numbers.{list_at, sets, small_sets, small_tables}
use Rattle.smalltable.specs.Order.{Before, sets_in_order}
use Rattle.smalltable.specs.declared.Sets.{Sets}

-- THE ORDER

-- the same as `Before`, as a test
abbrev before : List ℕ → List ℕ → Bool
before [] ys = false
before (x ∷ xs) [] = false
before (x ∷ xs) (y ∷ ys) = ltb x y || (eqb x y && before xs ys)

abbrev order_test : ℕ → Bool
order_test n = before (sets_in_order (small_sets n)) (sets_in_order (small_sets (suc n)))

order_passes : all_below order_test (small_tables - 1) ≡ true
unfolding all_below small_sets
order_passes = refl

pub before_trans : (xs ys zs : List ℕ) → Before xs ys → Before ys zs → Before xs zs
before_trans [] ys zs p q = p
before_trans (x ∷ xs) [] zs p q = absurd p
before_trans (x ∷ xs) (y ∷ ys) [] p q = q
before_trans (x ∷ xs) (y ∷ ys) (z ∷ zs) (inl a) (inl b) = inl (omega arith)
before_trans (x ∷ xs) (y ∷ ys) (z ∷ zs) (inl a) (inr b) = let e : y ≡ z = b.0 in inl (omega arith)
before_trans (x ∷ xs) (y ∷ ys) (z ∷ zs) (inr a) (inl b) = let e : x ≡ y = a.0 in inl (omega arith)
before_trans (x ∷ xs) (y ∷ ys) (z ∷ zs) (inr a) (inr b) = inr (a.0 ∙ b.0, before_trans xs ys zs a.1 b.1)

before_true : (xs ys : List ℕ) → before xs ys ≡ true → Before xs ys
before_true [] ys e = absurd (false≢true e)
before_true (x ∷ xs) [] e = absurd (false≢true e)
before_true (x ∷ xs) (y ∷ ys) e =
    split (ltb x y) (λ t. inl (omega (arith, ltb-true x y t)))
    (λ t. let h = (and_iff (eqb x y) (before xs ys)).0 (rw t at e) in inr (eqb-true x y h.0, before_true xs ys h.1))

-- no two come before each other, so the order is strict
before_once : (xs ys : List ℕ) → Before xs ys → Before ys xs → ⊥
before_once [] ys p q = p
before_once (x ∷ xs) [] p q = p
before_once (x ∷ xs) (y ∷ ys) (inl a) (inl b) = omega arith
before_once (x ∷ xs) (y ∷ ys) (inl a) (inr b) = let e : y ≡ x = b.0 in omega arith
before_once (x ∷ xs) (y ∷ ys) (inr a) (inl b) = let e : x ≡ y = a.0 in omega arith
before_once (x ∷ xs) (y ∷ ys) (inr a) (inr b) = before_once xs ys a.1 b.1

-- a greater number's sets come later ..
sets_later : (m n : ℕ) → m < n → n < small_tables → Before (sets_in_order (small_sets m)) (sets_in_order (small_sets n))
sets_later m zero l h = absurd (not-suc-le-zero l)
sets_later m (suc n) l h =
    let first = sets_in_order (small_sets m) in
    let last = sets_in_order (small_sets n) in
    let next = before_true last (sets_in_order (small_sets (suc n))) (all_at order_test (small_tables - 1) n order_passes (omega arith)) in
    below_or_last m n l
    (λ b. before_trans first last (sets_in_order (small_sets (suc n))) (sets_later m n b (omega arith)) next)
    (λ e. rw e next)

-- .. and no other's
sets_earlier : (m n : ℕ) → m < small_tables → Before (sets_in_order (small_sets m)) (sets_in_order (small_sets n)) → m < n
sets_earlier m n g p =
    split (ltb m n) (λ t. ltb-true m n t)
    (λ t. absurd (before_once (sets_in_order (small_sets m)) (sets_in_order (small_sets n)) p (back (ltb-false m n t))))
  where
    back : n ≤ m → Before (sets_in_order (small_sets n)) (sets_in_order (small_sets m))
    back l =
        split (ltb n m) (λ u. sets_later n m (ltb-true n m u) g)
        (λ u. let e : m ≡ n = omega (arith, ltb-false n m u) in rw e (rw e at p))

pub sets_in_order_lem : (m n : ℕ) → m < small_tables → n < small_tables →
    (m < n) ↔ Before (sets_in_order (small_sets m)) (sets_in_order (small_sets n))
sets_in_order_lem m n g h = ((λ l. sets_later m n l h), sets_earlier m n g)

-- WHICH FOUR SETS ARE A SMALL TABLE'S

-- each reference in l is in s
abbrev pub subset_of : ℕ → ℕ → Bool
subset_of l s = all_below (λ r. not (digit_at l r) || digit_at s r) 3

-- the list l of reference r names allocated references alone, and is empty where r is not allocated
abbrev pub list_ok : ℕ → ℕ → ℕ → Bool
list_ok s l r = subset_of l s && (digit_at s r || eqb l 0)

-- the root is allocated, and the lists are right
unfoldable pub good_sets : Sets → Bool
good_sets s = digit_at s.allocated 0 && all_below (λ r. list_ok s.allocated (list_at s r) r) 3

-- each of the four is a set of references 0 to 2
pub record Small (s : Sets) : Type 0 where
  pub allocated : s.allocated < 8
  pub list0 : s.list0 < 8
  pub list1 : s.list1 < 8
  pub list2 : s.list2 < 8

-- THE NUMBER OF FOUR SETS

abbrev packed : ℕ → ℕ
packed l = l % 2 + 2 * (l / 4)

unfoldable pub number_of : Sets → ℕ
number_of s =
    cond (eqb s.allocated 1) s.list0
    (cond (eqb s.allocated 3) (2 + 4 * s.list0 + s.list1)
    (cond (eqb s.allocated 5) (18 + 4 * packed s.list0 + packed s.list2)
    (34 + 64 * s.list0 + 8 * s.list1 + s.list2)))

-- THE TESTS

abbrev small_test : Sets → Bool
small_test s = ltb s.allocated 8 && ltb s.list0 8 && ltb s.list1 8 && ltb s.list2 8

abbrev number_test : ℕ → Bool
number_test n = good_sets (small_sets n) && small_test (small_sets n) && eqb (number_of (small_sets n)) n

numbers_pass : all_below number_test small_tables ≡ true
unfolding all_below good_sets small_sets number_of
numbers_pass = refl

abbrev same_sets : Sets → Sets → Bool
same_sets s t = eqb s.allocated t.allocated && eqb s.list0 t.list0 && eqb s.list1 t.list1 && eqb s.list2 t.list2

abbrev sets_test : Sets → Bool
sets_test s = not (good_sets s) || (ltb (number_of s) small_tables && same_sets (small_sets (number_of s)) s)

-- for each list of 2, of 1, of 0
abbrev lists2 : ℕ → ℕ → ℕ → Bool
lists2 s a b = all_below (λ c. sets_test (sets s a b c)) 8

abbrev lists1 : ℕ → ℕ → Bool
lists1 s a = all_below (lists2 s a) 8

abbrev lists0 : ℕ → Bool
lists0 s = all_below (lists1 s) 8

sets_pass : all_below lists0 8 ≡ true
unfolding all_below good_sets small_sets number_of
sets_pass = refl

-- WHAT THEY SAY

pub record NumberSets (n : ℕ) : Type 0 where
  pub good : good_sets (small_sets n) ≡ true
  pub small : Small (small_sets n)
  pub back : number_of (small_sets n) ≡ n

pub number_sets : (n : ℕ) → n < small_tables → NumberSets n
number_sets n h =
    let e = simp tests at (all_at number_test small_tables n numbers_pass h) in
    let s = e.0.1 in
    record { good = e.0.0; small = record { allocated = s.0.0.0; list0 = s.0.0.1; list1 = s.0.1; list2 = s.1 }; back = e.1 }

pub sets_number : (s : Sets) → Small s → good_sets s ≡ true → (number_of s < small_tables) × (small_sets (number_of s) ≡ s)
sets_number s m g =
    let e0 = all_at lists0 8 s.allocated sets_pass m.allocated in
    let e1 = all_at (lists1 s.allocated) 8 s.list0 e0 m.list0 in
    let e2 = all_at (lists2 s.allocated s.list0) 8 s.list1 e1 m.list1 in
    let e3 = all_at (λ c. sets_test (sets s.allocated s.list0 s.list1 c)) 8 s.list2 e2 m.list2 in
    let h = (simp tests at e3) g in
    let x = h.1 in
    (h.0, λ i. record { allocated = x.0.0.0 i; list0 = x.0.0.1 i; list1 = x.0.1 i; list2 = x.1 i })
