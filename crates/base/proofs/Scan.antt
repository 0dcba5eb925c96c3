-- Laws of the tests over the numbers below n: how a loop shows them, and what they say. Assumes nothing.
use mathlib.Core.Path.{◌≡◌, refl, ap, subst, sym}
use mathlib.Core.Bool.{Bool, true, false, ◌&&◌, ◌||◌, cond, not, or-true, or-false, false≢true}
use mathlib.Core.List.{List}
use mathlib.Core.Logic.{◌↔◌}
use Prim.Native.Nat.{ℕ, zero, suc, ◌+◌, ◌<◌, ◌≤◌}
use native.Mathlib.Nat.{not-suc-le-zero}
use native.Mathlib.Omega.{arith}
use native.Mathlib.Numerals.{add-one}
use lib.Dec.{ltb, leb}
use lib.ListN.{length, get_or, set}
use lib.Seq.{get_or-set_same, get_or-set_other}
use borrow.Author.Tests.{ltb-true, ltb-false, lt-ltb, le-ltb, leb-true, leb-false}
use Rattle.base.specs.Scan.{all_below, some_below, first_below, count_below, bit}
use Rattle.base.proofs.Tests.{split, clash, and_left, and_right, or_left, or_right}

-- a loop that has reached its end: i ≤ n and n ≤ i
pub at_end : {A : Type 0} {x : A} (f : ℕ → A) {i n : ℕ} → x ≡ f i → i ≤ n → n ≤ i → x ≡ f n
at_end f {i} {n} e a b = rw (let h : n ≡ i = omega arith in h) e

-- below n + 1: below n, or n itself
pub below_or_last : {X : Type 0} (k n : ℕ) → k < suc n → (k < n → X) → (k ≡ n → X) → X
below_or_last k n b f g =
    split (ltb k n) (λ t. f (ltb-true k n t)) (λ t. let j : n ≤ k = ltb-false k n t in g (omega arith))

-- ALL

pub all_none : (g : ℕ → Bool) → true ≡ all_below g 0
unfolding all_below
all_none g = refl

pub all_more : (g : ℕ → Bool) (n : ℕ) → all_below g (n + 1) ≡ (all_below g n && g n)
unfolding all_below
all_more g n = rw add-one

pub all_turn : (g : ℕ → Bool) (i : ℕ) {b r : Bool} → b ≡ all_below g i → r ≡ g i → (b && r) ≡ all_below g (i + 1)
all_turn g i e h = rw (all_more g i, e, h)

pub all_end : (g : ℕ → Bool) {i n : ℕ} {b : Bool} → b ≡ all_below g i → i ≤ n → n ≤ i → b ≡ all_below g n
all_end g e u v = at_end (all_below g) e u v

pub all_at : (g : ℕ → Bool) (n k : ℕ) → all_below g n ≡ true → k < n → g k ≡ true
unfolding all_below
all_at g zero k e b = absurd (not-suc-le-zero b)
all_at g (suc n) k e b =
    below_or_last k n b (λ t. all_at g n k (and_left (all_below g n) (g n) e) t) (λ h. rw h (and_right (all_below g n) (g n) e))

pub all_of : (g : ℕ → Bool) (n : ℕ) → ((k : ℕ) → k < n → g k ≡ true) → all_below g n ≡ true
unfolding all_below
all_of g zero e = refl
all_of g (suc n) e = rw (all_of g n (λ k b. e k (omega arith)), e n (omega arith))

pub all_iff : (g : ℕ → Bool) (n : ℕ) → (all_below g n ≡ true) ↔ ((k : ℕ) → k < n → g k ≡ true)
all_iff g n = ((λ e k b. all_at g n k e b), all_of g n)

pub all_fails : (g : ℕ → Bool) (n k : ℕ) → k < n → g k ≡ false → all_below g n ≡ false
all_fails g n k b e = split (all_below g n) (λ t. clash (all_at g n k t b) e) (λ t. t)

pub all_same : (g h : ℕ → Bool) (n : ℕ) → ((k : ℕ) → k < n → g k ≡ h k) → all_below g n ≡ all_below h n
unfolding all_below
all_same g h zero e = refl
all_same g h (suc n) e = rw (all_same g h n (λ k b. e k (omega arith)), e n (omega arith))

-- SOME

pub some_none : (g : ℕ → Bool) → false ≡ some_below g 0
unfolding some_below
some_none g = refl

pub some_more : (g : ℕ → Bool) (n : ℕ) → some_below g (n + 1) ≡ (some_below g n || g n)
unfolding some_below
some_more g n = rw add-one

pub some_turn : (g : ℕ → Bool) (i : ℕ) {b r : Bool} → b ≡ some_below g i → r ≡ g i → (b || r) ≡ some_below g (i + 1)
some_turn g i e h = rw (some_more g i, e, h)

pub some_end : (g : ℕ → Bool) {i n : ℕ} {b : Bool} → b ≡ some_below g i → i ≤ n → n ≤ i → b ≡ some_below g n
some_end g e u v = at_end (some_below g) e u v

pub some_at : (g : ℕ → Bool) (n k : ℕ) → k < n → g k ≡ true → some_below g n ≡ true
unfolding some_below
some_at g zero k b e = absurd (not-suc-le-zero b)
some_at g (suc n) k b e =
    below_or_last k n b (λ t. rw (some_at g n k t e)) (λ h. rw (let q : n ≡ k = sym h in q, e) (or-true (some_below g k)))

pub none_at : (g : ℕ → Bool) (n k : ℕ) → some_below g n ≡ false → k < n → g k ≡ false
none_at g n k e b = split (g k) (λ t. clash (some_at g n k b t) e) (λ t. t)

pub some_of_none : (g : ℕ → Bool) (n : ℕ) → ((k : ℕ) → k < n → g k ≡ false) → some_below g n ≡ false
unfolding some_below
some_of_none g zero e = refl
some_of_none g (suc n) e = rw (some_of_none g n (λ k b. e k (omega arith)), e n (omega arith))

pub none_iff_all : (g : ℕ → Bool) (n : ℕ) → (some_below g n ≡ false) ↔ ((k : ℕ) → k < n → g k ≡ false)
none_iff_all g n = ((λ e k b. none_at g n k e b), some_of_none g n)

pub some_same : (g h : ℕ → Bool) (n : ℕ) → ((k : ℕ) → k < n → g k ≡ h k) → some_below g n ≡ some_below h n
unfolding some_below
some_same g h zero e = refl
some_same g h (suc n) e = rw (some_same g h n (λ k b. e k (omega arith)), e n (omega arith))

-- a scan of all places under the count, as a scan of those in use
pub some_used : (g : ℕ → Bool) (n cap : ℕ) → n ≤ cap → some_below (λ k. ltb k n && g k) cap ≡ some_below g n
unfolding some_below
some_used g n zero b = let e : n ≡ 0 = omega arith in rw e
some_used g n (suc cap) b =
    split (leb n cap)
    (λ t. let a : n ≤ cap = leb-true _ _ t in rw (some_used g n cap a, le-ltb cap n a) (or-false (some_below g n)))
    (λ t. let a : cap < n = leb-false _ _ t in let e : n ≡ suc cap = omega arith in
    subst (λ m. some_below (λ k. ltb k m && g k) (suc cap) ≡ some_below g m) (sym e)
    (some_same (λ k. ltb k (suc cap) && g k) g (suc cap) (λ k c. rw (lt-ltb k (suc cap) c))))

-- FIRST

pub first_hit : (g : ℕ → Bool) (n k : ℕ) → false ≡ some_below g k → g k ≡ true → k < n → k ≡ first_below g n
unfolding first_below
first_hit g zero k e t b = absurd (not-suc-le-zero b)
first_hit g (suc n) k e t b =
    below_or_last k n b (λ y. rw (some_at g n k y t) (first_hit g n k e t y)) (λ h. rw (let q : n ≡ k = sym h in q, ← e, t))

pub first_miss : (g : ℕ → Bool) (n : ℕ) → false ≡ some_below g n → n ≡ first_below g n
unfolding first_below some_below
first_miss g zero e = refl
first_miss g (suc n) e = rw (or_left (some_below g n) (g n) (sym e), or_right (some_below g n) (g n) (sym e))

pub first_end : (g : ℕ → Bool) {i n : ℕ} → false ≡ some_below g i → i ≤ n → n ≤ i → n ≡ first_below g n
first_end g {i} {n} e u v = first_miss g n (some_end g e u v)

pub first_le : (g : ℕ → Bool) (n : ℕ) → first_below g n ≤ n
unfolding first_below
first_le g zero = omega arith
first_le g (suc n) = pick (some_below g n) (g n) (first_le g n)
  where
    pick : (a b : Bool) → first_below g n ≤ n → cond a (first_below g n) (cond b n (suc n)) ≤ suc n
    pick true b h = omega arith
    pick false true h = omega arith
    pick false false h = omega arith

-- before the first, the test fails; at the first, if it is below n, it passes
pub first_before : (g : ℕ → Bool) (n k : ℕ) → k < first_below g n → g k ≡ false
unfolding first_below some_below
first_before g zero k b = absurd (not-suc-le-zero b)
first_before g (suc n) k b =
    split (some_below g n) (λ t. first_before g n k (rw t at b))
    (λ t. split (g n) (λ u. none_at g n k t (rw (t, u) at b)) (λ u. none_at g (suc n) k (none t u) (rw (t, u) at b)))
  where
    none : some_below g n ≡ false → g n ≡ false → some_below g (suc n) ≡ false
    none t u = rw (t, u)

pub first_found : (g : ℕ → Bool) (n : ℕ) → some_below g n ≡ true → first_below g n < n
unfolding first_below some_below
first_found g zero e = absurd (false≢true e)
first_found g (suc n) e =
    split (some_below g n) (λ t. rw t (let h : first_below g n < n = first_found g n t in omega arith))
    (λ t. let u : g n ≡ true = rw t at e in rw (t, u) (omega arith))

pub first_passes : (g : ℕ → Bool) (n : ℕ) → first_below g n < n → g (first_below g n) ≡ true
unfolding first_below
first_passes g zero b = absurd (not-suc-le-zero b)
first_passes g (suc n) b =
    split (some_below g n) (λ t. rw t (first_passes g n (first_found g n t)))
    (λ t. split (g n) (λ u. rw (t, u, u)) (λ u. absurd (let h : suc n < suc n = rw (t, u) at b in omega arith)))

-- a test that passes at k, and at no place before it, is first there
pub first_at_most : (g : ℕ → Bool) (n k : ℕ) → g k ≡ true → first_below g n ≤ k
first_at_most g n k e =
    split (leb (first_below g n) k) (λ t. leb-true _ _ t) (λ t. clash e (first_before g n k (leb-false _ _ t)))

pub first_is : (g : ℕ → Bool) (n k : ℕ) → k < n → g k ≡ true → ((j : ℕ) → j < k → g j ≡ false) → first_below g n ≡ k
first_is g n k b e h = sym (first_hit g n k (sym (some_of_none g k h)) e b)

pub first_same : (g h : ℕ → Bool) (n : ℕ) → ((k : ℕ) → k < n → g k ≡ h k) → first_below g n ≡ first_below h n
unfolding first_below
first_same g h zero e = refl
first_same g h (suc n) e =
    rw (some_same g h n (λ k b. e k (omega arith)), first_same g h n (λ k b. e k (omega arith)), e n (omega arith))

-- COUNT

pub count_same : (g h : ℕ → Bool) (n : ℕ) → ((k : ℕ) → k < n → g k ≡ h k) → count_below g n ≡ count_below h n
unfolding count_below
count_same g h zero e = refl
count_same g h (suc n) e = rw (count_same g h n (λ k b. e k (omega arith)), e n (omega arith))

pub bit_le : (b : Bool) → bit b ≤ 1
bit_le true = omega arith
bit_le false = omega arith

pub bit_zero_iff : (b : Bool) → (bit b ≡ 0) ↔ (b ≡ false)
bit_zero_iff true = ((λ e. absurd (let h = e in omega arith)), (λ e. absurd (false≢true (sym e))))
bit_zero_iff false = ((λ e. refl), (λ e. refl))

pub count_le : (g : ℕ → Bool) (n : ℕ) → count_below g n ≤ n
unfolding count_below
count_le g zero = omega arith
count_le g (suc n) = omega (arith, count_le g n, bit_le (g n))

pub count_none : (g : ℕ → Bool) → 0 ≡ count_below g 0
unfolding count_below
count_none g = refl

pub count_turn : (g : ℕ → Bool) (i : ℕ) {c x : ℕ} → c ≡ count_below g i → x ≡ bit (g i) → c + x ≡ count_below g (i + 1)
unfolding count_below
count_turn g i e h = rw (add-one, e, h)

pub count_zero : (g : ℕ → Bool) (n : ℕ) → ((k : ℕ) → k < n → g k ≡ false) → count_below g n ≡ 0
unfolding count_below
count_zero g zero e = refl
count_zero g (suc n) e = rw (count_zero g n (λ k b. e k (omega arith)), e n (omega arith))

pub count_zero_at : (g : ℕ → Bool) (n k : ℕ) → count_below g n ≡ 0 → k < n → g k ≡ false
unfolding count_below
count_zero_at g zero k e b = absurd (not-suc-le-zero b)
count_zero_at g (suc n) k e b =
    below_or_last k n b
    (λ c. let z : count_below g n ≡ 0 = omega arith in count_zero_at g n k z c)
    (λ c. rw c ((bit_zero_iff (g n)).0 (omega arith)))

-- those that pass and those that fail are all
both_bits : (b : Bool) → bit b + bit (not b) ≡ 1
both_bits true = refl
both_bits false = refl

pub count_not : (g : ℕ → Bool) (n : ℕ) → count_below g n + count_below (λ k. not (g k)) n ≡ n
unfolding count_below
count_not g zero = refl
count_not g (suc n) = omega (arith, count_not g n, both_bits (g n))

-- of two tests, one of which passes
bit_or_le : (a b : Bool) → bit (a || b) ≤ bit a + bit b
bit_or_le true b = omega arith
bit_or_le false b = omega arith

pub count_or : (g h : ℕ → Bool) (n : ℕ) → count_below (λ k. g k || h k) n ≤ count_below g n + count_below h n
unfolding count_below
count_or g h zero = omega arith
count_or g h (suc n) = omega (arith, count_or g h n, bit_or_le (g n) (h n))

-- a test that passes at one number at the most
pub count_single : (g : ℕ → Bool) (n : ℕ) → ((j k : ℕ) → g j ≡ true → g k ≡ true → j ≡ k) → count_below g n ≤ 1
unfolding count_below
count_single g zero one = omega arith
count_single g (suc n) one =
    split (g n)
    (λ t. let z : count_below g n ≡ 0 = count_zero g n
    (λ k b. split (g k) (λ u. absurd (let e : k ≡ n = one k n u t in omega arith)) (λ u. u)) in
    omega (arith, bit_le (g n)))
    (λ t. let b : bit (g n) ≡ 0 = (bit_zero_iff (g n)).1 t in omega (arith, count_single g n one))

-- each of m tests passes at one number at the most: so m numbers at the most pass some of them
pub count_some : (hit : ℕ → ℕ → Bool) (m n : ℕ) → ((r j k : ℕ) → hit r j ≡ true → hit r k ≡ true → j ≡ k) →
    count_below (λ k. some_below (λ r. hit r k) m) n ≤ m
unfolding some_below
count_some hit zero n one = omega (arith, count_zero (λ k. false) n (λ k b. refl))
count_some hit (suc m) n one =
    omega (arith, count_or (λ k. some_below (λ r. hit r k) m) (hit m) n, count_some hit m n one, count_single (hit m) n (one m))

pub count_every : (g : ℕ → Bool) (n : ℕ) → all_below g n ≡ true → count_below g n ≡ n
count_every g n e =
    let z : count_below (λ k. not (g k)) n ≡ 0 = count_zero (λ k. not (g k)) n (λ k b. ap not (all_at g n k e b)) in
    omega (arith, count_not g n)

-- of two stretches
pub count_cut : (g : ℕ → Bool) (n m : ℕ) → count_below g (n + m) ≡ count_below g n + count_below (λ k. g (n + k)) m
unfolding count_below
count_cut g n zero = let z : n + 0 ≡ n = omega arith in rw z (omega arith)
count_cut g n (suc m) =
    let z : n + suc m ≡ suc (n + m) = omega arith in
    rw (z, count_cut g n m) (omega arith)

-- a count is 0 exactly where the test fails at each number below n
pub count_zero_iff : (g : ℕ → Bool) (n : ℕ) → (count_below g n ≡ 0) ↔ ((k : ℕ) → k < n → g k ≡ false)
count_zero_iff g n = ((λ e k b. count_zero_at g n k e b), count_zero g n)

-- two tests that differ at one place at the most
pub count_change : (g h : ℕ → Bool) (n i : ℕ) → i < n → ((k : ℕ) → k < n → (k ≡ i → ⊥) → g k ≡ h k) →
    count_below h n + bit (g i) ≡ count_below g n + bit (h i)
unfolding count_below
count_change g h zero i b e = absurd (not-suc-le-zero b)
count_change g h (suc n) i b e =
    below_or_last i n b
    (λ t. let q : g n ≡ h n = e n (omega arith) (λ (x : n ≡ i). omega arith) in
    rw q (omega (arith, count_change g h n i t (λ k c. e k (omega arith)))))
    (λ y. let q : count_below g n ≡ count_below h n = count_same g h n (λ k c. e k (omega arith) (λ (x : k ≡ i). omega arith)) in
    rw (y, q) (omega arith))

-- how many of n places pass a test, after one place is set
pub count_set : {A : Type 0} (p : A → Bool) (d : A) (l : List A) (n i : ℕ) (v : A) → i < n → n ≤ length l →
    count_below (λ k. p (get_or (set l i v) k d)) n + bit (p (get_or l i d)) ≡ count_below (λ k. p (get_or l k d)) n + bit (p v)
count_set p d l n i v b m =
    let s : get_or (set l i v) i d ≡ v = get_or-set_same l i v d (omega arith) in
    let e = count_change (λ k. p (get_or l k d)) (λ k. p (get_or (set l i v) k d)) n i b
    (λ k c ne. ap p (sym (get_or-set_other l i k v d ne))) in
    rw s at e
