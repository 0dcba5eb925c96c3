-- Laws of a list of refusals: an answer is 0 exactly when no condition holds, and in an ascending list it is the lowest whose condition does. Assumes nothing.
use Prim.Native.Nat.{◌<◌, ◌≤◌, ℕ}
use mathlib.Core.Bool.{Bool, ◌&&◌, ◌||◌, and-false, cond, false, false≢true, true}
use mathlib.Core.List.{List, [], ◌++◌, ◌∷◌}
use mathlib.Core.Logic.{◌↔◌}
use mathlib.Core.Path.{◌≡◌, refl, sym}
use native.Mathlib.Omega.{arith}
use borrow.Author.Tests.{eq-eqb, eqb-false, eqb-true, le-leb, leb-false, leb-true, ltb-true, ne_eqb}
use lib.Dec.{eqb, leb, ltb}
use Rattle.base.proofs.Tests.{and_left, and_right, clash, or_inr, split}
use Rattle.base.specs.Refusals.{Row, ◌when◌, answer, ascending, ascending_from, holds, lowest}

-- no condition holds
abbrev pub Clear : List Row → Type 0
Clear [] = Unit {0}
Clear ((n when b) ∷ rs) = (b ≡ false) × Clear rs

pub answer_iff : (m : ℕ) (rs : List Row) → ascending_from m rs ≡ true → (answer rs ≡ 0) ↔ Clear rs
unfolding answer
answer_iff m [] t = ((λ e. tt), (λ c. refl))
answer_iff m ((n when b) ∷ rs) t =
    ((λ e. split b (λ q. absurd (refused q e)) (λ q. (q, (answer_iff n rs up).0 (rw q at e)))), (λ c. rw c.0 ((answer_iff n rs up).1 c.1)))
  where
    up : ascending_from n rs ≡ true
    up = and_right (ltb m n) (ascending_from n rs) t

    refused : b ≡ true → cond b n (answer rs) ≡ 0 → ⊥
    refused q e = let z : n ≡ 0 = rw q at e in omega (arith, ltb-true m n (and_left (ltb m n) (ascending_from n rs) t))

-- accepted exactly when no condition holds
pub accepted_iff : (rs : List Row) → ascending rs ≡ true → (answer rs ≡ 0) ↔ Clear rs
accepted_iff rs t = answer_iff 0 rs t

-- rows behind others: theirs is the answer where the others accept
append_from : (m : ℕ) (rs ss : List Row) → ascending_from m rs ≡ true → answer (rs ++ ss) ≡ cond (eqb (answer rs) 0) (answer ss) (answer rs)
unfolding answer
append_from m [] ss t = refl
append_from m ((n when b) ∷ rs) ss t =
    split b
    (λ q. let ne : (n ≡ 0 → ⊥) = λ z. omega (arith, ltb-true m n (and_left (ltb m n) (ascending_from n rs) t), z) in rw (q, ne_eqb n 0 ne))
    (λ q. rw q (append_from n rs ss (and_right (ltb m n) (ascending_from n rs) t)))

pub answer_append : (rs ss : List Row) → ascending rs ≡ true → answer (rs ++ ss) ≡ cond (eqb (answer rs) 0) (answer ss) (answer rs)
answer_append rs ss t = append_from 0 rs ss t

-- then no number's condition holds
pub clear_holds : (rs : List Row) → Clear rs → (k : ℕ) → holds k rs ≡ false
clear_holds [] c k = refl
clear_holds ((n when b) ∷ rs) c k = rw (c.0, and-false (eqb n k)) (clear_holds rs c.1 k)

answer_above : (m : ℕ) (rs : List Row) → ascending_from m rs ≡ true → (answer rs ≡ 0 → ⊥) → m < answer rs
unfolding answer
answer_above m [] t ne = absurd (ne refl)
answer_above m ((n when b) ∷ rs) t ne =
    let lt : m < n = ltb-true m n (and_left (ltb m n) (ascending_from n rs) t) in
    split b (λ q. rw q lt)
    (λ q. rw q (let h : n < answer rs = answer_above n rs (and_right (ltb m n) (ascending_from n rs) t) (rw q at ne) in omega arith))

pub none_lower : (m : ℕ) (rs : List Row) → ascending_from m rs ≡ true → (k : ℕ) → k ≤ m → holds k rs ≡ false
none_lower m [] t k b = refl
none_lower m ((n when c) ∷ rs) t k b =
    let lt : m < n = ltb-true m n (and_left (ltb m n) (ascending_from n rs) t) in
    rw (ne_eqb n k (λ (e : n ≡ k). omega arith), none_lower n rs (and_right (ltb m n) (ascending_from n rs) t) k (omega arith))

-- the condition of the number answered holds
pub answer_holds : (rs : List Row) → (answer rs ≡ 0 → ⊥) → holds (answer rs) rs ≡ true
unfolding answer
answer_holds [] ne = absurd (ne refl)
answer_holds ((n when true) ∷ rs) ne = rw (eq-eqb n n refl)
answer_holds ((n when false) ∷ rs) ne = or_inr (eqb n (answer rs) && false) (answer_holds rs ne)

-- and of no lower number: the answer is the lowest number whose condition holds
pub answer_lowest : (m : ℕ) (rs : List Row) → ascending_from m rs ≡ true → (k : ℕ) → holds k rs ≡ true → answer rs ≤ k
unfolding answer
answer_lowest m [] t k h = absurd (false≢true h)
answer_lowest m ((n when b) ∷ rs) t k h =
    let up = and_right (ltb m n) (ascending_from n rs) t in
    split b
    (λ q. rw q (split (leb n k) (λ y. leb-true n k y) (λ y. let lt : k < n = leb-false n k y in clash h (below lt up))))
    (λ q. rw q (split (eqb n k) (λ y. clash {b = holds k rs} (later h q y)
    (none_lower n rs up k (let e : n ≡ k = eqb-true n k y in omega arith)))
    (λ y. answer_lowest n rs up k (rw y at h))))
  where
    below : k < n → ascending_from n rs ≡ true → ((eqb n k && b) || holds k rs) ≡ false
    below lt up = rw (ne_eqb n k (λ (e : n ≡ k). omega arith), none_lower n rs up k (omega arith))

    later : ((eqb n k && b) || holds k rs) ≡ true → b ≡ false → eqb n k ≡ true → holds k rs ≡ true
    later h q y = rw (y, q) at h

-- an answer, row by row: what a chain of early returns shows
pub answer_here : (n : ℕ) (b : Bool) (rs : List Row) → b ≡ true → n ≡ answer ((n when b) ∷ rs)
unfolding answer
answer_here n b rs e = rw e

pub answer_next : {x : ℕ} (n : ℕ) (b : Bool) (rs : List Row) → b ≡ false → x ≡ answer rs → x ≡ answer ((n when b) ∷ rs)
unfolding answer
answer_next n b rs e h = rw e h

-- the lower of two answers is 0 exactly when both are
pub lowest_zero : (a b : ℕ) → (lowest a b ≡ 0) ↔ ((a ≡ 0) × (b ≡ 0))
lowest_zero a b = (to, (λ h. rw (eq-eqb a 0 h.0) h.1))
  where
    to : lowest a b ≡ 0 → (a ≡ 0) × (b ≡ 0)
    to e =
        split (eqb a 0) (λ t. (eqb-true a 0 t, rw t at e))
        (λ f. split (eqb b 0) (λ t. let z : a ≡ 0 = rw (f, t) at e in clash (eq-eqb a 0 z) f)
        (λ g. split (leb a b) (λ t. let z : a ≡ 0 = rw (f, g, t) at e in clash (eq-eqb a 0 z) f) (λ t. let z : b ≡ 0 = rw (f, g, t) at e in
        clash (eq-eqb b 0 z) g)))

-- of an answer and 0 it is that answer
pub lowest_right : (a : ℕ) → lowest a 0 ≡ a
lowest_right a = split (eqb a 0) (λ t. rw t (sym (eqb-true a 0 t))) (λ t. rw t refl)

-- where either is 1 it is 1
pub lowest_one_left : (b : ℕ) → lowest 1 b ≡ 1
lowest_one_left b =
    split (eqb b 0)
    (λ t. rw t refl)
    (λ t. let ne = eqb-false b 0 t in let le : leb 1 b ≡ true = le-leb 1 b (omega (arith, ne)) in rw (t, le) refl)

pub lowest_one_right : (a : ℕ) → lowest a 1 ≡ 1
lowest_one_right a =
    split (eqb a 0)
    (λ t. rw t refl)
    (λ t. split (leb a 1)
    (λ l. let ne = eqb-false a 0 t in let le = leb-true a 1 l in let e : a ≡ 1 = omega (arith, ne, le) in rw (t, l) e)
    (λ l. rw (t, l) refl))
