-- A set of references 0 to 2 and its ascending list decide each other. Two tests that are computed, over the 8 sets and over the 108 lists
-- of up to three references 0 to 2, and what they say. Assumes nothing.
use Prim.Native.Nat.{◌+◌, ◌<◌, ◌≤◌, suc, zero, ℕ}
use mathlib.Core.Bool.{Bool, ◌&&◌, ◌||◌, not, true}
use mathlib.Core.List.{◌∷◌}
use mathlib.Core.Path.{◌∙◌, ◌≡◌, refl, subst, sym}
use native.Mathlib.Omega.{arith}
use borrow.Author.Tests.{leb-false, lt-ltb, ltb-false, ltb-true}
use lib.Dec.{eqb, leb, ltb}
use lib.ListN.{get_or, get_or-replicate, replicate}
use lib.Seq.{ext_get_or}
use Rattle.base.proofs.Bits.{word_lt}
use Rattle.base.proofs.Scan.{all_at}
use Rattle.base.proofs.Tests.{and_iff, ltb_iff, not_iff, or_true_iff, split, tests}
use Rattle.base.specs.Bits.{digit_at, word_of}
use Rattle.base.specs.Scan.{all_below, some_below}
use Rattle.sectortype.proofs.Equal.{same_succs_iff}
use Rattle.sectortype.proofs.Forms.{succ_unused, succs_iff}
use Rattle.sectortype.proofs.Graphs.{has_succ_at, has_succ_bounded}
use Rattle.sectortype.specs.Form.{succ_at, succs_form, zero_succs}
use Rattle.sectortype.specs.Graph.{has_succ}
use Rattle.sectortype.specs.Same.{same_succs}
use Rattle.sectortype.specs.declared.Succs.{Succs}
use Rattle.smalltable.specs.Order.{set_of}
use Rattle.smalltable.specs.SmallTable.{Ascending}
use Rattle.smalltable.specs.Tables.{list_of, listed_if}

-- THE LIST OF A SET

pub record ListOf (l : ℕ) : Type 0 where
  pub form : succs_form (list_of l) ≡ true
  pub ascending : Ascending (list_of l)
  pub names : (q : ℕ) → has_succ (list_of l) q ≡ true → (q < 3) × (digit_at l q ≡ true)
  pub back : set_of (list_of l) ≡ l

abbrev ascends_at : Succs → ℕ → Bool
ascends_at s k = not (ltb (k + 1) s.count) || ltb (succ_at s k) (succ_at s (k + 1))

abbrev names_at : ℕ → ℕ → Bool
names_at l q = not (has_succ (list_of l) q) || (ltb q 3 && digit_at l q)

abbrev list_test : ℕ → Bool
list_test l = succs_form (list_of l) && all_below (ascends_at (list_of l)) 8 && all_below (names_at l) 64 && eqb (set_of (list_of l)) l

lists_pass : all_below list_test 8 ≡ true
unfolding all_below some_below word_of list_of listed_if succs_form has_succ
lists_pass = refl

pub list_of_lem : (l : ℕ) → l < 8 → ListOf l
list_of_lem l h =
    let e = simp tests at (all_at list_test 8 l lists_pass h) in
    let f = e.0.0.0 in
    let n = ((succs_iff (list_of l)).0 f).1.0 in
    record {
      form = f;
      ascending = λ k c. omega (arith, (simp tests at (all_at (ascends_at (list_of l)) 8 k e.0.0.1 (omega arith))) c);
      names = λ q m.
          let t = all_at (names_at l) 64 q e.0.1 (has_succ_bounded (list_of l) q f m) in
          (simp (or_true_iff, not_iff, and_iff, ltb_iff) at t) m;
      back = e.1;
    }

-- the empty set's is the list of zeros
pub empty_list : list_of 0 ≡ zero_succs
unfolding list_of listed_if
empty_list = refl

pub empty_set : set_of zero_succs ≡ 0
unfolding has_succ some_below word_of
empty_set = refl

-- THE SET OF A LIST

-- a list of three at the most
abbrev three : ℕ → ℕ → ℕ → ℕ → Succs
three n a b c = record { count = n; at = a ∷ b ∷ c ∷ replicate 5 0 }

-- if it ascends and is in its form, it is the list of its set
abbrev three_test : ℕ → ℕ → ℕ → ℕ → Bool
three_test n a b c =
    not (succs_form (three n a b c) && (leb n 1 || ltb a b) && (leb n 2 || ltb b c))
    || same_succs (three n a b c) (list_of (set_of (three n a b c)))

-- for each third, second and first reference
abbrev thirds : ℕ → ℕ → ℕ → Bool
thirds n a b = all_below (three_test n a b) 3

abbrev seconds : ℕ → ℕ → Bool
seconds n a = all_below (thirds n a) 3

abbrev firsts : ℕ → Bool
firsts n = all_below (seconds n) 3

threes_pass : all_below firsts 4 ≡ true
unfolding all_below some_below word_of list_of listed_if succs_form has_succ same_succs
threes_pass = refl

module _ (s : Succs) (f : succs_form s ≡ true) (up : Ascending s) (small : (q : ℕ) → has_succ s q ≡ true → q < 3) where
  place_small : (k : ℕ) → k < 8 → succ_at s k < 3
  place_small k b =
      split (ltb k s.count) (λ t. small (succ_at s k) (has_succ_at s k b (ltb-true k s.count t)))
      (λ t. omega (arith, succ_unused s f k b (ltb-false k s.count t)))

  count_small : s.count < 4
  count_small =
      split (ltb s.count 4) (λ t. ltb-true s.count 4 t)
      (λ t. let h : 4 ≤ s.count = ltb-false s.count 4 t in
      absurd (omega (arith, up 0 (omega arith), up 1 (omega arith), up 2 (omega arith), place_small 3 (omega arith))))

  places : (k : ℕ) → k < 8 → succ_at s k ≡ get_or (succ_at s 0 ∷ succ_at s 1 ∷ succ_at s 2 ∷ replicate 5 0) k 0
  places zero b = refl
  places (suc zero) b = refl
  places (suc (suc zero)) b = refl
  places (suc (suc (suc k))) b =
      succ_unused s f (suc (suc (suc k))) b (omega (arith, count_small)) ∙ sym (get_or-replicate 5 k 0 0 (omega arith))

  is_three : s ≡ three s.count (succ_at s 0) (succ_at s 1) (succ_at s 2)
  is_three =
      let l = ((succs_iff s).0 f).0 in
      let p = ext_get_or 0 s.at (succ_at s 0 ∷ succ_at s 1 ∷ succ_at s 2 ∷ replicate 5 0) l (λ k b. places k (omega arith)) in
      λ i. record { count = s.count; at = p i }

  pub list_back : list_of (set_of s) ≡ s
  list_back =
      let n = s.count in
      let a = succ_at s 0 in
      let b = succ_at s 1 in
      let c = succ_at s 2 in
      let e0 = all_at firsts 4 n threes_pass count_small in
      let e1 = all_at (seconds n) 3 a e0 (place_small 0 (omega arith)) in
      let e2 = all_at (thirds n a) 3 b e1 (place_small 1 (omega arith)) in
      let e3 = all_at (three_test n a b) 3 c e2 (place_small 2 (omega arith)) in
      let w : succs_form (three n a b c) ≡ true = subst (λ x. succs_form x ≡ true) is_three f in
      let g : (leb n 1 || ltb a b) ≡ true = (or_true_iff (leb n 1) (ltb a b)).1 (λ t. lt-ltb a b (up 0 (omega (arith, leb-false n 1 t)))) in
      let h : (leb n 2 || ltb b c) ≡ true = (or_true_iff (leb n 2) (ltb b c)).1 (λ t. lt-ltb b c (up 1 (omega (arith, leb-false n 2 t)))) in
      let same = rw (w, g, h) at e3 in
      let back = subst (λ x. same_succs x (list_of (set_of x)) ≡ true) (sym is_three) same in
      sym ((same_succs_iff s (list_of (set_of s)) f (list_of_lem (set_of s) (word_lt (has_succ s) 3)).form).0 back)
