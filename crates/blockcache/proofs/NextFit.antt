-- The order in which the chooser goes through the blocks, over any test: which blocks come after one, and which of them is next; each of
-- the 128 is reached, and one that passes is nearer after each other one that is given. Assumes nothing.
use Prim.Native.Nat.{◌%◌, ◌+◌, ◌-◌, ◌<◌, ◌≤◌, ℕ}
use mathlib.Core.Bool.{Bool, cond, false, true}
use mathlib.Core.Path.{◌∙◌, ◌≡◌, ap, sym}
use native.Mathlib.Nat.{add-mod_right, mod-eq_of_lt, mod-lt}
use native.Mathlib.Omega.{arith}
use borrow.Author.Tests.{le-ltb, leb-false, leb-true, lt-ltb, ltb-false, ltb-true}
use lib.Dec.{leb, ltb}
use Rattle.base.proofs.Scan.{first_at_most, first_found, first_is, first_passes, first_same, some_at}
use Rattle.base.proofs.Tests.{split}
use Rattle.base.specs.Scan.{first_below, some_below}
use Rattle.blockcache.specs.Chooser.{next_fit, block_after}

-- THE BLOCKS AFTER ONE

-- the one that k others come before is k + 1 further on, and past block 127 it goes on from block 0
pub record After (last k : ℕ) : Type 0 where
  pub round : 128 ≤ last + 1 + k → last + 1 + k < 256 → block_after last k ≡ last + 1 + k - 128
  pub near : last + 1 + k < 128 → block_after last k ≡ last + 1 + k

pub after_is : (last k : ℕ) → After last k
after_is last k =
    record {
      round = λ a b.
          let x = last + 1 + k - 128 in
          let e : last + 1 + k ≡ x + 128 = omega arith in
          let l : x < 128 = omega arith in
          ap (λ n. n % 128) e ∙ add-mod_right x 128 ∙ mod-eq_of_lt l;
      near = λ h. mod-eq_of_lt h;
    }

-- each is one of the 128
pub after_small : (last k : ℕ) → block_after last k < 128
after_small last k = mod-lt _ (omega arith)

pub after_near : (last k : ℕ) → last + 1 + k < 128 → block_after last k ≡ last + 1 + k
after_near last k = (after_is last k).near

after_round : (last k : ℕ) → 128 ≤ last + 1 + k → last + 1 + k < 256 → block_after last k ≡ last + 1 + k - 128
after_round last k = (after_is last k).round

-- after block 127 come the blocks by their own numbers
pub after_end : (k : ℕ) → k < 128 → block_after 127 k ≡ k
after_end k h = let e = after_round 127 k (omega arith) (omega arith) in omega arith

-- how many blocks come before b, after the last one given
abbrev pub distance : ℕ → ℕ → ℕ
distance last b = cond (ltb last b) (b - last - 1) (b + 127 - last)

pub distance_small : (last b : ℕ) → last ≤ 127 → b < 128 → distance last b < 128
distance_small last b l h = split (ltb last b) (λ t. rw t (omega arith)) (λ t. rw t (let k : b ≤ last = ltb-false last b t in omega arith))

pub distance_is : (last b : ℕ) → last ≤ 127 → b < 128 → block_after last (distance last b) ≡ b
distance_is last b l h =
    split (ltb last b)
    (λ t. let k : last < b = ltb-true last b t in rw t (let e = after_near last (b - last - 1) (omega arith) in omega arith))
    (λ t. let k : b ≤ last = ltb-false last b t in
    rw t (let e = after_round last (b + 127 - last) (omega arith) (omega arith) in omega arith))

-- from k blocks on
distance_of : (last k m : ℕ) → last ≤ 127 → k < m → m < 128 → distance (block_after last k) (block_after last m) ≡ m - k - 1
distance_of last k m l a b =
    split (leb (last + 1 + m) 127)
    (λ t. let j : last + 1 + m ≤ 127 = leb-true (last + 1 + m) 127 t in
    by_order (after_near last k (omega arith)) (after_near last m (omega arith)))
    (λ t. let j : 127 < last + 1 + m = leb-false (last + 1 + m) 127 t in
    split (leb (last + 1 + k) 127)
    (λ u. let i : last + 1 + k ≤ 127 = leb-true (last + 1 + k) 127 u in
    by_round (after_near last k (omega arith)) (after_round last m (omega arith) (omega arith)))
    (λ u. let i : 127 < last + 1 + k = leb-false (last + 1 + k) 127 u in
    by_order' i (after_round last k (omega arith) (omega arith)) (after_round last m (omega arith) (omega arith))))
  where
    p : ℕ
    p = block_after last k

    q : ℕ
    q = block_after last m

    by_order : p ≡ last + 1 + k → q ≡ last + 1 + m → distance p q ≡ m - k - 1
    by_order x y = rw (lt-ltb p q (omega arith)) (omega arith)

    by_order' : 127 < last + 1 + k → p ≡ last + 1 + k - 128 → q ≡ last + 1 + m - 128 → distance p q ≡ m - k - 1
    by_order' i x y = rw (lt-ltb p q (omega arith)) (omega arith)

    by_round : p ≡ last + 1 + k → q ≡ last + 1 + m - 128 → distance p q ≡ m - k - 1
    by_round x y = rw (le-ltb p q (omega arith)) (omega arith)

-- THE FIRST THAT PASSES

-- a block that passes, and before which none passes, is the next
pub next_fit_is : (test : ℕ → Bool) (last k : ℕ) → k < 128 → test (block_after last k) ≡ true →
    ((j : ℕ) → j < k → test (block_after last j) ≡ false) → next_fit test last ≡ block_after last k
next_fit_is test last k l e before = ap (block_after last) (first_is (λ j. test (block_after last j)) 128 k l e before)

module _ (test : ℕ → Bool) (last : ℕ) (small : last ≤ 127) where
  abbrev tried : ℕ → Bool
  tried k = test (block_after last k)

  some_after : some_below test 128 ≡ true → some_below tried 128 ≡ true
  some_after e =
      let b = first_below test 128 in
      let l : b < 128 = first_found test 128 e in
      some_at tried 128 (distance last b) (distance_small last b small l) (rw (distance_is last b small l) (first_passes test 128 l))

  -- it passes, where some block does
  pub next_fit_passes : some_below test 128 ≡ true → test (next_fit test last) ≡ true
  next_fit_passes e = first_passes tried 128 (first_found tried 128 (some_after e))

  -- and a block that passes is that one, or comes nearer
  pub nearer : (b : ℕ) → b < 128 → test b ≡ true → (next_fit test last ≡ b → ⊥) → distance (next_fit test last) b < distance last b
  nearer b h e ne =
      let k = first_below tried 128 in
      let m = distance last b in
      let at : block_after last m ≡ b = distance_is last b small h in
      let le : k ≤ m = first_at_most tried 128 m (ap test at ∙ e) in
      let other : (k ≡ m → ⊥) = λ x. ne (ap (block_after last) x ∙ at) in
      let lt : k < m = omega arith in
      let d : distance (block_after last k) b ≡ m - k - 1 = ap (distance (block_after last k)) (sym at)
      ∙ distance_of last k m small lt (distance_small last b small h) in
      omega (arith, d, lt)

-- right after block 127 it is the lowest that passes
pub next_fit_from_end : (test : ℕ → Bool) → some_below test 128 ≡ true → next_fit test 127 ≡ first_below test 128
next_fit_from_end test e =
    let same : first_below (λ k. test (block_after 127 k)) 128 ≡ first_below test 128 =
    first_same (λ k. test (block_after 127 k)) test 128 (λ k l. ap test (after_end k l)) in
    rw same (after_end (first_below test 128) (first_found test 128 e))
