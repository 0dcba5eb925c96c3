-- The blocks of a list of bytes: of two lists one behind the other, and of a part of a list. Assumes nothing.
use mathlib.Core.Path.{◌≡◌, refl, ◌∙◌}
use mathlib.Core.List.{List, [], ◌∷◌, ◌++◌}
use Prim.Native.Nat.{ℕ, zero, suc, ◌+◌, ◌*◌, ◌<◌, ◌≤◌}
use native.Mathlib.Omega.{arith}
use lib.ListN.{length, take, drop, length-drop}
use lib.Seq.{drop-append-le, take-append-le, drop-append-add, take-take, drop-drop}
use Rattle.journalrange.specs.Walk.{block}

-- a part of the first n elements is a part of the list
part_of_first : (a m n : ℕ) (l : List ℕ) → a + m ≤ n → take m (drop a (take n l)) ≡ take m (drop a l)
part_of_first zero m n l h = take-take m n l (omega arith)
part_of_first (suc a) m zero l h = let impossible : ⊥ = omega arith in absurd impossible
part_of_first (suc a) m (suc n) [] h = refl
part_of_first (suc a) m (suc n) (x ∷ xs) h = part_of_first a m n xs (omega arith)

-- of two lists one behind the other: a block of the first, and one of the second where the first has f whole blocks
pub block_first : (xs ys : List ℕ) (i : ℕ) → i * 4096 + 4096 ≤ length xs → block (xs ++ ys) i ≡ block xs i
block_first xs ys i h =
    let room : 4096 ≤ length (drop (i * 4096) xs) = simp length-drop (omega arith) in
    rw (drop-append-le (i * 4096) xs ys (omega arith)) (take-append-le 4096 (drop (i * 4096) xs) ys room)

pub block_second : (xs ys : List ℕ) (f j : ℕ) → length xs ≡ f * 4096 → block (xs ++ ys) (f + j) ≡ block ys j
block_second xs ys f j e = let q : (f + j) * 4096 ≡ length xs + j * 4096 = omega arith in rw (q, drop-append-add xs ys (j * 4096))

-- of the m blocks of a list from block s on
pub block_part : (l : List ℕ) (m s i : ℕ) → i < m → block (take (m * 4096) (drop (s * 4096) l)) i ≡ block l (s + i)
block_part l m s i h =
    let q : s * 4096 + i * 4096 ≡ (s + i) * 4096 = omega arith in
    part_of_first (i * 4096) 4096 (m * 4096) (drop (s * 4096) l) (omega arith) ∙ rw (drop-drop (i * 4096) (s * 4096) l, q)
