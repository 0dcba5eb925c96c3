-- Laws of cutting. Assumes nothing.
use Rattle.std.proofs.Common.{◌≡◌, ◌∙◌, ℕ, ◌+◌, ◌≤◌, ◌<◌, ◌==◌, suc, Bool, false, cond, eqb, List, [], ◌∷◌, length, take, drop, get_or}
use Rattle.std.proofs.Common.{Some, None, position, unwrap_or, refl, add-one, arith}
use Rattle.std.proofs.lemmas.Grind.{common_steps}
use Rattle.std.proofs.lemmas.List.Elements.{All-from_get_or}
use Rattle.std.proofs.lemmas.List.Splits.{slice_split_first, slice_split_none}
use Rattle.std.proofs.lemmas.List.Sums.{fails_before_first, position_or_len_is, prefix_len-le-length}
use borrow.Author.Tests.{eqb-false, eqb-true, ne_eqb, le-ltb, lt-ltb}
use lib.ListN.{drop_of_length-le}
use lib.Seq.{drop-cons, take_all}
use Rattle.base.proofs.Scan.{first_before, first_le, first_passes}
use Rattle.base.proofs.Tests.{split}
use Rattle.base.specs.Scan.{first_below}
use Rattle.words.specs.Bytes.{cut_of, find_of}
use Rattle.words.specs.Cut.{pieces_of, words_of}

pub find_le : (s : List ℕ) (b : ℕ) → find_of s b ≤ length s
unfolding find_of
find_le s b = prefix_len-le-length _ s

pub find_place : (s : List ℕ) (b : ℕ) → unwrap_or (position (λ c. c == b) s) (length s) ≡ find_of s b
unfolding find_of
find_place s b = grind (arith, common_steps, find_le s b)

pub pieces_more : (b : ℕ) (s x y : List ℕ) → cut_of s b ≡ Some (x, y) → pieces_of b s ≡ x ∷ pieces_of b y
unfolding cut_of pieces_of
pieces_more b s x y e = grind (arith, common_steps, slice_split_first (λ c. c == b) s 0)

pub pieces_last : (b : ℕ) (s : List ℕ) → cut_of s b ≡ None → pieces_of b s ≡ s ∷ []
unfolding cut_of pieces_of
pieces_last b s e =
    slice_split_none (λ c. c == b) s (All-from_get_or (λ c. (c == b) ≡ false) s 0
    (λ i h. fails_before_first (λ c. c == b) s i 0 (grind (arith, common_steps))))

-- the two sides of a byte that stands there, and none of one that does not
pub cut_found : (s : List ℕ) (b : ℕ) → (find_of s b ≡ length s → ⊥) → cut_of s b ≡ Some (take (find_of s b) s, drop (find_of s b + 1) s)
unfolding cut_of find_of
cut_found s b h = let l : find_of s b ≤ length s = find_le s b in rw (lt-ltb (find_of s b) (length s) (omega arith))

pub cut_missed : (s : List ℕ) (b : ℕ) → find_of s b ≡ length s → cut_of s b ≡ None
unfolding cut_of find_of
cut_missed s b h = rw (le-ltb (find_of s b) (length s) (omega arith))

-- THE SAME, STEP BY STEP

-- the first place that has the byte
pub find_first : (s : List ℕ) (b : ℕ) → find_of s b ≡ first_below (λ k. eqb (get_or s k 0) b) (length s)
unfolding find_of
find_first s b =
    let g : ℕ → Bool = λ k. eqb (get_or s k 0) b in
    position_or_len_is _ s (first_below g (length s)) 0 (first_le g (length s)) (first_before g (length s)) (first_passes g (length s))

-- the first piece, and those behind the byte that ends it, if one does
pub pieces_step : (b : ℕ) (s : List ℕ) →
    pieces_of b s ≡ take (find_of s b) s ∷ cond (eqb (find_of s b) (length s)) [] (pieces_of b (drop (find_of s b + 1) s))
pieces_step b s =
    split (eqb (find_of s b) (length s))
    (λ t. let e : find_of s b ≡ length s = eqb-true _ _ t in
    rw (t, pieces_last b s (cut_missed s b e), take_all (find_of s b) s (let h : length s ≤ find_of s b = omega arith in h)))
    (λ t. rw (t, pieces_more b s _ _ (cut_found s b (eqb-false _ _ t))))

words_drop : (s : List ℕ) (k : ℕ) → k ≤ length s →
    words_of (drop k s) ≡ cond (eqb k (length s)) [] (pieces_of 32 (drop (k + 1) s))
unfolding words_of
words_drop s k b =
    split (eqb k (length s))
    (λ t. let e : k ≡ length s = eqb-true _ _ t in
    rw (t, drop_of_length-le s (let h : length s ≤ k = omega arith in h)) refl)
    (λ t. let n : k ≡ length s → ⊥ = eqb-false _ _ t in
    rw (t, drop-cons s k 0 (let h : k < length s = omega (arith, n) in h), add-one) refl)

-- the first word, behind one space, and those behind it
pub words_step : (r : List ℕ) →
    words_of r ≡ cond (eqb (length r) 0) [] (take (find_of (drop 1 r) 32) (drop 1 r) ∷ words_of (drop (1 + find_of (drop 1 r) 32) r))
unfolding words_of
words_step [] = refl
words_step (space ∷ s) =
    let n : eqb (suc (length s)) 0 ≡ false = ne_eqb _ _ (λ (h : suc (length s) ≡ 0). omega arith) in
    let o : 1 + find_of s 32 ≡ suc (find_of s 32) = omega arith in
    pieces_step 32 s ∙ rw (n, o, words_drop s (find_of s 32) (find_le s 32)) refl
