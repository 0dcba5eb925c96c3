-- A call's refusals as rows, one for each row of document 01: a number and the condition under which it is returned.
use Rattle.std.specs.Prelude.{ℕ, Bool, ◌&&◌, ◌||◌, cond, false, true, List, [], ◌∷◌, eqb, leb, ltb}

infix 40 ◌when◌
pub data Row : Type 0 where
  ◌when◌ : ℕ → Bool → Row

-- the number of the first row whose condition holds; 0, accepted, where none does
unfoldable pub answer : List Row → ℕ
answer [] = 0
answer ((n when b) ∷ rs) = cond b n (answer rs)

-- each number is above n and above those before it
abbrev pub ascending_from : ℕ → List Row → Bool
ascending_from n [] = true
ascending_from n ((m when b) ∷ rs) = ltb n m && ascending_from m rs

-- the numbers ascend from 1 on, as in document 01
abbrev pub ascending : List Row → Bool
ascending rs = ascending_from 0 rs

-- some row with the number n has its condition
abbrev pub holds : ℕ → List Row → Bool
holds n [] = false
holds n ((m when b) ∷ rs) = (eqb m n && b) || holds n rs

-- the lower of two answers of which 0 is no refusal: what a call returns that asks two
abbrev pub lowest : ℕ → ℕ → ℕ
lowest a b = cond (eqb a 0) b (cond (eqb b 0) a (cond (leb a b) a b))
