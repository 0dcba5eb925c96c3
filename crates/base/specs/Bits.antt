-- The tests below n as one number, a binary digit for each: a word of marks.
use Rattle.std.specs.Prelude.{Bool, ℕ, zero, suc, ◌+◌, ◌*◌, ◌/◌, ◌%◌, ◌^◌, eqb}
use Rattle.base.specs.Scan.{bit}

-- digit k of a number is 1
abbrev pub digit_at : ℕ → ℕ → Bool
digit_at w k = eqb (w / 2 ^ k % 2) 1

-- digit k is 1 where the test g passes at k, for each k below n
unfoldable pub word_of : (ℕ → Bool) → ℕ → ℕ
word_of g zero = 0
word_of g (suc n) = bit (g n) * 2 ^ n + word_of g n
