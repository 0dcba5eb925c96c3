-- Numbers as text: decimal digits, without leading zeros, below 2 to the 64.
use Rattle.std.specs.Prelude.{ℕ, zero, suc, ◌+◌, ◌-◌, ◌*◌, ◌^◌, Bool, ◌&&◌, not, cond, List, ltb, leb, eqb, length, get_or}
use Rattle.std.specs.Prelude.{Option, Some, None}
use Rattle.base.specs.Scan.{all_below}
use Rattle.disklayout.specs.declared.Location.{Location}
use Rattle.words.specs.Bytes.{cut_of}
use Rattle.words.specs.Reading.{◌>>=◌}

-- 0 to 9 are the bytes 48 to 57
abbrev pub digit : ℕ → Bool
digit b = leb 48 b && leb b 57

-- what a digit is worth
abbrev pub digit_of : ℕ → Option ℕ
digit_of b = cond (digit b) (Some (b - 48)) None

-- n with one digit more
abbrev pub with_digit : ℕ → ℕ → Option ℕ
with_digit n d = cond (ltb (n * 10 + d) (2 ^ 64)) (Some (n * 10 + d)) None

abbrev pub appended_of : ℕ → ℕ → Option ℕ
appended_of n b = do
  d ← digit_of b
  with_digit n d

-- what the first k bytes are worth, read as digits
unfoldable pub value_of : List ℕ → ℕ → ℕ
value_of s zero = 0
value_of s (suc k) = value_of s k * 10 + (get_or s k 0 - 48)

-- all bytes are digits, there is one, and the first of several is not 0
abbrev pub numeral : List ℕ → Bool
numeral s =
    all_below (λ k. digit (get_or s k 0)) (length s) && (ltb 0 (length s) && not (ltb 1 (length s) && eqb (get_or s 0 0) 48))

unfoldable pub number_of : List ℕ → Option ℕ
number_of s = cond (numeral s && ltb (value_of s (length s)) (2 ^ 64)) (Some (value_of s (length s))) None

-- a number that is at most m
unfoldable pub small_of : List ℕ → ℕ → Option ℕ
small_of s m = do
  n ← number_of s
  cond (leb n m) (Some n) None

-- the numbers on the two sides of the first byte b
unfoldable pub sides_of : List ℕ → ℕ → Option (ℕ × ℕ)
sides_of s b = do
  p ← cut_of s b
  l ← number_of p.0
  r ← number_of p.1
  Some (l, r)

-- ADDR+LEN: the two sides of + (byte 43)
unfoldable pub location_of : List ℕ → Option Location
location_of s = do
  p ← sides_of s 43
  Some (record { addr = p.0; len = p.1 })
