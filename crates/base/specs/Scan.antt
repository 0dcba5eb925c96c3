-- Tests over the numbers below n. Each peels at the top, as a loop that counts up does.
use Rattle.std.specs.Prelude.{Bool, true, false, ◌&&◌, ◌||◌, cond, ℕ, zero, suc, ◌+◌, ◌-◌}

-- the test g passes at each number below n
unfoldable pub all_below : (ℕ → Bool) → ℕ → Bool
all_below g zero = true
all_below g (suc n) = all_below g n && g n

-- the test g passes at some number below n
unfoldable pub some_below : (ℕ → Bool) → ℕ → Bool
some_below g zero = false
some_below g (suc n) = some_below g n || g n

-- the first number below n that passes the test g, or n where none does
unfoldable pub first_below : (ℕ → Bool) → ℕ → ℕ
first_below g zero = zero
first_below g (suc n) = cond (some_below g n) (first_below g n) (cond (g n) n (suc n))

-- the first number from a on and below n, a at most n, that passes the test g, or n where none does
abbrev pub first_from : (ℕ → Bool) → ℕ → ℕ → ℕ
first_from g a n = a + first_below (λ k. g (a + k)) (n - a)

-- a test as a number
abbrev pub bit : Bool → ℕ
bit b = cond b 1 0

-- how many numbers below n pass the test g
unfoldable pub count_below : (ℕ → Bool) → ℕ → ℕ
count_below g zero = zero
count_below g (suc n) = count_below g n + bit (g n)
