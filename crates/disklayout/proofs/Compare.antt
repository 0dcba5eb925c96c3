-- Sums compared without adding: an arm of the code for each law. Assumes nothing.
use mathlib.Core.Path.{◌≡◌, sym}
use mathlib.Core.Bool.{true, false}
use Prim.Native.Nat.{ℕ, ◌+◌, ◌-◌, ◌<◌, ◌≤◌}
use native.Mathlib.Omega.{arith}
use lib.Dec.{leb, ltb}
use borrow.Author.Tests.{ltb-true, leb-true, lt-ltb, le-leb, lt-leb}
use Rattle.base.proofs.Tests.{bool_ext}

-- two tests of an order are equal where each follows from the other
pub leb_same : (a b c d : ℕ) → (a ≤ b → c ≤ d) → (c ≤ d → a ≤ b) → leb a b ≡ leb c d
leb_same a b c d f g =
    bool_ext (leb a b) (leb c d) (λ e. le-leb c d (f (leb-true a b e))) (λ e. le-leb a b (g (leb-true c d e)))

pub ltb_same : (a b c d : ℕ) → (a < b → c < d) → (c < d → a < b) → ltb a b ≡ ltb c d
ltb_same a b c d f g =
    bool_ext (ltb a b) (ltb c d) (λ e. lt-ltb c d (f (ltb-true a b e))) (λ e. lt-ltb a b (g (ltb-true c d e)))

module _ (a b x : ℕ) where
  pub passes_below : x < a → true ≡ ltb x (a + b)
  passes_below h = sym (lt-ltb x (a + b) (omega arith))

  pub passes_rest : a ≤ x → ltb (x - a) b ≡ ltb x (a + b)
  passes_rest h = ltb_same (x - a) b x (a + b) (λ e. omega arith) (λ e. omega arith)

module _ (a b c d : ℕ) where
  pub within_gap : a ≤ c → b ≤ c - a → true ≡ leb (a + b) (c + d)
  within_gap h k = sym (le-leb (a + b) (c + d) (omega arith))

  pub within_rest : a ≤ c → c - a < b → leb (b - (c - a)) d ≡ leb (a + b) (c + d)
  within_rest h k = leb_same (b - (c - a)) d (a + b) (c + d) (λ e. omega arith) (λ e. omega arith)

  pub within_short : c < a → d < a - c → false ≡ leb (a + b) (c + d)
  within_short h k = sym (lt-leb (a + b) (c + d) (omega arith))

  pub within_room : c < a → a - c ≤ d → leb b (d - (a - c)) ≡ leb (a + b) (c + d)
  within_room h k = leb_same b (d - (a - c)) (a + b) (c + d) (λ e. omega arith) (λ e. omega arith)
