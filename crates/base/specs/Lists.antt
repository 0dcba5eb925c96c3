-- What a list has at a place, and a list with one element more, or one less, at a place.
use Rattle.std.specs.Prelude.{List, [], ◌∷◌, ℕ, zero, suc}
use Rattle.std.proofs.Math.Option.{Option, none, some}

module _ {A : Type 0} where
  -- the element at place k; none past the end
  abbrev pub nth : List A → ℕ → Option A
  nth [] k = none
  nth (x ∷ xs) zero = some x
  nth (x ∷ xs) (suc k) = nth xs k

  -- the list with w at place p, the rest one place on
  unfoldable pub opened : List A → ℕ → A → List A
  opened l zero w = w ∷ l
  opened [] (suc p) w = w ∷ []
  opened (x ∷ xs) (suc p) w = x ∷ opened xs p w

  -- the list without place p
  unfoldable pub closed : List A → ℕ → List A
  closed [] p = []
  closed (x ∷ xs) zero = xs
  closed (x ∷ xs) (suc p) = x ∷ closed xs p
