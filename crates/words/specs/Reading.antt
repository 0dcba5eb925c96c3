-- Reading goes on with what was read, if it could be.
use Rattle.std.specs.Prelude.{Option, Some, option_and_then, List, [], ◌∷◌}

infixl 10 ◌>>=◌
abbrev pub ◌>>=◌ : {A B : Type 0} → Option A → (A → Option B) → Option B
o >>= f = option_and_then f o

-- steps over texts one after the other, as long as each can be read
abbrev pub fold_from : {A X : Type 0} → (A → List X → Option A) → A → List (List X) → Option A
fold_from step a [] = Some a
fold_from step a (w ∷ ws) = do
  b ← step a w
  fold_from step b ws
