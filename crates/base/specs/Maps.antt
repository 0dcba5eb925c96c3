-- Upstream's map<K, V> over numbers: a partial map.
use Rattle.std.specs.Prelude.{Bool, true, false, cond, ℕ, eqb}
use Rattle.std.proofs.Math.Option.{Option, some, none}

abbrev pub Map : Type 0 → Type 0
Map A = ℕ → Option A

module _ {A : Type 0} where
  -- the map with no key: upstream's map[]
  abbrev pub empty : Map A
  empty = λ k. none

  -- m[k := v]
  unfoldable pub put : Map A → ℕ → A → Map A
  put m k v = λ j. cond (eqb j k) (some v) (m j)

  -- MapRemove1(m, k)
  unfoldable pub del : Map A → ℕ → Map A
  del m k = λ j. cond (eqb j k) none (m j)

  -- k in m
  abbrev pub is_some : Option A → Bool
  is_some none = false
  is_some (some a) = true

  -- the thing with a flag beside it, which is 01's form for an Option
  abbrev pub flagged : Bool → A → Option A
  flagged b a = cond b (some a) none
