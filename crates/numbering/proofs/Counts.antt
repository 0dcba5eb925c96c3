-- How long a list is that may have grown by one. Assumes nothing.
use Prim.Native.Nat.{◌+◌, ◌<◌, ◌≤◌, ℕ}
use mathlib.Core.Bool.{Bool, false, true}
use mathlib.Core.Path.{◌≡◌}
use native.Mathlib.Omega.{arith}
use Rattle.sectortype.specs.declared.Succs.{Succs}
use Rattle.smalltable.specs.Tables.{listed_if}

listed_count : (b : Bool) (r : ℕ) (s : Succs) → (listed_if b r s).count ≤ s.count + 1
unfolding listed_if
listed_count true r s = omega arith
listed_count false r s = omega arith

pub grown : (n : ℕ) (b : Bool) (r : ℕ) (s : Succs) {x : Succs} → x ≡ listed_if b r s → s.count < n → x.count < n + 1
grown n b r s e h = rw e (omega (arith, listed_count b r s))
