-- Document 02, Q-14: C is told where a part of the journal lies, as two numbers; the calls of Q-3 hand the part itself back. `Tells` says what it means
-- that the two agree. Memory is here its bytes, and where it begins: an allocation and an offset in it.
use Rattle.std.specs.Prelude.{◌≡◌, List, ℕ, ◌+◌, length, take, drop}

-- start and len are those of a part of an area that was handed back: shown of the functions for C by `front_told` and `back_told`, in proofs/Handed.antt
pub record Tells (start len : ℕ) (area : List ℕ) (area_at : ℕ × ℕ) (part : List ℕ) (part_at : ℕ × ℕ) : Type 0 where
  -- the part begins start bytes past the area's first byte, in the same memory, and has len bytes
  pub begins : part_at ≡ (area_at.0, start + area_at.1)
  pub counts : length part ≡ len
  -- so a program that has the area in memory and goes by the two numbers reads the part's bytes
  pub bytes : part ≡ take len (drop start area)
