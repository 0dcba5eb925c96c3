-- Document 02, Q-13: the order of small tables, by what is read off them: the allocated set, then the lists of 0, 1 and 2.
use Rattle.std.specs.Prelude.{ℕ, ◌<◌, List, [], ◌∷◌, ◌⊎◌, ◌≡◌}
use Rattle.base.specs.Bits.{word_of}
use Rattle.sectortype.specs.Form.{entry_at}
use Rattle.sectortype.specs.Graph.{allocated_in, has_succ}
use Rattle.sectortype.specs.declared.Succs.{Succs}
use Rattle.sectortype.specs.declared.Table.{Table}
use Rattle.smalltable.specs.Numbers.{sets}
use Rattle.smalltable.specs.declared.Sets.{Sets}

-- a list as a number with bit q for reference q
abbrev pub set_of : Succs → ℕ
set_of s = word_of (has_succ s) 3

-- the list of r, likewise
abbrev pub list_set : Table → ℕ → ℕ
list_set t r = set_of (entry_at t r).succs

-- the four sets of a table
unfoldable pub sets_of : Table → Sets
sets_of t = sets (word_of (allocated_in t) 3) (list_set t 0) (list_set t 1) (list_set t 2)

-- the allocated set first, then the lists of 0, 1 and 2
abbrev pub sets_in_order : Sets → List ℕ
sets_in_order s = s.allocated ∷ s.list0 ∷ s.list1 ∷ s.list2 ∷ []

-- of the first two that differ the one on the left is smaller
abbrev pub Before : List ℕ → List ℕ → Type 0
Before [] ys = ⊥
Before (x ∷ xs) [] = ⊥
Before (x ∷ xs) (y ∷ ys) = (x < y) ⊎ ((x ≡ y) × Before xs ys)
