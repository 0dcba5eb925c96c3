-- Document 02, Q-5: what a place is, over any row. Upstream's five validity predicates as one answer.
use Rattle.std.specs.Prelude.{Bool, true, false, ◌&&◌, not, cond, List, [], ◌∷◌, ℕ, zero, suc, leb, get_or, Option, Some, None}
use Rattle.disklayout.specs.declared.Device.{Device}
use Rattle.disklayout.specs.declared.Kind.{Kind}
use Rattle.disklayout.specs.declared.Kind.TheVariants.{Superblock1, Superblock2, Journal, Table, Node}
use Rattle.disklayout.specs.declared.Location.{Location}
use Rattle.disklayout.specs.Layout.{node_block_size, valid_superblock1_location, valid_superblock2_location, valid_journal_location}
use Rattle.disklayout.specs.Layout.{valid_indirection_table_location, valid_node_location}

-- the first kind whose predicate holds, or none; on a good row at most one predicate does
unfoldable pub kind_of : Device → Location → Option Kind
kind_of w l =
    cond (valid_superblock1_location l) (Some Superblock1)
    (cond (valid_superblock2_location l) (Some Superblock2)
    (cond (valid_journal_location w l) (Some Journal)
    (cond (valid_indirection_table_location w l) (Some Table)
    (cond (valid_node_location w l) (Some Node)
    None))))

-- the predicate of each kind
unfoldable pub kind_holds : Kind → Device → Location → Bool
kind_holds Superblock1 w l = valid_superblock1_location l
kind_holds Superblock2 w l = valid_superblock2_location l
kind_holds Journal w l = valid_journal_location w l
kind_holds Table w l = valid_indirection_table_location w l
kind_holds Node w l = valid_node_location w l

-- the kind of a place of length n at a node address (`kind_at_node_lem`, in proofs/PlaceKinds.antt)
abbrev pub kind_at_node : Device → ℕ → Option Kind
kind_at_node w n = cond (leb n (node_block_size w)) (Some Node) None

-- document 02's number of each kind, and 0 for none
unfoldable pub kind_number : Option Kind → ℕ
kind_number (Some Superblock1) = 1
kind_number (Some Superblock2) = 2
kind_number (Some Journal) = 3
kind_number (Some Table) = 4
kind_number (Some Node) = 5
kind_number None = 0

-- WHAT THE THEOREM SPEAKS OF: `kind_iff`, in proofs/PlaceKinds.antt

-- upstream's five predicates of a place, in the order of the numbers
abbrev pub validities : Device → Location → List Bool
validities w l =
    valid_superblock1_location l ∷
    valid_superblock2_location l ∷
    valid_journal_location w l ∷
    valid_indirection_table_location w l ∷
    valid_node_location w l ∷
    []

abbrev pub none_holds : List Bool → Bool
none_holds [] = true
none_holds (b ∷ bs) = not b && none_holds bs

-- the k-th of a list holds, counted from 1; of 0: none does
abbrev pub kth_holds : List Bool → ℕ → Bool
kth_holds bs zero = none_holds bs
kth_holds bs (suc k) = get_or bs k false
