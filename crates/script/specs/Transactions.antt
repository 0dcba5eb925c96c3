-- The operations that a line of step 20 has, in the line's order.
use Rattle.std.specs.Prelude.{ℕ, ◌+◌, Bool, true, false, cond, List, [], ◌∷◌, leb, set, drop, replicate, Option, Some, None}
use Rattle.sectortype.specs.Form.{zero_node}
use Rattle.blockcache.specs.declared.Operation.{Operation}
use Rattle.words.specs.Bytes.{cut_of, starts_of, op_bytes}
use Rattle.words.specs.Numbers.{number_of}
use Rattle.words.specs.Cut.{words_of}
use Rattle.words.specs.Parsed.{node_of}
use Rattle.words.specs.Reading.{◌>>=◌, fold_from}
use Rattle.script.specs.declared.transaction.OperationList.{OperationList}

-- AN OPERATION

abbrev pub zero_operation : Operation
zero_operation = record { alloc = false; reference = 0; node = zero_node }

-- REF/NODE: the two sides of the first / (byte 47)
unfoldable pub kind_read_of : Bool → List ℕ → Option Operation
kind_read_of alloc w = do
  p ← cut_of w 47
  r ← number_of p.0
  n ← node_of p.1
  Some (record { alloc = alloc; reference = r; node = n })

-- dirty/REF/NODE, alloc/REF/NODE
unfoldable pub operation_read_of : List ℕ → Option Operation
operation_read_of w =
    cond (starts_of w (100 ∷ 105 ∷ 114 ∷ 116 ∷ 121 ∷ 47 ∷ [])) (kind_read_of false (drop 6 w))
    (cond (starts_of w (97 ∷ 108 ∷ 108 ∷ 111 ∷ 99 ∷ 47 ∷ [])) (kind_read_of true (drop 6 w))
    None)

-- THE LIST

-- what was read stands behind what the list has
abbrev pub operation_added : OperationList → List ℕ → Option OperationList
operation_added l w = do
  o ← operation_read_of w
  Some (record { count = l.count + 1; at = set l.at l.count o })

-- what stands behind op=: one operation more, of which a line has at most 40
unfoldable pub with_operation : OperationList → List ℕ → Option OperationList
with_operation l w = cond (leb 40 l.count) None (operation_added l w)

-- op=, or another word, which says nothing of operations
unfoldable pub with_operation_word : OperationList → List ℕ → Option OperationList
with_operation_word l w = cond (starts_of w op_bytes) (with_operation l (drop 3 w)) (Some l)

-- no word read yet
abbrev pub no_operations_yet : OperationList
no_operations_yet = record { count = 0; at = replicate 40 zero_operation }

-- each op= of a rest, one after the other
unfoldable pub operation_list_of : List ℕ → Option OperationList
operation_list_of r = fold_from with_operation_word no_operations_yet (words_of r)
