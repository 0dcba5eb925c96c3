-- Laws of the words of step 20: how many operations are read, and lines worked out. Assumes nothing.
use Rattle.std.proofs.Common.{◌≡◌, ◌≤◌, ℕ, true, false, List, [], ◌∷◌, replicate, refl, arith, rules}
use Rattle.std.proofs.Common.{Option, Some, None, IfSome, option_and_then}
use Rattle.std.proofs.lemmas.Grind.{common_steps}
use Rattle.base.specs.Scan.{all_below}
use Rattle.sectortype.specs.Form.{zero_succs}
use Rattle.sectortype.specs.declared.Succs.{Succs}
use Rattle.blockcache.specs.declared.Operation.{Operation}
use Rattle.words.specs.Bytes.{cut_of, key_of, rare_key_of}
use Rattle.words.specs.ContentsText.{contents_of}
use Rattle.words.specs.Cut.{fit_of, pieces_of, words_of}
use Rattle.words.specs.Numbers.{number_of, sides_of, small_of, value_of}
use Rattle.words.specs.Parsed.{joined_of, list_of, node_of}
use Rattle.words.specs.Reading.{fold_from}
use Rattle.script.specs.Requests.{step_keys}
use Rattle.script.specs.Transactions.{kind_read_of, no_operations_yet, operation_list_of, operation_read_of}
use Rattle.script.specs.Transactions.{with_operation, with_operation_word, zero_operation}
use Rattle.script.specs.declared.transaction.OperationList.{OperationList}

-- THE BOUND

word_bound : (l m : OperationList) (w : List ℕ) → l.count ≤ 40 → with_operation_word l w ≡ Some m → m.count ≤ 40
unfolding with_operation_word with_operation
word_bound l m w h e = grind (arith, common_steps)

words_bound : (ws : List (List ℕ)) (l m : OperationList) → l.count ≤ 40 → fold_from with_operation_word l ws ≡ Some m → m.count ≤ 40
words_bound [] l m h e = grind (arith, common_steps)
words_bound (w ∷ ws) l m h e = step (with_operation_word l w) refl (words_bound ws) e
  where
    step : (o : Option OperationList) → with_operation_word l w ≡ o →
        ((k n : OperationList) → k.count ≤ 40 → fold_from with_operation_word k ws ≡ Some n → n.count ≤ 40) →
        option_and_then (λ k. fold_from with_operation_word k ws) o ≡ Some m → m.count ≤ 40
    step None q on f = absurd (search rules)
    step (Some k) q on f = on k m (word_bound l k w h q) f

-- at most 40 operations are read, whatever the line has
pub at_most_forty : (r : List ℕ) → IfSome (operation_list_of r) (λ l. l.count ≤ 40)
unfolding operation_list_of
at_most_forty r = if_some (operation_list_of r) refl
  where
    if_some : (o : Option OperationList) → operation_list_of r ≡ o → IfSome o (λ l. l.count ≤ 40)
    if_some None q = tt
    if_some (Some m) q = words_bound (words_of r) no_operations_yet m (omega arith) q

-- LINES WORKED OUT

-- v=AdvanceOp op=dirty/0/1:9 id=1 op=alloc/5/2.3:
abbrev two_operations : List ℕ
two_operations = 32 ∷ 118 ∷ 61 ∷ 65 ∷ 100 ∷ 118 ∷ 97 ∷ 110 ∷ 99 ∷ 101 ∷ 79 ∷ 112 ∷ 32 ∷ 111 ∷ 112 ∷ 61 ∷ 100 ∷ 105 ∷ 114 ∷ 116 ∷ 121 ∷
    47 ∷ 48 ∷ 47 ∷ 49 ∷ 58 ∷ 57 ∷ 32 ∷ 105 ∷ 100 ∷ 61 ∷ 49 ∷ 32 ∷ 111 ∷ 112 ∷ 61 ∷ 97 ∷ 108 ∷ 108 ∷ 111 ∷ 99 ∷ 47 ∷ 53 ∷ 47 ∷ 50 ∷ 46 ∷
    51 ∷ 58 ∷ []

abbrev one_nine : Succs
one_nine = record { count = 1; at = 9 ∷ replicate 7 0 }

abbrev dirty_zero : Operation
dirty_zero = record { alloc = false; reference = 0; node = record { contents = record { high = 0; low = 1 }; succs = one_nine } }

abbrev alloc_five : Operation
alloc_five = record { alloc = true; reference = 5; node = record { contents = record { high = 2; low = 3 }; succs = zero_succs } }

-- both are read, in the line's order
pub two_read : operation_list_of two_operations ≡ Some (record
    { count = 2; at = dirty_zero ∷ alloc_five ∷ replicate 38 zero_operation })
unfolding operation_list_of operation_read_of kind_read_of with_operation with_operation_word words_of pieces_of cut_of all_below
    number_of value_of small_of sides_of contents_of list_of joined_of node_of
two_read = refl

-- op=alloc/18446744073709551616/1:
abbrev past_numbers : List ℕ
past_numbers = 32 ∷ 111 ∷ 112 ∷ 61 ∷ 97 ∷ 108 ∷ 108 ∷ 111 ∷ 99 ∷ 47 ∷ 49 ∷ 56 ∷ 52 ∷ 52 ∷ 54 ∷ 55 ∷ 52 ∷ 52 ∷ 48 ∷ 55 ∷ 51 ∷ 55 ∷ 48 ∷
    57 ∷ 53 ∷ 53 ∷ 49 ∷ 54 ∷ 49 ∷ 54 ∷ 47 ∷ 49 ∷ 58 ∷ []

-- op=unalloc/0/1:
abbrev other_kind : List ℕ
other_kind = 32 ∷ 111 ∷ 112 ∷ 61 ∷ 117 ∷ 110 ∷ 97 ∷ 108 ∷ 108 ∷ 111 ∷ 99 ∷ 47 ∷ 48 ∷ 47 ∷ 49 ∷ 58 ∷ []

-- op=dirty/0/none
abbrev not_written_bytes : List ℕ
not_written_bytes = 32 ∷ 111 ∷ 112 ∷ 61 ∷ 100 ∷ 105 ∷ 114 ∷ 116 ∷ 121 ∷ 47 ∷ 48 ∷ 47 ∷ 110 ∷ 111 ∷ 110 ∷ 101 ∷ []

-- a reference past 64 bits, another kind, and a node that is not written out
pub not_read : (operation_list_of past_numbers ≡ None) × (operation_list_of other_kind ≡ None)
    × (operation_list_of not_written_bytes ≡ None)
unfolding operation_list_of operation_read_of kind_read_of with_operation with_operation_word words_of pieces_of cut_of all_below
    number_of value_of small_of sides_of contents_of list_of joined_of node_of
not_read = (refl, refl, refl)

-- op= op=
abbrev op_twice : List ℕ
op_twice = 32 ∷ 111 ∷ 112 ∷ 61 ∷ 32 ∷ 111 ∷ 112 ∷ 61 ∷ []

-- id= id=
abbrev id_twice : List ℕ
id_twice = 32 ∷ 105 ∷ 100 ∷ 61 ∷ 32 ∷ 105 ∷ 100 ∷ 61 ∷ []

-- block=
abbrev a_block : List ℕ
a_block = 32 ∷ 98 ∷ 108 ∷ 111 ∷ 99 ∷ 107 ∷ 61 ∷ []

-- op may stand on step 20 alone, and come again; another word may not come again there, and a crash's word not at all
pub step_20_words : (fit_of op_twice (step_keys 20) ≡ true) × (fit_of op_twice (step_keys 18) ≡ false)
    × (fit_of op_twice (step_keys 19) ≡ false)
    × (fit_of id_twice (step_keys 20) ≡ false) × (fit_of a_block (step_keys 20) ≡ false)
unfolding fit_of words_of pieces_of key_of rare_key_of
step_20_words = (refl, refl, refl, refl, refl)
