use Rattle.std.proofs.Common.{◌≡◌}
use Rattle.words.specs.Cut.{left_of}
use Rattle.words.specs.Reading.{fold_from}
use Rattle.script.specs.Transactions.{operation_list_of, with_operation_word}
use Rattle.script.proofs.transaction.operation_list.Given as goal

abbrev pub invariant-loop-w : goal.invariant-loop-w
invariant-loop-w l =
    (goal.iterator-loop-w).can_next l.w-iterator ×
    (goal.iterator-loop-w).is_finite l.w-iterator ×
    (fold_from with_operation_word l.l (left_of l.w-iterator) ≡ operation_list_of l.rest)
