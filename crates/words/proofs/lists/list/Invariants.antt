use Rattle.std.proofs.Common.{◌≡◌}
use Rattle.words.specs.Cut.{left_of}
use Rattle.words.specs.Reading.{fold_from}
use Rattle.words.specs.Parsed.{joined_of, list_of}
use Rattle.words.proofs.lists.list.Given as goal

abbrev pub invariant-loop-piece : goal.invariant-loop-piece
invariant-loop-piece l =
    (goal.iterator-loop-piece).can_next l.piece-iterator ×
    (goal.iterator-loop-piece).is_finite l.piece-iterator ×
    (fold_from joined_of l.l (left_of l.piece-iterator) ≡ list_of l.w)
