use Rattle.std.proofs.Common.{◌≡◌}
use Rattle.words.specs.Cut.{left_of}
use Rattle.words.specs.Reading.{fold_from}
use Rattle.words.specs.Parsed.{extended_of, table_read_of}
use Rattle.words.proofs.tables.table.Given as goal

abbrev pub invariant-loop-piece : goal.invariant-loop-piece
invariant-loop-piece l =
    (goal.iterator-loop-piece).can_next l.piece-iterator ×
    (goal.iterator-loop-piece).is_finite l.piece-iterator ×
    (fold_from extended_of l.t (left_of l.piece-iterator) ≡ table_read_of l.w)
