use Rattle.std.proofs.Common.{◌≡◌}
use Rattle.words.specs.Cut.{left_of}
use Rattle.words.specs.Reading.{fold_from}
use Rattle.script.specs.Offers.{with_blocks, with_word}
use Rattle.script.proofs.offer.with_blocks.Given as goal

abbrev pub invariant-loop-w : goal.invariant-loop-w
invariant-loop-w l =
    (goal.iterator-loop-w).can_next l.w-iterator ×
    (goal.iterator-loop-w).is_finite l.w-iterator ×
    (fold_from with_word l.o (left_of l.w-iterator) ≡ with_blocks l.fn.o l.rest)
