use Rattle.std.proofs.Common.{◌≡◌}
use Rattle.words.specs.Cut.{left_of}
use Rattle.words.specs.Cut.{first_with, word_of}
use Rattle.words.proofs.text.word.Given as goal

abbrev pub invariant-loop-w : goal.invariant-loop-w
invariant-loop-w l =
    (goal.iterator-loop-w).can_next l.w-iterator ×
    (goal.iterator-loop-w).is_finite l.w-iterator ×
    (first_with l.key (left_of l.w-iterator) ≡ word_of l.rest l.key)
