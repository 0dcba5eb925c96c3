use Rattle.std.proofs.Common.{◌≡◌}
use Rattle.words.specs.Cut.{left_of}
use Rattle.words.specs.Cut.{fit_from, fit_of}
use Rattle.words.proofs.text.words_fit.Given as goal

abbrev pub invariant-loop-w : goal.invariant-loop-w
invariant-loop-w l =
    (goal.iterator-loop-w).can_next l.w-iterator ×
    (goal.iterator-loop-w).is_finite l.w-iterator ×
    (fit_from l.seen l.keys (left_of l.w-iterator) ≡ fit_of l.rest l.keys)
