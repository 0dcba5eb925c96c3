use Rattle.std.proofs.Common.{◌≡◌, ◌<◌, ◌^◌, true, get_or}
use Rattle.base.specs.Scan.{all_below}
use Rattle.words.specs.Numbers.{digit, value_of}
use Rattle.words.proofs.digits.number.Given as goal

abbrev pub invariant-loop-b : goal.invariant-loop-b
invariant-loop-b l =
    (l.n ≡ value_of l.w l.b-index) × (l.n < 2 ^ 64) × (true ≡ all_below (λ k. digit (get_or l.w k 0)) l.b-index)
