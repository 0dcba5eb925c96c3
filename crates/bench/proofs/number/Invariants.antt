-- The number has at most eight digits.
use Rattle.std.proofs.Common.{◌≤◌}
use Rattle.bench.proofs.number.Given as goal

abbrev pub invariant-loop-i : goal.invariant-loop-i
invariant-loop-i l = l.n ≤ 99999999
