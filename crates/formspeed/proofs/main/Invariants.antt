-- As many were accepted as calls were made, or fewer.
use Rattle.std.proofs.Common.{◌≤◌}
use Rattle.formspeed.proofs.main.Given as goal

abbrev pub invariant-loop : goal.invariant-loop
invariant-loop l = l.accepted ≤ l.counter
