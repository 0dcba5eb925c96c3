-- The address is the running one (`running_on`, on the device).
use Rattle.std.proofs.Common.{◌≡◌}
use Rattle.disklayout.specs.Calls.{running_on}
use Rattle.replay.proofs.show.letters.Given as goal

abbrev pub invariant-loop-k : goal.invariant-loop-k
invariant-loop-k l = l.at ≡ running_on l.device l.k
