-- At each try the running address is the first node address plus block number times block size (`running_addr`, `running_addr_lem`), and no block
-- before has the address asked for. Assumes nothing.
use mathlib.Core.Path.{◌≡◌}
use Rattle.disklayout.specs.Blocks.{running_addr}
use Rattle.disklayout.proofs.RunningAddr.{Missed}
use Rattle.layout.proofs.rows.GoodRow.walk_to_block.Given as goal

abbrev pub invariant-loop-k : goal.invariant-loop-k
invariant-loop-k l = (l.at ≡ running_addr l.self.numbers l.k) × Missed l.self.numbers l.addr l.k
