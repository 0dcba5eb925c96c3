-- The walk begins at the first node address, and grows by the block size.
use Rattle.disklayout.proofs.RunningAddr.{walk_first, walk_next, walk_fits}
use Rattle.replay.proofs.show.letters.Goals as goal

pub loop-k-init : goal.loop-k-init
loop-k-init c = walk_first c.args.device c.first_node_addr.ensures c.unwrap_or-at.ensures

pub overflow_add-at : goal.overflow_add-at
overflow_add-at c =
    record { fits = walk_fits c.args.device c.node_block_size.ensures c.unwrap_or-size.ensures c.loop-k.k c.loop-k.invariant c.loop-k-test.true }

pub loop-k-preserved : goal.loop-k-preserved
loop-k-preserved c = walk_next c.args.device c.node_block_size.ensures c.unwrap_or-size.ensures c.loop-k.k c.loop-k.invariant
