-- The kind at a node address is a node's where the length is no more than a block. Assumes nothing.
use Rattle.base.proofs.Tests.{split}
use lib.Dec.{leb}
use Rattle.disklayout.specs.Blocks.{node_place_length}
use Rattle.layout.proofs.rows.GoodRow.is_node_place_length.Goals as goal

pub returns : goal.returns
unfolding node_place_length
returns c = rw (c.eq.ensures, c.kind_at_node.ensures) (split (leb c.args.len c.args.self.numbers.block) (λ t. rw t) (λ f. rw f))
