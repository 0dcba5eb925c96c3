-- A node's place before the blocks' end lies in one of them. Assumes nothing.
use Rattle.disklayout.specs.declared.Kind.TheVariants.{Node}
use Rattle.disklayout.specs.Kinds.{kind_holds}
use Rattle.disklayout.proofs.NodeBlocks.{node_place_test}
use Rattle.layout.proofs.Asked.{kind_asked}
use Rattle.layout.proofs.rows.GoodRow.is_node_place.Goals as goal

pub returns : goal.returns
unfolding kind_holds
returns c =
    let g = c.args.self.good in
    rw (node_place_test _ g c.args.loc, c.eq.ensures, c.kind.ensures, kind_asked _ g c.args.loc Node, c.block_addr-end.ensures)
