-- By the tests on the way, what the callees ensure and the laws of the layout. Assumes nothing.
use mathlib.Core.Path.{sym, ◌∙◌}
use native.Mathlib.Omega.{arith}
use Rattle.disklayout.proofs.NodeBlocks.{first_le, block_found, block_far, block_invalid}
use Rattle.layout.proofs.rows.GoodRow.block_by_division.Goals as goal

pub overflow_sub-k : goal.overflow_sub-k
overflow_sub-k c =
    first_le _ c.args.self.good _ (sym c.is_node_addr.ensures ∙ c.if-is_node_addr.true)

pub returns-then-k-lt-BLOCKS : goal.returns-then-k-lt-BLOCKS
returns-then-k-lt-BLOCKS c =
    let valid = sym c.is_node_addr.ensures ∙ c.if-is_node_addr.true in
    block_found _ c.args.self.good _ valid (omega (arith, c.if-k-lt-BLOCKS.true))

pub returns-else-k-lt-BLOCKS : goal.returns-else-k-lt-BLOCKS
returns-else-k-lt-BLOCKS c = block_far _ c.args.self.good _ (omega (arith, c.if-k-lt-BLOCKS.false))

pub returns-else-is_node_addr : goal.returns-else-is_node_addr
returns-else-is_node_addr c = block_invalid _ c.args.self.good _ (sym c.is_node_addr.ensures ∙ c.if-is_node_addr.false)
