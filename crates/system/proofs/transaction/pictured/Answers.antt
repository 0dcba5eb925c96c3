-- Dirty and Alloc alike set the node, by what `set_node` ensures. Assumes nothing.
use mathlib.Core.Path.{◌∙◌}
use Rattle.blocksystem.proofs.Pictured.{operation_pictured}
use Rattle.system.proofs.transaction.pictured.Goals as goal

pub returns : goal.returns
returns c =
    let a = c.args in
    c.set_node.ensures ∙ operation_pictured a.o a.t
