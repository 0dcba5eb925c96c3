-- No operation: the disk as it is. Assumes nothing.
use mathlib.Core.Path.{ap, sym}
use Rattle.base.specs.Refusals.{answer}
use Rattle.blockdisk.specs.Ops.{op_outcome}
use Rattle.disk.proofs.Disk.transition.Goals as goal

pub returns-in-NoDiskOp : goal.returns-in-NoDiskOp
unfolding answer
returns-in-NoDiskOp c =
    let d = c.args.self.now in
    let q = c.args.call.now in sym (ap (λ o. op_outcome d.device d.state o q.node q.table) c.in-NoDiskOp.is)
