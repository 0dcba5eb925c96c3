-- An operation more by what `pictured` ensures; after the last, all of the list. Assumes nothing.
use mathlib.Core.Path.{◌∙◌, ◌≡◌, ap}
use lib.ListN.{length, take}
use lib.Seq.{take_all}
use Rattle.blocksystem.proofs.Pictured.{pictures_next, pictures_none}
use Rattle.blocksystem.specs.Operations.{operations_pictures}
use Rattle.system.proofs.transaction.pictures_after_operations.Goals as goal

pub loop-o-init : goal.loop-o-init
loop-o-init c = pictures_none c.args.list.now c.args.t

pub loop-o-preserved : goal.loop-o-preserved
loop-o-preserved c =
    rw c.loop-o.invariant at c.pictured-after.ensures ∙ pictures_next c.args.list.now c.loop-o.o-index _ c.args.t c.loop-o-test.true

pub returns : goal.returns
returns c =
    c.loop-o.invariant ∙ ap (λ os. operations_pictures os c.args.t) (take_all c.loop-o.o-index c.args.list.now c.loop-o-test.false)
