use mathlib.Core.Path.{◌≡◌}
use lib.ListN.{take}
use Rattle.blocksystem.specs.Operations.{operations_pictures}
use Rattle.system.proofs.transaction.pictures_after_operations.Given as goal

abbrev pub invariant-loop-o : goal.invariant-loop-o
invariant-loop-o l = l.after ≡ operations_pictures (take l.o-index l.list) l.initial.after
