-- The ones of the two words are the marked blocks. Assumes nothing.
use native.Mathlib.Omega.{arith}
use Rattle.bitmap.proofs.MarksRead.{free_ones}
use Rattle.bitmap.proofs.nextfit.free_count.Goals as goal

pub overflow_add-result : goal.overflow_add-result
overflow_add-result c = record { fits = omega (arith, free_ones c.args.m (omega arith) (omega arith)) }

pub overflow_sub-result : goal.overflow_sub-result
overflow_sub-result c = omega (arith, free_ones c.args.m (omega arith) (omega arith))

pub returns : goal.returns
returns c = omega (arith, free_ones c.args.m (omega arith) (omega arith))
