-- A word turned over and shifted down: where it is 0 no digit is clear, and else trailing zeros find the first. Assumes nothing.
use native.Mathlib.Omega.{arith}
use lib.Count.{trailing_le}
use Rattle.bitmap.proofs.MarksRead.{clear_found, clear_none, no_clear, rest_of}
use Rattle.bitmap.proofs.nextfit.first_clear.Goals as goal

pub returns-then-from-ge64 : goal.returns-then-from-ge64
returns-then-from-ge64 c = clear_none c.args.word c.args.from c.if-from-ge64.true

pub returns-then-rest-eq0 : goal.returns-then-rest-eq0
returns-then-rest-eq0 c = no_clear _ _ c.ranges.word.fits c.requires c.if-rest-eq0.true

pub overflow_add-result : goal.overflow_add-result
overflow_add-result c = record { fits = omega (arith, trailing_le 64 (rest_of c.args.word c.args.from)) }

pub returns : goal.returns
returns c = rw c.from.ensures (clear_found _ _ c.ranges.word.fits c.requires c.if-rest-eq0.false)
