-- By the tests on the way: the 1 that is shifted stays within the word. Assumes nothing.
use Prim.Native.Nat.{◌-◌}
use native.Mathlib.Omega.{arith}
use borrow.Author.Tests.{le-ltb, lt-ltb}
use Rattle.bitmap.specs.Bitmap.{with_mark}
use Rattle.bitmap.proofs.MarksMade.{shifted_one}
use Rattle.bitmap.proofs.marking.with_mark.Goals as goal

pub returns-then-k-lt64 : goal.returns-then-k-lt64
unfolding with_mark
returns-then-k-lt64 c = rw (lt-ltb _ _ c.if-k-lt64.true, shifted_one c.args.k c.if-k-lt64.true)

pub returns-then-k-lt128 : goal.returns-then-k-lt128
unfolding with_mark
returns-then-k-lt128 c =
    rw (le-ltb _ _ c.if-k-lt64.false, lt-ltb _ _ c.if-k-lt128.true, shifted_one (c.args.k - 64) (omega arith))

pub returns : goal.returns
unfolding with_mark
returns c = rw (le-ltb _ _ c.if-k-lt64.false, le-ltb _ _ c.if-k-lt128.false)
