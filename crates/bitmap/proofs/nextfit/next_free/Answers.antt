-- The first free block after the last one, or the first of all where there is none. Assumes nothing.
use Prim.Native.Nat.{◌+◌}
use Rattle.std.proofs.Common.{rules, of_calls}
use Rattle.base.specs.Scan.{first_from}
use Rattle.bitmap.proofs.MarksRead.{next_after, next_round, none_there, or_then}
use Rattle.bitmap.specs.Bitmap.{is_free_in}
use Rattle.bitmap.proofs.nextfit.next_free.Goals as goal

pub returns-then-last-gt127 : goal.returns-then-last-gt127
returns-then-last-gt127 c = none_there _ _ c.if-last-gt127.true

pub returns : goal.returns
returns c =
    or_then 128 (first_from (is_free_in c.args.m) (c.args.last + 1) 128) c.first_free.ensures
    (λ k e. rw e at c.or_else.ensures)
    (λ e. let h = rw e at c.or_else.ensures in search (rules, of_calls, h))
    (next_after c.args.m c.args.last c.if-last-gt127.false)
    (next_round c.args.m c.args.last c.if-last-gt127.false)
