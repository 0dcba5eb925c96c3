-- The first clear bit of the low word, or that of the high word past it. Assumes nothing.
use native.Mathlib.Omega.{arith}
use mathlib.Core.Path.{◌∙◌}
use Rattle.std.proofs.Common.{rules, of_calls}
use Rattle.base.specs.Scan.{first_from}
use Rattle.bitmap.proofs.MarksRead.{clear_at, in_high, low_found, low_missed, or_then}
use Rattle.bitmap.proofs.nextfit.first_free.Goals as goal

pub returns-then-from-ge64 : goal.returns-then-from-ge64
returns-then-from-ge64 c = c.first_high.ensures ∙ in_high c.args.m c.args.from c.if-from-ge64.true c.requires

pub returns : goal.returns
returns c =
    or_then 64 (first_from (clear_at c.args.m.low) c.args.from 64) c.first_clear.ensures
    (λ k e. rw e at c.or_else.ensures)
    (λ e. let h = rw e at c.or_else.ensures in search (rules, of_calls, h))
    (low_found c.args.m c.args.from)
    (low_missed c.args.m c.args.from (omega arith))
