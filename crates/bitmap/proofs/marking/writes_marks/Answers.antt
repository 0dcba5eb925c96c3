-- A scan that marks each write's block. Assumes nothing.
use mathlib.Core.Path.{◌∙◌}
use borrow.Author.Tests.{le-ltb, lt-ltb}
use Rattle.bitmap.proofs.MarksMade.{scan_end, scan_none, scan_skip, scan_turn, writes_scanned}
use Rattle.bitmap.proofs.marking.writes_marks.Goals as goal
use Rattle.bitmap.proofs.marking.writes_marks.Goals.{then-i-n, else-i-n}

pub loop-i-init : goal.loop-i-init
loop-i-init c = scan_none _ _ _

pub loop-i-preserved : goal.loop-i-preserved
loop-i-preserved c =
    let l = c.loop-i in
    elim c.if-i-n.branch [
      | then-i-n w ↦ w.marks-is ∙ w.with_addr-marks.ensures ∙ scan_turn _ _ _ _ l.invariant (lt-ltb _ _ w.if-i-n.true)
      | else-i-n w ↦ w.marks-is ∙ scan_skip _ _ _ _ l.invariant (le-ltb _ _ w.if-i-n.false)
    ]

pub returns : goal.returns
returns c = let l = c.loop-i in scan_end _ _ _ l.invariant l.auto.i-end c.loop-i-test.false ∙ writes_scanned _ _
