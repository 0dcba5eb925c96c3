-- A scan that marks each location's block. Assumes nothing.
use mathlib.Core.Path.{◌∙◌}
use Rattle.bitmap.proofs.MarksMade.{scan_end, scan_none, scan_skip, scan_turn, table_scanned}
use Rattle.bitmap.proofs.marking.table_marks.Goals as goal
use Rattle.bitmap.proofs.marking.table_marks.Goals.{then-e, else-e}

pub loop-e-init : goal.loop-e-init
loop-e-init c = scan_none _ _ _

pub loop-e-preserved : goal.loop-e-preserved
loop-e-preserved c =
    let l = c.loop-e in
    elim c.if-e.branch [
      | then-e w ↦ w.marks-is ∙ w.with_addr-marks.ensures ∙ scan_turn _ _ _ _ l.invariant w.if-e.true
      | else-e w ↦ w.marks-is ∙ scan_skip _ _ _ _ l.invariant w.if-e.false
    ]

pub returns : goal.returns
returns c = let l = c.loop-e in scan_end _ _ _ l.invariant l.auto.e-index-end c.loop-e-test.false ∙ table_scanned _ _
