-- The parts' marks joined, by what the callees ensure. Assumes nothing.
use mathlib.Core.Path.{◌∙◌}
use Rattle.bitmap.proofs.MarksMade.{frozen_marks, unfrozen_marks}
use Rattle.bitmap.proofs.marking.marks_of.Goals as goal

pub returns-then-isfrozen : goal.returns-then-isfrozen
returns-then-isfrozen c =
    let s = c.args in
    c.union.ensures ∙ rw (
      c.table_marks-then-isfrozen.ensures,
      c.union-held.ensures,
      c.writes_marks-b.ensures,
      c.union-a.ensures,
      c.table_marks-2.ensures,
      c.table_marks.ensures,
    ) (frozen_marks s.device s.ts s.writes c.if-isfrozen.true)

pub returns : goal.returns
returns c =
    let s = c.args in
    c.union-held.ensures ∙ rw (c.writes_marks-b.ensures, c.union-a.ensures, c.table_marks-2.ensures, c.table_marks.ensures)
    (unfrozen_marks s.device s.ts s.writes c.if-isfrozen.false)
