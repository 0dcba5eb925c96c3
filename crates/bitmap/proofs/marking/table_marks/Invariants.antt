use mathlib.Core.Path.{◌≡◌}
use Rattle.sectortype.specs.Form.{entry_at}
use Rattle.sectortype.specs.Graph.{located_in}
use Rattle.bitmap.proofs.MarksMade.{scanned}
use Rattle.bitmap.proofs.marking.table_marks.Given as goal

abbrev pub invariant-loop-e : goal.invariant-loop-e
invariant-loop-e l = (l.marks ≡ scanned l.device (located_in l.fn.t) (λ r. (entry_at l.fn.t r).loc.addr) l.e-index)
