use mathlib.Core.Path.{◌≡◌}
use lib.Dec.{ltb}
use Rattle.queue.specs.Queue.{request_at}
use Rattle.bitmap.proofs.MarksMade.{scanned}
use Rattle.bitmap.proofs.marking.writes_marks.Given as goal

abbrev pub invariant-loop-i : goal.invariant-loop-i
invariant-loop-i l = (l.marks ≡ scanned l.device (λ k. ltb k l.fn.q.count) (λ k. (request_at l.fn.q k).loc.addr) l.i)
