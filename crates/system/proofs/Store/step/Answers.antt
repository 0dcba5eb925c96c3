-- Refused: both as they were. Accepted: what cache and disk hand back. In both, what the disk and the graph were asked is read off the
-- arms, and the lowest of the three answers is the definition's. Assumes nothing.
use mathlib.Core.Path.{◌≡◌, ◌∙◌}
use borrow.Author.Tests.{eq-eqb, ne_eqb}
use Rattle.base.specs.Refusals.{answer}
use Rattle.blocksystem.specs.Joined.{disk_asked, joined, joined_answer, start_rows}
use Rattle.system.proofs.Store.step.Goals as goal
use Rattle.system.proofs.Store.step.Goals.{then-number-eq-CRASH, else-number-eq-CRASH, then-number-eq-START, else-number-eq-START}

pub returns-then-answer-ne0 : goal.returns-then-answer-ne0
unfolding answer disk_asked joined joined_answer
returns-then-answer-ne0 c =
    let a = c.args in
    let b : c.if-number-eq-CRASH.b ≡ disk_asked a.self.device a.number a.q a.offered a.self.disk =
    elim c.if-number-eq-CRASH.branch [
      | then-number-eq-CRASH w ↦ w.b-is ∙ simp (eq-eqb _ _ w.if-number-eq-CRASH.true) (rw c.on_disk-d.ensures at w.crash-b.ensures)
      | else-number-eq-CRASH w ↦ w.b-is ∙ simp (ne_eqb _ _ w.if-number-eq-CRASH.false) (rw (c.on_disk-d.ensures, w.disk_call.ensures) at w.next-b.ensures)
    ] in
    let n : c.if-number-eq-START.n20 ≡ answer (start_rows a.self.device a.number a.q a.self.disk) =
    elim c.if-number-eq-START.branch [
      | then-number-eq-START w ↦ w.n20-is ∙ simp w.if-number-eq-START.true (rw c.on_disk-d.ensures at w.ask_start-n20.ensures)
      | else-number-eq-START w ↦ w.n20-is ∙ simp (ne_eqb _ _ w.if-number-eq-START.false)
    ] in
    let s = rw c.in_cache-c.ensures at c.step-a.ensures in
    let e = simp (c.lower-answer.ensures, c.lower.ensures, n, b, s) at c.if-answer-ne0.true in
    simp (c.zero_node.ensures, c.on_disk-d.ensures, c.in_cache-c.ensures, c.lower-answer.ensures, c.lower.ensures, n, b, s, ne_eqb _ _ e)

pub returns : goal.returns
unfolding answer disk_asked joined joined_answer
returns c =
    let a = c.args in
    let b : c.if-number-eq-CRASH.b ≡ disk_asked a.self.device a.number a.q a.offered a.self.disk =
    elim c.if-number-eq-CRASH.branch [
      | then-number-eq-CRASH w ↦ w.b-is ∙ simp (eq-eqb _ _ w.if-number-eq-CRASH.true) (rw c.on_disk-d.ensures at w.crash-b.ensures)
      | else-number-eq-CRASH w ↦ w.b-is ∙ simp (ne_eqb _ _ w.if-number-eq-CRASH.false) (rw (c.on_disk-d.ensures, w.disk_call.ensures) at w.next-b.ensures)
    ] in
    let n : c.if-number-eq-START.n20 ≡ answer (start_rows a.self.device a.number a.q a.self.disk) =
    elim c.if-number-eq-START.branch [
      | then-number-eq-START w ↦ w.n20-is ∙ simp w.if-number-eq-START.true (rw c.on_disk-d.ensures at w.ask_start-n20.ensures)
      | else-number-eq-START w ↦ w.n20-is ∙ simp (ne_eqb _ _ w.if-number-eq-START.false)
    ] in
    let s = rw c.in_cache-c.ensures at c.step-a.ensures in
    let e = simp (c.lower-answer.ensures, c.lower.ensures, n, b, s) at c.if-answer-ne0.false in
    simp (e, b, s)
