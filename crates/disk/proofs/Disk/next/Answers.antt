-- Not in its written form: 1. Else what the operation's own transition ensures. The test of the form is the definition's, by what the
-- callees ensure of the two parts of the disk, the node and the table. Assumes nothing.
use Prim.Native.Nat.{ℕ}
use mathlib.Core.Bool.{◌&&◌, true}
use mathlib.Core.Path.{◌∙◌, ◌≡◌, ap, sym}
use Rattle.base.specs.Refusals.{answer}
use Rattle.blockdisk.specs.Form.{disk_form}
use Rattle.blockdisk.specs.Ops.{disk_step, moved_outcome, op_outcome}
use Rattle.blockdisk.specs.declared.DiskCall.{DiskCall}
use Rattle.blockdisk.specs.declared.DiskState.{DiskState}
use Rattle.sectortype.specs.Form.{node_form, table_form}
use Rattle.disk.proofs.Disk.next.Goals as goal

-- past the test, the operation alone decides
formed : (d : ℕ) (s : DiskState) (q : DiskCall) → (disk_form d s && node_form q.node && table_form q.table) ≡ true →
    disk_step d s q ≡ op_outcome d s q.op q.node q.table
unfolding disk_step answer
formed d s q e = rw e

pub returns-then-not-good : goal.returns-then-not-good
unfolding disk_form disk_step answer
returns-then-not-good c =
    simp
    (rw (
      c.table_form-table_ok.ensures,
      c.node_form-node_ok.ensures,
      c.disk_ok-form.ensures,
      c.queues_ok-waiting.ensures,
      c.records_ok-stored.ensures,
    )
    at c.if-not-good.true)

pub returns-in-Err : goal.returns-in-Err
unfolding disk_form
returns-in-Err c =
    let e = rw (
      c.table_form-table_ok.ensures,
      c.node_form-node_ok.ensures,
      c.disk_ok-form.ensures,
      c.queues_ok-waiting.ensures,
      c.records_ok-stored.ensures,
    )
    at c.if-not-good.false in
    let s = c.args.self.state in
    let m = sym (ap (λ r. moved_outcome r c.transition.new.self.state s) c.in-Err.is) ∙ c.transition.ensures in
    rw c.number.ensures (m ∙ sym (formed c.args.self.device s c.args.call e))

pub returns : goal.returns
unfolding disk_form
returns c =
    let e = rw (
      c.table_form-table_ok.ensures,
      c.node_form-node_ok.ensures,
      c.disk_ok-form.ensures,
      c.queues_ok-waiting.ensures,
      c.records_ok-stored.ensures,
    )
    at c.if-not-good.false in
    let s = c.args.self.state in
    let m = sym (ap (λ r. moved_outcome r c.transition.new.self.state s) c.in_default.is) ∙ c.transition.ensures in
    m ∙ sym (formed c.args.self.device s c.args.call e)
