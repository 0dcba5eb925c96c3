-- The freeze rule is 1 or 2: a disk that carries another is refused with 1 by any call and any crash; and these keep it, accepted or refused. Assumes nothing.
use Prim.Native.Nat.{ℕ}
use mathlib.Core.Bool.{and-false, Bool, cond, false, true}
use mathlib.Core.Logic.{◌↔◌, ◌⊎◌, ⊎_elim, inl, inr}
use mathlib.Core.Path.{◌≡◌, refl}
use borrow.Author.Tests.{eqb-true}
use lib.Dec.{eqb}
use Rattle.base.proofs.Tests.{or_cases}
use Rattle.base.specs.Refusals.{answer}
use Rattle.blockdisk.specs.Crash.{crashed, crash_rows, disk_crash}
use Rattle.blockdisk.specs.Form.{disk_form, is_rule}
use Rattle.blockdisk.specs.Ops.{disk_rows, disk_step, next_disk}
use Rattle.blockdisk.specs.declared.DiskCall.{DiskCall}
use Rattle.blockdisk.specs.declared.DiskOp.{DiskOp}
use Rattle.blockdisk.specs.declared.DiskOp.TheVariants.{NoDiskOp, ReqReadIndirectionTableOp, ReqReadNodeOp, ReqWriteIndirectionTableOp}
use Rattle.blockdisk.specs.declared.DiskOp.TheVariants.{ReqWriteNodeOp, RespReadIndirectionTableOp, RespReadNodeOp}
use Rattle.blockdisk.specs.declared.DiskOp.TheVariants.{RespWriteIndirectionTableOp, RespWriteNodeOp}
use Rattle.blockdisk.specs.declared.DiskState.{DiskState}
use Rattle.blockdisk.specs.declared.Records.{Records}
use Rattle.sectortype.specs.declared.Node.{Node}
use Rattle.sectortype.specs.declared.Table.{Table}

-- there are two rules
pub rule_iff : (r : ℕ) → (is_rule r ≡ true) ↔ ((r ≡ 1) ⊎ (r ≡ 2))
rule_iff r = (
  (λ e. ⊎_elim (λ x. inl (eqb-true r 1 x)) (λ x. inr (eqb-true r 2 x)) (or_cases (eqb r 1) (eqb r 2) e)),
  (λ h. ⊎_elim (λ e. rw e refl) (λ e. rw e refl) h),
)

-- ANOTHER IS REFUSED

module _ (d : ℕ) (s : DiskState) (e : is_rule s.rule ≡ false) where
  unformed : disk_form d s ≡ false
  unfolding disk_form
  unformed = rw (e, and-false) refl

  pub no_rule_refused : (c : DiskCall) → disk_step d s c ≡ record { answer = 1; disk = s }
  unfolding disk_step answer
  no_rule_refused c = rw unformed refl

  pub no_rule_crash : (o : Records) → disk_crash d s o ≡ record { answer = 1; disk = s }
  unfolding disk_crash answer
  no_rule_crash o = rw unformed refl

-- IT IS KEPT

next_rule : (d : ℕ) (s : DiskState) (op : DiskOp) (n : Node) (t : Table) → (next_disk d s op n t).rule ≡ s.rule
next_rule d s (ReqReadIndirectionTableOp id l) n t = refl
next_rule d s (ReqReadNodeOp id l) n t = refl
next_rule d s (ReqWriteIndirectionTableOp id l) n t = refl
next_rule d s (ReqWriteNodeOp id l) n t = refl
next_rule d s (RespReadIndirectionTableOp id b) n t = refl
next_rule d s (RespReadNodeOp id b) n t = refl
next_rule d s (RespWriteIndirectionTableOp id) n t = refl
next_rule d s (RespWriteNodeOp id) n t = refl
next_rule d s NoDiskOp n t = refl

-- of two disks with the same rule, either has it
either : (b : Bool) (s t : DiskState) → s.rule ≡ t.rule → (cond b s t).rule ≡ t.rule
either true s t e = e
either false s t e = refl

pub step_keeps_rule : (d : ℕ) (s : DiskState) (c : DiskCall) → (disk_step d s c).disk.rule ≡ s.rule
unfolding disk_step
step_keeps_rule d s c = either (eqb (answer (disk_rows d s c)) 0) (next_disk d s c.op c.node c.table) s (next_rule d s c.op c.node c.table)

pub crash_keeps_rule : (d : ℕ) (s : DiskState) (o : Records) → (disk_crash d s o).disk.rule ≡ s.rule
unfolding disk_crash
crash_keeps_rule d s o = either (eqb (answer (crash_rows d s o)) 0) (crashed s o) s refl
