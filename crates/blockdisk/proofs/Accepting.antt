-- What it is for the disk to accept a call: the rows of an operation, said as facts. Assumes nothing.
use Prim.Native.Nat.{◌<◌, ℕ}
use mathlib.Core.Bool.{Bool, ◌&&◌, false, not, true}
use mathlib.Core.List.{◌∷◌}
use mathlib.Core.Logic.{◌↔◌}
use mathlib.Core.Path.{◌≡◌, refl}
use Rattle.base.proofs.Refusals.{Clear, accepted_iff}
use Rattle.base.proofs.Tests.{and_false_iff, and_iff, leb_false_iff, not_iff}
use Rattle.base.specs.Refusals.{◌when◌, answer, ascending}
use Rattle.blockdisk.proofs.Forms.{DiskForm, disk_form_iff}
use Rattle.blockdisk.specs.Form.{disk_form}
use Rattle.blockdisk.specs.Ops.{answer_rows, disk_rows, op_rows, request_rows}
use Rattle.blockdisk.specs.declared.DiskState.{DiskState}
use Rattle.blockdisk.specs.declared.DiskCall.{DiskCall}
use Rattle.blockdisk.specs.declared.DiskOp.{DiskOp}
use Rattle.blockdisk.specs.declared.DiskOp.TheVariants.{NoDiskOp, ReqReadIndirectionTableOp, ReqReadNodeOp, ReqWriteIndirectionTableOp}
use Rattle.blockdisk.specs.declared.DiskOp.TheVariants.{ReqWriteNodeOp, RespReadIndirectionTableOp, RespReadNodeOp}
use Rattle.blockdisk.specs.declared.DiskOp.TheVariants.{RespWriteIndirectionTableOp, RespWriteNodeOp}
use Rattle.queue.specs.Queue.{has_of}
use Rattle.queue.specs.declared.Requests.{Requests}
use Rattle.sectortype.specs.Form.{node_form, table_form}
use Rattle.sectortype.specs.declared.Node.{Node}
use Rattle.sectortype.specs.declared.Table.{Table}

pub record RequestOk (q : Requests) (id : ℕ) (allowed : Bool) : Type 0 where
  pub fresh : has_of q id ≡ false
  pub ok : allowed ≡ true
  pub room : q.count < 16

pub record AnswerOk (q : Requests) (id : ℕ) (wrong : Bool) : Type 0 where
  pub there : has_of q id ≡ true
  pub right : wrong ≡ false

pub request_iff : (q : Requests) (id : ℕ) (allowed : Bool) → Clear (request_rows q id allowed) ↔ RequestOk q id allowed
request_iff q id allowed = (
  (λ c. let h = simp (not_iff, leb_false_iff) at c in record { fresh = h.0; ok = h.1.0; room = h.1.1.0 }),
  (λ r. simp (not_iff, leb_false_iff) (r.fresh, (r.ok, (r.room, tt)))),
)

pub answer_ok_iff : (q : Requests) (id : ℕ) (wrong : Bool) → Clear (answer_rows q id wrong) ↔ AnswerOk q id wrong
answer_ok_iff q id wrong = (
  (λ c. let h = simp (not_iff, and_false_iff) at c in record { there = h.0; right = h.1.0 h.0 }),
  (λ a. simp (not_iff, and_false_iff) (a.there, ((λ e. a.right), tt))),
)

-- the numbers ascend
pub op_ascending : (d : ℕ) (s : DiskState) (op : DiskOp) (n : Node) (t : Table) (b : Bool) →
    ascending ((1 when b) ∷ op_rows d s op n t) ≡ true
op_ascending d s (ReqReadIndirectionTableOp id l) n t b = refl
op_ascending d s (ReqReadNodeOp id l) n t b = refl
op_ascending d s (ReqWriteIndirectionTableOp id l) n t b = refl
op_ascending d s (ReqWriteNodeOp id l) n t b = refl
op_ascending d s (RespReadIndirectionTableOp id x) n t b = refl
op_ascending d s (RespReadNodeOp id x) n t b = refl
op_ascending d s (RespWriteIndirectionTableOp id) n t b = refl
op_ascending d s (RespWriteNodeOp id) n t b = refl
op_ascending d s NoDiskOp n t b = refl

pub disk_ascending : (d : ℕ) (s : DiskState) (c : DiskCall) → ascending (disk_rows d s c) ≡ true
disk_ascending d s c = op_ascending d s c.op c.node c.table (not (disk_form d s && node_form c.node && table_form c.table))

pub record Accepted (d : ℕ) (s : DiskState) (c : DiskCall) : Type 0 where
  pub disk : DiskForm d s
  pub node : node_form c.node ≡ true
  pub table : table_form c.table ≡ true
  pub rows : Clear (op_rows d s c.op c.node c.table)

pub disk_accepted_iff : (d : ℕ) (s : DiskState) (c : DiskCall) → (answer (disk_rows d s c) ≡ 0) ↔ Accepted d s c
disk_accepted_iff d s c = (
  (λ e. let h = (accepted_iff (disk_rows d s c) (disk_ascending d s c)).0 e in
      let f = simp (not_iff, disk_form_iff, and_iff) at h.0 in
      record { disk = f.0.0; node = f.0.1; table = f.1; rows = h.1 }),
  (λ a. (accepted_iff (disk_rows d s c) (disk_ascending d s c)).1
      (simp (not_iff, disk_form_iff, and_iff) ((a.disk, a.node), a.table), a.rows)),
)
