-- The narrowings of the disk, document 01's, with document 02's rule in its written form: what is refused although upstream would allow it. They are said without the rows of a call, so that
-- rows which refuse more than these contradict demand 2.
use Rattle.std.specs.Prelude.{ℕ, Bool, ◌&&◌, ◌||◌, false, not, leb}
use Rattle.blockdisk.specs.Form.{disk_form, node_allowed, records_checked, table_allowed}
use Rattle.blockdisk.specs.declared.DiskCall.{DiskCall}
use Rattle.blockdisk.specs.declared.DiskOp.{DiskOp}
use Rattle.blockdisk.specs.declared.DiskOp.TheVariants.{NoDiskOp, ReqReadIndirectionTableOp, ReqReadNodeOp, ReqWriteIndirectionTableOp}
use Rattle.blockdisk.specs.declared.DiskOp.TheVariants.{ReqWriteNodeOp, RespReadIndirectionTableOp, RespReadNodeOp}
use Rattle.blockdisk.specs.declared.DiskOp.TheVariants.{RespWriteIndirectionTableOp, RespWriteNodeOp}
use Rattle.blockdisk.specs.declared.DiskState.{DiskState}
use Rattle.blockdisk.specs.declared.Records.{Records}
use Rattle.queue.specs.declared.Requests.{Requests}
use Rattle.sectortype.specs.Form.{node_form, table_form}

-- a request: its place is not allowed, or its queue holds 16
abbrev pub request_narrowed : Requests → Bool → Bool
request_narrowed q allowed = not allowed || leb 16 q.count

module _ (d : ℕ) (s : DiskState) where
  -- no answer has one, beside 1
  abbrev pub op_narrowed : DiskOp → Bool
  op_narrowed (ReqReadIndirectionTableOp id l) = request_narrowed s.queues.tablereads (table_allowed d l)
  op_narrowed (ReqReadNodeOp id l) = request_narrowed s.queues.nodereads (node_allowed d l)
  op_narrowed (ReqWriteIndirectionTableOp id l) = request_narrowed s.queues.tablewrites (table_allowed d l)
  op_narrowed (ReqWriteNodeOp id l) = request_narrowed s.queues.nodewrites (node_allowed d l)
  op_narrowed (RespReadIndirectionTableOp id b) = false
  op_narrowed (RespReadNodeOp id b) = false
  op_narrowed (RespWriteIndirectionTableOp id) = false
  op_narrowed (RespWriteNodeOp id) = false
  op_narrowed NoDiskOp = false

  -- 1: disk, node or table is not in its one written form; and those of the operation
  unfoldable pub disk_narrowed : DiskCall → Bool
  disk_narrowed c = not (disk_form d s && node_form c.node && table_form c.table) || op_narrowed c.op

  -- a crash: 1, and a record offered at a place that is not its own, which is a part of 19
  unfoldable pub crash_narrowed : Records → Bool
  crash_narrowed o = not (disk_form d s && (records_checked d o).form) || not (records_checked d o).placed
