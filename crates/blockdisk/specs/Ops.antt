-- A call of the disk as documents 01 and 02 say it: refusals as rows, ascending, and the next disk.
use Rattle.std.specs.Prelude.{ℕ, Bool, ◌&&◌, cond, false, not, true, List, [], ◌∷◌, eqb, leb, Result, Ok, Err}
use Rattle.base.specs.Refusals.{Row, ◌when◌, answer}
use Rattle.blockdisk.specs.Form.{disk_form, node_allowed, table_allowed}
use Rattle.blockdisk.specs.Records.{read_node, read_table, with_node, with_table}
use Rattle.blockdisk.specs.declared.Brought.{Brought}
use Rattle.blockdisk.specs.declared.Brought.TheVariants.{Nothing, Something}
use Rattle.blockdisk.specs.declared.DiskState.{DiskState}
use Rattle.blockdisk.specs.declared.DiskCall.{DiskCall}
use Rattle.blockdisk.specs.declared.DiskOp.{DiskOp}
use Rattle.blockdisk.specs.declared.DiskOp.TheVariants.{NoDiskOp, ReqReadIndirectionTableOp, ReqReadNodeOp, ReqWriteIndirectionTableOp}
use Rattle.blockdisk.specs.declared.DiskOp.TheVariants.{ReqWriteNodeOp, RespReadIndirectionTableOp, RespReadNodeOp}
use Rattle.blockdisk.specs.declared.DiskOp.TheVariants.{RespWriteIndirectionTableOp, RespWriteNodeOp}
use Rattle.blockdisk.specs.declared.DiskOutcome.{DiskOutcome}
use Rattle.blockdisk.specs.declared.Queues.{Queues}
use Rattle.blockdisk.specs.declared.Records.{Records}
use Rattle.blockdisk.specs.declared.DiskRefusal.{DiskRefusal}
use Rattle.blockdisk.specs.declared.DiskRefusal.TheVariants as refusal
use Rattle.disklayout.specs.declared.Location.{Location}
use Rattle.queue.specs.Queue.{entry_of, has_of, insert_of, remove_of}
use Rattle.queue.specs.declared.Request.{Request}
use Rattle.queue.specs.declared.Requests.{Requests}
use Rattle.sectortype.specs.Form.{node_form, table_form}
use Rattle.sectortype.specs.Same.{same_node, same_table}
use Rattle.sectortype.specs.declared.Node.{Node}
use Rattle.sectortype.specs.declared.Table.{Table}

-- WHAT A REQUEST AND AN ANSWER DO TO THEIR QUEUE

abbrev pub request_of : ℕ → Location → Request
request_of id l = record { id = id; reference = 0; loc = l }

abbrev pub request_rows : Requests → ℕ → Bool → List Row
request_rows q id allowed =
    (15 when has_of q id) ∷
    (16 when not allowed) ∷
    (18 when leb 16 q.count) ∷
    []

abbrev pub answer_rows : Requests → ℕ → Bool → List Row
answer_rows q id wrong =
    (15 when not (has_of q id)) ∷
    (17 when (has_of q id && wrong)) ∷
    []

-- accepted: what is next; refused: what was
abbrev pub settled : {A : Type 0} → List Row → A → A → A
settled rows next old = cond (eqb (answer rows) 0) next old

-- document 01's numbers
abbrev pub refusal_number : DiskRefusal → ℕ
refusal_number refusal.Id = 15
refusal_number refusal.Place = 16
refusal_number refusal.Brought = 17
refusal_number refusal.Full = 18

-- the queue with the request, or the first row that refuses it
abbrev pub request_outcome : Requests → ℕ → Location → Bool → Result Requests DiskRefusal
request_outcome q id l allowed =
    cond (has_of q id) (Err refusal.Id)
    (cond (not allowed) (Err refusal.Place)
    (cond (leb 16 q.count) (Err refusal.Full)
    (Ok (insert_of q (request_of id l)))))

-- the queue without what is answered, or the first row that refuses the answer
abbrev pub answer_outcome : Requests → ℕ → Bool → Result Requests DiskRefusal
answer_outcome q id wrong = cond (not (has_of q id)) (Err refusal.Id) (cond wrong (Err refusal.Brought) (Ok (remove_of q id)))

-- WHAT A READ ANSWER BRINGS

abbrev pub something_in : Brought → Bool
something_in Something = true
something_in Nothing = false

-- 17: something other than what is stored at exactly the place asked for
unfoldable pub table_not_stored : ℕ → DiskState → ℕ → Brought → Table → Bool
table_not_stored d s id b t =
    something_in b &&
    not ((read_table d s.records (entry_of s.queues.tablereads id).loc).present && same_table
    (read_table d s.records (entry_of s.queues.tablereads id).loc).held t)

unfoldable pub node_not_stored : ℕ → DiskState → ℕ → Brought → Node → Bool
node_not_stored d s id b n =
    something_in b &&
    not ((read_node d s.records (entry_of s.queues.nodereads id).loc).present && same_node
    (read_node d s.records (entry_of s.queues.nodereads id).loc).held n)

-- THE ROWS OF EACH OPERATION

abbrev pub op_rows : ℕ → DiskState → DiskOp → Node → Table → List Row
op_rows d s (ReqReadIndirectionTableOp id l) n t = request_rows s.queues.tablereads id (table_allowed d l)
op_rows d s (ReqReadNodeOp id l) n t = request_rows s.queues.nodereads id (node_allowed d l)
op_rows d s (ReqWriteIndirectionTableOp id l) n t = request_rows s.queues.tablewrites id (table_allowed d l)
op_rows d s (ReqWriteNodeOp id l) n t = request_rows s.queues.nodewrites id (node_allowed d l)
op_rows d s (RespReadIndirectionTableOp id b) n t = answer_rows s.queues.tablereads id (table_not_stored d s id b t)
op_rows d s (RespReadNodeOp id b) n t = answer_rows s.queues.nodereads id (node_not_stored d s id b n)
op_rows d s (RespWriteIndirectionTableOp id) n t = answer_rows s.queues.tablewrites id false
op_rows d s (RespWriteNodeOp id) n t = answer_rows s.queues.nodewrites id false
op_rows d s NoDiskOp n t = []

-- THE NEXT DISK OF EACH OPERATION

-- there is no record update: a setter for each group of fields, and for each queue of its group

abbrev pub with_records : DiskState → Records → DiskState
with_records s r = record { rule = s.rule; records = r; queues = s.queues }

abbrev pub with_queues : DiskState → Queues → DiskState
with_queues s qs = record { rule = s.rule; records = s.records; queues = qs }

abbrev pub with_table_reads : Queues → Requests → Queues
with_table_reads qs q = record { tablereads = q; nodereads = qs.nodereads; tablewrites = qs.tablewrites; nodewrites = qs.nodewrites }

abbrev pub with_node_reads : Queues → Requests → Queues
with_node_reads qs q = record { tablereads = qs.tablereads; nodereads = q; tablewrites = qs.tablewrites; nodewrites = qs.nodewrites }

abbrev pub with_table_writes : Queues → Requests → Queues
with_table_writes qs q = record { tablereads = qs.tablereads; nodereads = qs.nodereads; tablewrites = q; nodewrites = qs.nodewrites }

abbrev pub with_node_writes : Queues → Requests → Queues
with_node_writes qs q = record { tablereads = qs.tablereads; nodereads = qs.nodereads; tablewrites = qs.tablewrites; nodewrites = q }

abbrev pub next_disk : ℕ → DiskState → DiskOp → Node → Table → DiskState
next_disk d s (ReqReadIndirectionTableOp id l) n t =
    with_queues s (with_table_reads s.queues (insert_of s.queues.tablereads (request_of id l)))
next_disk d s (ReqReadNodeOp id l) n t = with_queues s (with_node_reads s.queues (insert_of s.queues.nodereads (request_of id l)))
next_disk d s (ReqWriteIndirectionTableOp id l) n t =
    with_records (with_queues s (with_table_writes s.queues (insert_of s.queues.tablewrites (request_of id l))))
    (with_table d s.records l t)
next_disk d s (ReqWriteNodeOp id l) n t =
    with_records (with_queues s (with_node_writes s.queues (insert_of s.queues.nodewrites (request_of id l)))) (with_node d s.records l n)
next_disk d s (RespReadIndirectionTableOp id b) n t = with_queues s (with_table_reads s.queues (remove_of s.queues.tablereads id))
next_disk d s (RespReadNodeOp id b) n t = with_queues s (with_node_reads s.queues (remove_of s.queues.nodereads id))
next_disk d s (RespWriteIndirectionTableOp id) n t = with_queues s (with_table_writes s.queues (remove_of s.queues.tablewrites id))
next_disk d s (RespWriteNodeOp id) n t = with_queues s (with_node_writes s.queues (remove_of s.queues.nodewrites id))
next_disk d s NoDiskOp n t = s

-- THE CALL

abbrev pub outcome : List Row → DiskState → DiskState → DiskOutcome
outcome rows next old = record { answer = answer rows; disk = settled rows next old }

abbrev pub op_outcome : ℕ → DiskState → DiskOp → Node → Table → DiskOutcome
op_outcome d s op n t = outcome (op_rows d s op n t) (next_disk d s op n t) s

-- what an operation gives, as the outcome of its call: the next disk, or the number with the disk as it was
abbrev pub settled_outcome : Result DiskState DiskRefusal → DiskState → DiskOutcome
settled_outcome (Ok next) old = record { answer = 0; disk = next }
settled_outcome (Err e) old = record { answer = refusal_number e; disk = old }

-- of one that changes the disk in place: `next` is what the disk is after it
abbrev pub moved_outcome : {A : Type 0} → Result A DiskRefusal → DiskState → DiskState → DiskOutcome
moved_outcome (Ok a) next old = settled_outcome (Ok next) old
moved_outcome (Err e) next old = settled_outcome (Err e) old

abbrev pub disk_rows : ℕ → DiskState → DiskCall → List Row
disk_rows d s c = (1 when not (disk_form d s && node_form c.node && table_form c.table)) ∷ op_rows d s c.op c.node c.table

unfoldable pub disk_step : ℕ → DiskState → DiskCall → DiskOutcome
disk_step d s c = outcome (disk_rows d s c) (next_disk d s c.op c.node c.table) s
