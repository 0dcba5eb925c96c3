-- The abstract disk after an accepted call: which of the four queues and which of the two maps an operation changes, and how. Assumes nothing.
use Prim.Native.Nat.{ℕ}
use mathlib.Core.Bool.{Bool, false, true}
use mathlib.Core.Path.{◌≡◌, ap, refl}
use Rattle.base.proofs.Refusals.{Clear}
use Rattle.base.proofs.Tests.{and_right}
use Rattle.base.specs.Maps.{del, put}
use Rattle.base.specs.Refusals.{answer}
use Rattle.blockdisk.proofs.Accepting.{AnswerOk, RequestOk, answer_ok_iff, disk_accepted_iff, request_iff}
use Rattle.blockdisk.proofs.Forms.{DiskForm, node_queue_form_lem, table_queue_form_lem}
use Rattle.blockdisk.proofs.Outstanding.{places_insert, places_remove}
use Rattle.blockdisk.proofs.Reading.{node_leaves_upstream, nodes_after, replacing, table_leaves_nodes, upstream_after}
use Rattle.blockdisk.specs.Form.{node_allowed, table_allowed}
use Rattle.blockdisk.specs.Ops.{disk_rows, next_disk, op_rows, request_of, node_not_stored, table_not_stored}
use Rattle.blockdisk.specs.Upstream.{Dop, Variables, disk_vars, dop_of, no_disk_op, op_of, places, req_read_indirection_table}
use Rattle.blockdisk.specs.Upstream.{req_read_node, req_write_indirection_table, req_write_node, resp_read_indirection_table}
use Rattle.blockdisk.specs.Upstream.{resp_read_node, resp_write_indirection_table, resp_write_node, set_nodes, set_read_nodes}
use Rattle.blockdisk.specs.Upstream.{set_read_tables, set_tables, set_write_nodes, set_write_tables}
use Rattle.blockdisk.specs.declared.DiskState.{DiskState}
use Rattle.blockdisk.specs.declared.DiskCall.{DiskCall}
use Rattle.blockdisk.specs.declared.DiskOp.{DiskOp}
use Rattle.blockdisk.specs.declared.DiskOp.TheVariants.{NoDiskOp, ReqReadIndirectionTableOp, ReqReadNodeOp, ReqWriteIndirectionTableOp}
use Rattle.blockdisk.specs.declared.DiskOp.TheVariants.{ReqWriteNodeOp, RespReadIndirectionTableOp, RespReadNodeOp}
use Rattle.blockdisk.specs.declared.DiskOp.TheVariants.{RespWriteIndirectionTableOp, RespWriteNodeOp}
use Rattle.disklayout.specs.Blocks.{node_place}
use Rattle.disklayout.specs.Device.{device_of, made}
use Rattle.disklayout.specs.Layout.{valid_indirection_table_location}
use Rattle.disklayout.specs.declared.Location.{Location}
use Rattle.queue.specs.Queue.{insert_of, remove_of, requests_form}
use Rattle.queue.specs.declared.Requests.{Requests}
use Rattle.sectortype.specs.declared.Node.{Node}
use Rattle.sectortype.specs.declared.Table.{Table}

-- what upstream leaves open is settled: a write replaces what its address had, and nothing else
abbrev pub next_vars : Variables → Dop → Variables
next_vars v (req_read_indirection_table id l) = set_read_tables v (put v.req_read_indirection_tables id l)
next_vars v (req_read_node id l) = set_read_nodes v (put v.req_read_nodes id l)
next_vars v (req_write_indirection_table id l t) =
    set_tables (set_write_tables v (put v.req_write_indirection_tables id l)) (replacing v.indirection_tables l t)
next_vars v (req_write_node id l n) = set_nodes (set_write_nodes v (put v.req_write_nodes id l)) (replacing v.nodes l n)
next_vars v (resp_read_indirection_table id t) = set_read_tables v (del v.req_read_indirection_tables id)
next_vars v (resp_read_node id n) = set_read_nodes v (del v.req_read_nodes id)
next_vars v (resp_write_indirection_table id) = set_write_tables v (del v.req_write_indirection_tables id)
next_vars v (resp_write_node id) = set_write_nodes v (del v.req_write_nodes id)
next_vars v no_disk_op = v

pub request_places : (q : Requests) (id : ℕ) (l : Location) {allowed : Bool} → requests_form q ≡ true → RequestOk q id allowed →
    places (insert_of q (request_of id l)) ≡ put (places q) id l
request_places q id l f r = places_insert q id f l r.room r.fresh

pub answer_places : (q : Requests) (id : ℕ) {wrong : Bool} → requests_form q ≡ true → AnswerOk q id wrong →
    places (remove_of q id) ≡ del (places q) id
answer_places q id f a = places_remove q id f a.there

module _ (d : ℕ) (s : DiskState) (f : DiskForm d s) where
  pub op_moves : (op : DiskOp) (n : Node) (t : Table) → Clear (op_rows d s op n t) →
      disk_vars d (next_disk d s op n t) ≡ next_vars (disk_vars d s) (op_of op n t)
  op_moves (ReqReadIndirectionTableOp id l) n t c =
      let q = s.queues.tablereads in
      ap (set_read_tables (disk_vars d s))
      (request_places q id l (table_queue_form_lem d q f.tablereads) ((request_iff q id (table_allowed d l)).0 c))
  op_moves (ReqReadNodeOp id l) n t c =
      let q = s.queues.nodereads in
      ap (set_read_nodes (disk_vars d s))
      (request_places q id l (node_queue_form_lem d q f.nodereads) ((request_iff q id (node_allowed d l)).0 c))
  op_moves (ReqWriteIndirectionTableOp id l) n t c =
      let q = s.queues.tablewrites in
      let r = (request_iff q id (table_allowed d l)).0 c in
      let p = request_places q id l (table_queue_form_lem d q f.tablewrites) r in
      let x = upstream_after d s.records f.on f.form l t (and_right (made d) (valid_indirection_table_location (device_of d) l) r.ok) in
      let y = table_leaves_nodes d s.records l t in
      λ i. set_nodes (set_tables (set_write_tables (disk_vars d s) (p i)) (x i)) (y i)
  op_moves (ReqWriteNodeOp id l) n t c =
      let q = s.queues.nodewrites in
      let r = (request_iff q id (node_allowed d l)).0 c in
      let p = request_places q id l (node_queue_form_lem d q f.nodewrites) r in
      let x = nodes_after d s.records f.on f.form l n (and_right (made d) (node_place (device_of d) l) r.ok) in
      let y = node_leaves_upstream d s.records l n in
      λ i. set_tables (set_nodes (set_write_nodes (disk_vars d s) (p i)) (x i)) (y i)
  op_moves (RespReadIndirectionTableOp id b) n t c =
      let q = s.queues.tablereads in
      ap (set_read_tables (disk_vars d s))
      (answer_places q id (table_queue_form_lem d q f.tablereads) ((answer_ok_iff q id (table_not_stored d s id b t)).0 c))
  op_moves (RespReadNodeOp id b) n t c =
      let q = s.queues.nodereads in
      ap (set_read_nodes (disk_vars d s))
      (answer_places q id (node_queue_form_lem d q f.nodereads) ((answer_ok_iff q id (node_not_stored d s id b n)).0 c))
  op_moves (RespWriteIndirectionTableOp id) n t c =
      let q = s.queues.tablewrites in
      ap (set_write_tables (disk_vars d s)) (answer_places q id (table_queue_form_lem d q f.tablewrites) ((answer_ok_iff q id false).0 c))
  op_moves (RespWriteNodeOp id) n t c =
      let q = s.queues.nodewrites in
      ap (set_write_nodes (disk_vars d s)) (answer_places q id (node_queue_form_lem d q f.nodewrites) ((answer_ok_iff q id false).0 c))
  op_moves NoDiskOp n t c = refl

pub disk_moves : (d : ℕ) (s : DiskState) (c : DiskCall) → answer (disk_rows d s c) ≡ 0 →
    disk_vars d (next_disk d s c.op c.node c.table) ≡ next_vars (disk_vars d s) (dop_of c)
disk_moves d s c e = let a = (disk_accepted_iff d s c).0 e in op_moves d s a.disk c.op c.node c.table a.rows
