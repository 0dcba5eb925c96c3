-- An accepted call keeps the disk's written form, and changes of the four queues and the two maps just what its operation names. Assumes nothing.
use Prim.Native.Nat.{◌<◌, ℕ}
use mathlib.Core.Bool.{Bool, false, true}
use mathlib.Core.List.{List}
use mathlib.Core.Path.{◌∙◌, ◌≡◌, refl}
use borrow.Author.Tests.{eqb-true}
use lib.Dec.{eqb}
use lib.ListN.{get_or, length, length-set, set}
use Rattle.base.proofs.Refusals.{Clear}
use Rattle.base.proofs.Tests.{and_right, split}
use Rattle.base.specs.Refusals.{answer}
use Rattle.blockdisk.proofs.Accepting.{RequestOk, answer_ok_iff, disk_accepted_iff, request_iff}
use Rattle.blockdisk.proofs.Forms.{DiskForm, disk_form_iff, node_form_there, node_placed_iff, records_form_iff, records_placed_iff}
use Rattle.blockdisk.proofs.Forms.{table_form_there, table_placed_iff}
use Rattle.blockdisk.proofs.Outstanding.{queue_insert, queue_remove}
use Rattle.blockdisk.proofs.Reading.{node_block, table_area, with_node_is, with_table_is}
use Rattle.blockdisk.specs.Form.{disk_form, node_allowed, node_queue_form, node_record_checked, node_request_ok, records_checked}
use Rattle.blockdisk.specs.Form.{table_allowed, table_queue_form, table_record_checked, table_request_ok}
use Rattle.blockdisk.specs.Ops.{disk_rows, next_disk, op_rows, request_of, node_not_stored, table_not_stored}
use Rattle.blockdisk.specs.Records.{default_node_record, default_table_record, with_node, with_table}
use Rattle.blockdisk.specs.declared.DiskState.{DiskState}
use Rattle.blockdisk.specs.declared.DiskCall.{DiskCall}
use Rattle.blockdisk.specs.declared.DiskOp.{DiskOp}
use Rattle.blockdisk.specs.declared.DiskOp.TheVariants.{NoDiskOp, ReqReadIndirectionTableOp, ReqReadNodeOp, ReqWriteIndirectionTableOp}
use Rattle.blockdisk.specs.declared.DiskOp.TheVariants.{ReqWriteNodeOp, RespReadIndirectionTableOp, RespReadNodeOp}
use Rattle.blockdisk.specs.declared.DiskOp.TheVariants.{RespWriteIndirectionTableOp, RespWriteNodeOp}
use Rattle.blockdisk.specs.declared.Record.{Record}
use Rattle.blockdisk.specs.declared.Records.{Records}
use Rattle.disklayout.proofs.Devices.{device_good}
use Rattle.disklayout.proofs.NodeBlocks.{node_place_in_of}
use Rattle.disklayout.proofs.TableAreas.{table_place_in_of}
use Rattle.disklayout.specs.Blocks.{node_place}
use Rattle.disklayout.specs.Device.{device_of, made}
use Rattle.disklayout.specs.Layout.{valid_indirection_table_location}
use Rattle.disklayout.specs.declared.Location.{Location}
use Rattle.queue.specs.Queue.{has_of, insert_of, remove_of}
use Rattle.queue.specs.declared.Requests.{Requests}
use Rattle.sectortype.proofs.Rows.{set_at_place}
use Rattle.sectortype.specs.Form.{node_form, table_form}
use Rattle.sectortype.specs.declared.Node.{Node}
use Rattle.sectortype.specs.declared.Table.{Table}

-- THE RECORDS

-- a test that the record at each place passes, one place set
set_each : {R : Type 0} (g : ℕ → R → Bool) (z : R) (l : List R) (n k : ℕ) (v : R) → k < length l → g k v ≡ true →
    ((j : ℕ) → j < n → g j (get_or l j z) ≡ true) → (j : ℕ) → j < n → g j (get_or (set l k v) j z) ≡ true
set_each g z l n k v b e h j c =
    rw (set_at_place l k v z j b) (split (eqb j k) (λ t. let q : j ≡ k = eqb-true j k t in rw t (rw q e)) (λ t. rw t (h j c)))

module _ (d : ℕ) (r : Records) (on : made d ≡ true) (form : (records_checked d r).form ≡ true)
    (placed : (records_checked d r).placed ≡ true) (l : Location) where
  module _ (x : Node) (allowed : node_place (device_of d) l ≡ true) where
    abbrev new_node_lem : Record Node
    new_node_lem = record { present = true; loc = l; held = x }

    abbrev node_after : ℕ → Records
    node_after k = record { tables = r.tables; nodes = set r.nodes k new_node_lem }

    pub with_node_form : node_form x ≡ true → (records_checked d (with_node d r l x)).form ≡ true
    with_node_form f =
        let (k, at, fits) = node_block d r form l allowed in
        let h = (records_form_iff d r).0 form in
        rw (with_node_is d r l x k on at)
        ((records_form_iff d (node_after k)).1
        (record {
          nodes_long = length-set r.nodes k new_node_lem ∙ h.nodes_long;
          tables_long = h.tables_long;
          nodes_form_lem = set_each (λ j y. (node_record_checked d j y).form) default_node_record r.nodes 128 k new_node_lem fits
              (node_form_there d k new_node_lem refl f) h.nodes_form_lem;
          tables_form_lem = h.tables_form_lem;
        }))

    pub with_node_placed : (records_checked d (with_node d r l x)).placed ≡ true
    with_node_placed =
        let (k, at, fits) = node_block d r form l allowed in
        let h = (records_placed_iff d r).0 placed in
        let p = (node_place_in_of (device_of d) (device_good d) k l allowed).1 at in
        let in_place = (node_placed_iff d k new_node_lem).1 (λ e. (on, p)) in
        rw (with_node_is d r l x k on at)
        ((records_placed_iff d (node_after k)).1
        (record {
          nodes_placed = set_each (λ j y.
              (node_record_checked d j y).placed) default_node_record r.nodes 128 k new_node_lem fits in_place h.nodes_placed;
          tables_placed = h.tables_placed;
        }))

  module _ (x : Table) (allowed : valid_indirection_table_location (device_of d) l ≡ true) where
    abbrev new_table_lem : Record Table
    new_table_lem = record { present = true; loc = l; held = x }

    abbrev table_after : ℕ → Records
    table_after k = record { tables = set r.tables k new_table_lem; nodes = r.nodes }

    pub with_table_form : table_form x ≡ true → (records_checked d (with_table d r l x)).form ≡ true
    with_table_form f =
        let (k, at, fits) = table_area d r form l allowed in
        let h = (records_form_iff d r).0 form in
        rw (with_table_is d r l x k on at)
        ((records_form_iff d (table_after k)).1
        (record {
          tables_long = length-set r.tables k new_table_lem ∙ h.tables_long;
          nodes_long = h.nodes_long;
          tables_form_lem = set_each (λ j y. (table_record_checked d j y).form) default_table_record r.tables 2 k new_table_lem fits
              (table_form_there d k new_table_lem refl f) h.tables_form_lem;
          nodes_form_lem = h.nodes_form_lem;
        }))

    pub with_table_placed : (records_checked d (with_table d r l x)).placed ≡ true
    with_table_placed =
        let (k, at, fits) = table_area d r form l allowed in
        let h = (records_placed_iff d r).0 placed in
        let p = (table_place_in_of (device_of d) k l allowed).1 at in
        let in_place = (table_placed_iff d k new_table_lem).1 (λ e. (on, p)) in
        rw (with_table_is d r l x k on at)
        ((records_placed_iff d (table_after k)).1
        (record {
          tables_placed = set_each (λ j y.
              (table_record_checked d j y).placed) default_table_record r.tables 2 k new_table_lem fits in_place h.tables_placed;
          nodes_placed = h.nodes_placed;
        }))

-- THE QUEUES

module _ (d : ℕ) (q : Requests) (id : ℕ) where
  pub table_request_form : (l : Location) → table_queue_form d q ≡ true → RequestOk q id (table_allowed d l) →
      table_queue_form d (insert_of q (request_of id l)) ≡ true
  unfolding table_queue_form
  table_request_form l f r = queue_insert (table_request_ok d) q (request_of id l) f r.room r.fresh r.ok

  pub node_request_form : (l : Location) → node_queue_form d q ≡ true → RequestOk q id (node_allowed d l) →
      node_queue_form d (insert_of q (request_of id l)) ≡ true
  unfolding node_queue_form
  node_request_form l f r = queue_insert (node_request_ok d) q (request_of id l) f r.room r.fresh r.ok

  pub table_answer_form : table_queue_form d q ≡ true → has_of q id ≡ true → table_queue_form d (remove_of q id) ≡ true
  unfolding table_queue_form
  table_answer_form f there = queue_remove (table_request_ok d) q id f there

  pub node_answer_form : node_queue_form d q ≡ true → has_of q id ≡ true → node_queue_form d (remove_of q id) ≡ true
  unfolding node_queue_form
  node_answer_form f there = queue_remove (node_request_ok d) q id f there

-- THE DISK

module _ (d : ℕ) (s : DiskState) (f : DiskForm d s) where
  pub op_form_kept : (op : DiskOp) (n : Node) (t : Table) → node_form n ≡ true → table_form t ≡ true → Clear (op_rows d s op n t) →
      DiskForm d (next_disk d s op n t)
  op_form_kept (ReqReadIndirectionTableOp id l) n t a b c =
      let q = table_request_form d s.queues.tablereads id l f.tablereads ((request_iff s.queues.tablereads id (table_allowed d l)).0 c) in
      search
  op_form_kept (ReqReadNodeOp id l) n t a b c =
      let q = node_request_form d s.queues.nodereads id l f.nodereads ((request_iff s.queues.nodereads id (node_allowed d l)).0 c) in search
  op_form_kept (ReqWriteIndirectionTableOp id l) n t a b c =
      let r = (request_iff s.queues.tablewrites id (table_allowed d l)).0 c in
      let q = table_request_form d s.queues.tablewrites id l f.tablewrites r in
      let p = and_right (made d) (valid_indirection_table_location (device_of d) l) r.ok in
      let x = with_table_form d s.records f.on f.form f.placed l t p b in
      let y = with_table_placed d s.records f.on f.form f.placed l t p in
      search
  op_form_kept (ReqWriteNodeOp id l) n t a b c =
      let r = (request_iff s.queues.nodewrites id (node_allowed d l)).0 c in
      let q = node_request_form d s.queues.nodewrites id l f.nodewrites r in
      let p = and_right (made d) (node_place (device_of d) l) r.ok in
      let x = with_node_form d s.records f.on f.form f.placed l n p a in
      let y = with_node_placed d s.records f.on f.form f.placed l n p in
      search
  op_form_kept (RespReadIndirectionTableOp id x) n t a b c =
      let q = table_answer_form d s.queues.tablereads id f.tablereads
      ((answer_ok_iff s.queues.tablereads id (table_not_stored d s id x t)).0 c).there in search
  op_form_kept (RespReadNodeOp id x) n t a b c =
      let q = node_answer_form d s.queues.nodereads id f.nodereads
      ((answer_ok_iff s.queues.nodereads id (node_not_stored d s id x n)).0 c).there in search
  op_form_kept (RespWriteIndirectionTableOp id) n t a b c =
      let q = table_answer_form d s.queues.tablewrites id f.tablewrites ((answer_ok_iff s.queues.tablewrites id false).0 c).there in search
  op_form_kept (RespWriteNodeOp id) n t a b c =
      let q = node_answer_form d s.queues.nodewrites id f.nodewrites ((answer_ok_iff s.queues.nodewrites id false).0 c).there in search
  op_form_kept NoDiskOp n t a b c = f

pub disk_form_kept : (d : ℕ) (s : DiskState) (c : DiskCall) → answer (disk_rows d s c) ≡ 0 →
    disk_form d (next_disk d s c.op c.node c.table) ≡ true
disk_form_kept d s c e =
    let a = (disk_accepted_iff d s c).0 e in
    (disk_form_iff d (next_disk d s c.op c.node c.table)).1 (op_form_kept d s a.disk c.op c.node c.table a.node a.table a.rows)
