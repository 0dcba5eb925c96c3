-- Demand 2 for the disk: a call is accepted exactly where upstream's predicate allows some next state and no narrowing refuses it,
-- and then its own next state is one that upstream allows. For any device, disk, call and offered records. Assumes nothing.
use Prim.Native.Nat.{ℕ}
use mathlib.Core.Bool.{Bool, false, false≢true, not, true}
use mathlib.Core.Logic.Iff
use mathlib.Core.Logic.{◌↔◌}
use mathlib.Core.Option.{some}
use mathlib.Core.Path.{◌∙◌, ◌≡◌, ap, refl, sym}
use lib.Dec.{leb}
use Rattle.base.proofs.Refusals.{Clear}
use Rattle.base.proofs.Tests.{and_false_iff, and_iff, and_right, not_iff, or_iff}
use Rattle.base.specs.Maps.{flagged, is_some}
use Rattle.base.specs.Refusals.{answer}
use Rattle.blockdisk.proofs.Accepting.{answer_ok_iff, disk_accepted_iff, request_iff}
use Rattle.blockdisk.proofs.Crashing.{crash_ok_iff, nodes_havoc_iff, records_kept_iff, tables_havoc_iff}
use Rattle.blockdisk.proofs.Forms.{DiskForm, disk_form_iff, node_queue_form_lem, table_queue_form_lem}
use Rattle.blockdisk.proofs.Moves.{op_moves, request_places}
use Rattle.blockdisk.proofs.Outstanding.{places_at, places_has, places_none}
use Rattle.blockdisk.proofs.Reading.{node_is_iff, node_leaves_upstream, node_update, table_is_iff, table_leaves_nodes, table_update}
use Rattle.blockdisk.proofs.Reading.{upstream_of, upstream_stored}
use Rattle.blockdisk.specs.Crash.{crash_rows, crashed, empty_queues}
use Rattle.blockdisk.specs.Form.{node_allowed, records_checked, table_allowed}
use Rattle.blockdisk.specs.Narrowings.{crash_narrowed, disk_narrowed, op_narrowed, request_narrowed}
use Rattle.blockdisk.specs.Ops.{answer_rows, disk_rows, next_disk, op_rows, request_rows, something_in, node_not_stored, table_not_stored}
use Rattle.blockdisk.specs.Records.{with_node, with_table}
use Rattle.blockdisk.specs.Upstream.{Crash, Imap, Init, Next, Variables, disk_vars, dop_of, nodes_stored, op_of, places, set_nodes}
use Rattle.blockdisk.specs.Upstream.{set_tables, set_write_nodes, set_write_tables, tables_stored, upstream_tables}
use Rattle.blockdisk.specs.declared.Brought.{Brought}
use Rattle.blockdisk.specs.declared.DiskState.{DiskState}
use Rattle.blockdisk.specs.declared.DiskCall.{DiskCall}
use Rattle.blockdisk.specs.declared.DiskOp.{DiskOp}
use Rattle.blockdisk.specs.declared.DiskOp.TheVariants.{NoDiskOp, ReqReadIndirectionTableOp, ReqReadNodeOp, ReqWriteIndirectionTableOp}
use Rattle.blockdisk.specs.declared.DiskOp.TheVariants.{ReqWriteNodeOp, RespReadIndirectionTableOp, RespReadNodeOp}
use Rattle.blockdisk.specs.declared.DiskOp.TheVariants.{RespWriteIndirectionTableOp, RespWriteNodeOp}
use Rattle.blockdisk.specs.declared.Records.{Records}
use Rattle.disklayout.specs.Blocks.{node_place}
use Rattle.disklayout.specs.Device.{device_of, made}
use Rattle.disklayout.specs.Layout.{valid_indirection_table_location}
use Rattle.disklayout.specs.declared.Location.{Location}
use Rattle.queue.specs.Queue.{entry_of, has_of}
use Rattle.queue.specs.declared.Requests.{Requests}
use Rattle.sectortype.specs.Abstract.{indirection_table}
use Rattle.sectortype.specs.Form.{node_form, table_form}
use Rattle.sectortype.specs.declared.Node.{Node}
use Rattle.sectortype.specs.declared.Table.{Table}

-- WHAT A READ ANSWER BRINGS

-- a thing that is brought is what a map has at the place asked for
brought_iff : {A : Type 0} (q : Requests) (id : ℕ) (m : Imap A) (b : Bool) (a : A) → has_of q id ≡ true →
    (b ≡ true → m (entry_of q id).loc ≡ some a) ↔
    ((loc : Location) → places q id ≡ some loc → is_some (flagged b a) ≡ true → flagged b a ≡ m loc)
brought_iff q id m true a there = (
  (λ h loc e y. let k : some loc ≡ some (entry_of q id).loc = sym e ∙ places_at q id there in
      let j : loc ≡ (entry_of q id).loc = cc in
      rw j (sym (h refl))),
  (λ h y. sym (h (entry_of q id).loc (places_at q id there) refl)),
)
brought_iff q id m false a there = ((λ h loc e y. absurd (false≢true y)), (λ h y. absurd (false≢true y)))

module _ (d : ℕ) (s : DiskState) (f : DiskForm d s) (id : ℕ) (b : Brought) where
  pub node_not_stored_iff : (n : Node) → node_form n ≡ true →
      (node_not_stored d s id b n ≡ false) ↔
      (something_in b ≡ true → nodes_stored d s.records (entry_of s.queues.nodereads id).loc ≡ some n)
  unfolding node_not_stored
  node_not_stored_iff n g =
      let l = (entry_of s.queues.nodereads id).loc in
      let is = node_is_iff d s.records f.on f.form l n g in
      simp (and_false_iff, not_iff, is) Iff.rfl

  pub table_not_stored_iff : (t : Table) → table_form t ≡ true →
      (table_not_stored d s id b t ≡ false) ↔
      (something_in b ≡ true → upstream_tables d s.records (entry_of s.queues.tablereads id).loc ≡ some (indirection_table t))
  unfolding table_not_stored
  table_not_stored_iff t g =
      let l = (entry_of s.queues.tablereads id).loc in
      let is = table_is_iff d s.records f.on f.form l t g in
      let up : (tables_stored d s.records l ≡ some t) ↔ (upstream_tables d s.records l ≡ some (indirection_table t)) =
      (upstream_of d s.records l t, upstream_stored d s.records f.on f.form l t g) in
      simp (and_false_iff, not_iff, is, up) Iff.rfl

-- AN ACCEPTED CALL IS ONE THAT UPSTREAM ALLOWS

module _ (d : ℕ) (s : DiskState) (f : DiskForm d s) (n : Node) (t : Table) (fn : node_form n ≡ true) (ft : table_form t ≡ true) where
  op_allowed : (op : DiskOp) → Clear (op_rows d s op n t) → Next (disk_vars d s) (disk_vars d (next_disk d s op n t)) (op_of op n t)
  op_allowed (ReqReadIndirectionTableOp id l) c =
      let q = s.queues.tablereads in
      record {
        fresh = places_has q id
            ∙ ((request_iff q id (table_allowed d l)).0 c).fresh;
        next = op_moves d s f (ReqReadIndirectionTableOp id l) n t c;
      }
  op_allowed (ReqReadNodeOp id l) c =
      let q = s.queues.nodereads in
      record {
        fresh = places_has q id
            ∙ ((request_iff q id (node_allowed d l)).0 c).fresh;
        next = op_moves d s f (ReqReadNodeOp id l) n t c;
      }
  op_allowed (ReqWriteIndirectionTableOp id l) c =
      let q = s.queues.tablewrites in
      let r = (request_iff q id (table_allowed d l)).0 c in
      let p = request_places q id l (table_queue_form_lem d q f.tablewrites) r in
      let x = upstream_tables d (with_table d s.records l t) in
      let y = table_leaves_nodes d s.records l t in
      record {
        fresh = places_has q id ∙ r.fresh;
        update = table_update d s.records f.on f.form l t
            (and_right (made d) (valid_indirection_table_location (device_of d) l) r.ok) f.placed;
        next = λ i. set_nodes (set_tables (set_write_tables (disk_vars d s) (p i)) x) (y i);
      }
  op_allowed (ReqWriteNodeOp id l) c =
      let q = s.queues.nodewrites in
      let r = (request_iff q id (node_allowed d l)).0 c in
      let p = request_places q id l (node_queue_form_lem d q f.nodewrites) r in
      let x = nodes_stored d (with_node d s.records l n) in
      let y = node_leaves_upstream d s.records l n in
      record {
        fresh = places_has q id ∙ r.fresh;
        update = node_update d s.records f.on f.form l n (and_right (made d) (node_place (device_of d) l) r.ok) f.placed;
        next = λ i. set_tables (set_nodes (set_write_nodes (disk_vars d s) (p i)) x) (y i);
      }
  op_allowed (RespReadIndirectionTableOp id b) c =
      let q = s.queues.tablereads in
      let a = (answer_ok_iff q id (table_not_stored d s id b t)).0 c in
      record {
        there = places_has q id ∙ a.there;
        brought = (brought_iff q id (upstream_tables d s.records) (something_in b) (indirection_table t) a.there).0
            ((table_not_stored_iff d s f id b t ft).0 a.right);
        next = op_moves d s f (RespReadIndirectionTableOp id b) n t c;
      }
  op_allowed (RespReadNodeOp id b) c =
      let q = s.queues.nodereads in
      let a = (answer_ok_iff q id (node_not_stored d s id b n)).0 c in
      record {
        there = places_has q id ∙ a.there;
        brought = (brought_iff q id (nodes_stored d s.records) (something_in b) n a.there).0
            ((node_not_stored_iff d s f id b n fn).0 a.right);
        next = op_moves d s f (RespReadNodeOp id b) n t c;
      }
  op_allowed (RespWriteIndirectionTableOp id) c =
      let q = s.queues.tablewrites in
      record {
        there = places_has q id
            ∙ ((answer_ok_iff q id false).0 c).there;
        next = op_moves d s f (RespWriteIndirectionTableOp id) n t c;
      }
  op_allowed (RespWriteNodeOp id) c =
      let q = s.queues.nodewrites in
      record { there = places_has q id ∙ ((answer_ok_iff q id false).0 c).there; next = op_moves d s f (RespWriteNodeOp id) n t c }
  op_allowed NoDiskOp c = record { next = refl }

pub disk_allowed : (d : ℕ) (s : DiskState) (c : DiskCall) → answer (disk_rows d s c) ≡ 0 →
    Next (disk_vars d s) (disk_vars d (next_disk d s c.op c.node c.table)) (dop_of c)
disk_allowed d s c e =
    let a = (disk_accepted_iff d s c).0 e in op_allowed d s a.disk c.node c.table a.node a.table c.op a.rows

-- A CALL THAT UPSTREAM ALLOWS IS ACCEPTED, BUT FOR THE NARROWINGS

-- an id that is new, and no narrowing
request_clear : (q : Requests) (id : ℕ) (allowed : Bool) → is_some (places q id) ≡ false → request_narrowed q allowed ≡ false →
    Clear (request_rows q id allowed)
request_clear q id allowed new h = let k = (or_iff (not allowed) (leb 16 q.count)).0 h in (sym (places_has q id) ∙ new, (k.0, (k.1, tt)))

request_wide : (q : Requests) (id : ℕ) (allowed : Bool) → Clear (request_rows q id allowed) → request_narrowed q allowed ≡ false
request_wide q id allowed c = (or_iff (not allowed) (leb 16 q.count)).1 (c.1.0, c.1.1.0)

answer_clear : (q : Requests) (id : ℕ) (wrong : Bool) → is_some (places q id) ≡ true → (has_of q id ≡ true → wrong ≡ false) →
    Clear (answer_rows q id wrong)
answer_clear q id wrong there right =
    let h = sym (places_has q id) ∙ there in (answer_ok_iff q id wrong).1 (record { there = h; right = right h })

module _ (d : ℕ) (s : DiskState) (f : DiskForm d s) (n : Node) (t : Table) (fn : node_form n ≡ true) (ft : table_form t ≡ true)
    (s' : Variables) where
  op_clear : (op : DiskOp) → op_narrowed d s op ≡ false → Next (disk_vars d s) s' (op_of op n t) → Clear (op_rows d s op n t)
  op_clear (ReqReadIndirectionTableOp id l) h u = request_clear s.queues.tablereads id (table_allowed d l) u.fresh h
  op_clear (ReqReadNodeOp id l) h u = request_clear s.queues.nodereads id (node_allowed d l) u.fresh h
  op_clear (ReqWriteIndirectionTableOp id l) h u = request_clear s.queues.tablewrites id (table_allowed d l) u.fresh h
  op_clear (ReqWriteNodeOp id l) h u = request_clear s.queues.nodewrites id (node_allowed d l) u.fresh h
  op_clear (RespReadIndirectionTableOp id b) h u =
      let q = s.queues.tablereads in
      answer_clear q id (table_not_stored d s id b t) u.there
      (λ a. (table_not_stored_iff d s f id b t ft).1
      ((brought_iff q id (upstream_tables d s.records) (something_in b) (indirection_table t) a).1 u.brought))
  op_clear (RespReadNodeOp id b) h u =
      let q = s.queues.nodereads in
      answer_clear q id (node_not_stored d s id b n) u.there
      (λ a. (node_not_stored_iff d s f id b n fn).1 ((brought_iff q id (nodes_stored d s.records) (something_in b) n a).1 u.brought))
  op_clear (RespWriteIndirectionTableOp id) h u = answer_clear s.queues.tablewrites id false u.there (λ a. refl)
  op_clear (RespWriteNodeOp id) h u = answer_clear s.queues.nodewrites id false u.there (λ a. refl)
  op_clear NoDiskOp h u = tt

-- an accepted operation is not narrowed
op_wide : (d : ℕ) (s : DiskState) (n : Node) (t : Table) (op : DiskOp) → Clear (op_rows d s op n t) → op_narrowed d s op ≡ false
op_wide d s n t (ReqReadIndirectionTableOp id l) c = request_wide s.queues.tablereads id (table_allowed d l) c
op_wide d s n t (ReqReadNodeOp id l) c = request_wide s.queues.nodereads id (node_allowed d l) c
op_wide d s n t (ReqWriteIndirectionTableOp id l) c = request_wide s.queues.tablewrites id (table_allowed d l) c
op_wide d s n t (ReqWriteNodeOp id l) c = request_wide s.queues.nodewrites id (node_allowed d l) c
op_wide d s n t (RespReadIndirectionTableOp id b) c = refl
op_wide d s n t (RespReadNodeOp id b) c = refl
op_wide d s n t (RespWriteIndirectionTableOp id) c = refl
op_wide d s n t (RespWriteNodeOp id) c = refl
op_wide d s n t NoDiskOp c = refl

-- what no narrowing of a call says
disk_wide_iff : (d : ℕ) (s : DiskState) (c : DiskCall) →
    (disk_narrowed d s c ≡ false) ↔
    (((DiskForm d s × (node_form c.node ≡ true)) × (table_form c.table ≡ true)) × (op_narrowed d s c.op ≡ false))
unfolding disk_narrowed
disk_wide_iff d s c = simp (or_iff, not_iff, and_iff, disk_form_iff) Iff.rfl

crash_wide_iff : (d : ℕ) (s : DiskState) (o : Records) →
    (crash_narrowed d s o ≡ false) ↔ ((DiskForm d s × ((records_checked d o).form ≡ true)) × ((records_checked d o).placed ≡ true))
unfolding crash_narrowed
crash_wide_iff d s o = simp (or_iff, not_iff, and_iff, disk_form_iff) Iff.rfl

-- THE THEOREMS

pub disk_accepted : (d : ℕ) (s : DiskState) (c : DiskCall) →
    (answer (disk_rows d s c) ≡ 0) ↔ ((disk_narrowed d s c ≡ false) × ((s' : Variables) × Next (disk_vars d s) s' (dop_of c)))
disk_accepted d s c = (
  (λ e. let a = (disk_accepted_iff d s c).0 e in (
    (disk_wide_iff d s c).1 (((a.disk, a.node), a.table), op_wide d s c.node c.table c.op a.rows),
    (disk_vars d (next_disk d s c.op c.node c.table), disk_allowed d s c e),
  )),
  (λ (h, v). let g = (disk_wide_iff d s c).0 h in
      let f = g.0.0 in
      let rows = op_clear d s f.0 c.node c.table f.1 g.0.1 v.0 c.op g.1 v.1 in
      (disk_accepted_iff d s c).1 (record { disk = f.0; node = f.1; table = g.0.1; rows = rows })),
)

pub crash_accepted : (d : ℕ) (s : DiskState) (o : Records) →
    (answer (crash_rows d s o) ≡ 0) ↔ ((crash_narrowed d s o ≡ false) × Crash (disk_vars d s) (disk_vars d (crashed s o)))
crash_accepted d s o = (
  (λ e. let c = (crash_ok_iff d s o).0 e in
      let k = (records_kept_iff s.queues s.records o).0 c.kept in (
        (crash_wide_iff d s o).1 ((c.disk, c.form), c.placed),
        record {
          no_table_reads = places_none;
          no_node_reads = places_none;
          no_table_writes = places_none;
          no_node_writes = places_none;
          havoc_tables = (tables_havoc_iff d s o c.disk c.form).0 k.0;
          havoc_nodes = (nodes_havoc_iff d s o c.disk c.form).0 k.1;
        },
      )),
  (λ (h, u). let g = (crash_wide_iff d s o).0 h in
      let f = g.0.0 in
      let r = g.0.1 in
      (crash_ok_iff d s o).1
      (record {
        disk = f;
        form = r;
        placed = g.1;
        kept = (records_kept_iff s.queues s.records o).1
            ((tables_havoc_iff d s o f r).1 u.havoc_tables, (nodes_havoc_iff d s o f r).1 u.havoc_nodes);
      })),
)

-- a disk with nothing outstanding meets upstream's Init
pub disk_init : (d : ℕ) (s : DiskState) → s.queues ≡ empty_queues → Init (disk_vars d s)
disk_init d s e =
    record {
      no_table_reads = ap (λ q. places q.tablereads) e ∙ places_none;
      no_node_reads = ap (λ q. places q.nodereads) e ∙ places_none;
      no_table_writes = ap (λ q. places q.tablewrites) e ∙ places_none;
      no_node_writes = ap (λ q. places q.nodewrites) e ∙ places_none;
    }
