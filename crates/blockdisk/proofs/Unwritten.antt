-- Where no write is outstanding, a call that is no request to write, and a crash, whatever records it is offered, leave every stored table
-- and node unchanged and no write outstanding; so what was read at a place is read there. Assumes nothing.
use Prim.Native.Nat.{◌<◌, ◌≤◌, ℕ}
use mathlib.Core.Bool.{Bool, ◌&&◌, false, false≢true, true}
use mathlib.Core.List.{List}
use mathlib.Core.Logic.{◌↔◌}
use mathlib.Core.Path.{◌∙◌, ◌≡◌, ap, refl, subst, sym}
use native.Mathlib.Omega.{arith}
use borrow.Author.Tests.{eq-eqb, eqb-false, eqb-true, le-ltb, lt-ltb, ltb-false, ltb-true}
use lib.Dec.{eqb, ltb}
use lib.ListN.{get_or-eq_default, length}
use Rattle.base.proofs.Scan.{some_at, some_of_none}
use Rattle.base.proofs.Tests.{and_both, and_iff, clash, split}
use Rattle.base.specs.Refusals.{answer}
use Rattle.base.proofs.Refusals.{Clear}
use Rattle.disklayout.specs.Layout.{same_loc}
use Rattle.disklayout.specs.declared.Location.{Location}
use Rattle.blockdisk.proofs.Accepting.{answer_ok_iff, disk_accepted_iff}
use Rattle.blockdisk.proofs.Crashing.{CrashOk, crash_ok_iff, nodes_kept_iff, records_kept_iff, tables_kept_iff}
use Rattle.blockdisk.proofs.Forms.{records_form_iff}
use Rattle.blockdisk.proofs.Havoc.{kept_in, kept_iff}
use Rattle.blockdisk.proofs.RecordArray.{Formed, Laws, RecordArray, record_at}
use Rattle.blockdisk.proofs.RecordArrays.{node_laws, node_array, nodes_are_formed, table_laws, table_array, tables_are_formed}
use Rattle.blockdisk.specs.Crash.{crash_rows, disk_crash}
use Rattle.blockdisk.specs.Ops.{answer_rows, disk_rows, disk_step, next_disk, op_rows}
use Rattle.std.specs.Prelude.{is_some}
use Rattle.blockdisk.specs.Records.{area_number, area_of, block_number, block_of, node_record_at, read_node, read_table, table_record_at}
use Rattle.blockdisk.specs.Unwritten.{StoredUnchanged, Unwritten, is_write_req, has_no_writes}
use Rattle.blockdisk.specs.declared.DiskCall.{DiskCall}
use Rattle.blockdisk.specs.declared.DiskOp.{DiskOp}
use Rattle.blockdisk.specs.declared.DiskOp.TheVariants.{NoDiskOp, ReqReadIndirectionTableOp, ReqReadNodeOp, ReqWriteIndirectionTableOp}
use Rattle.blockdisk.specs.declared.DiskOp.TheVariants.{ReqWriteNodeOp, RespReadIndirectionTableOp, RespReadNodeOp}
use Rattle.blockdisk.specs.declared.DiskOp.TheVariants.{RespWriteIndirectionTableOp, RespWriteNodeOp}
use Rattle.blockdisk.specs.declared.DiskState.{DiskState}
use Rattle.blockdisk.specs.declared.Records.{Records}
use Rattle.queue.specs.Queue.{has_addr, has_of, request_at}
use Rattle.queue.specs.declared.Requests.{Requests}
use Rattle.sectortype.specs.declared.Node.{Node}
use Rattle.sectortype.specs.declared.Table.{Table}

-- AN EMPTY QUEUE: nothing of it is outstanding

none_with_id : (q : Requests) (id : ℕ) → q.count ≡ 0 → has_of q id ≡ false
unfolding has_of
none_with_id q id e = some_of_none _ 16 (λ k b. rw (le-ltb k q.count (omega (arith, e))))

none_with_addr : (q : Requests) (a : ℕ) → q.count ≡ 0 → has_addr q a ≡ false
unfolding has_addr
none_with_addr q a e = some_of_none _ 16 (λ k b. rw (le-ltb k q.count (omega (arith, e))))

-- a queue has none exactly when it has none under any id
empty_iff : (q : Requests) → (q.count ≡ 0) ↔ ((id : ℕ) → has_of q id ≡ false)
unfolding has_of
empty_iff q = (
  (λ e id. none_with_id q id e),
  (λ h. split (eqb q.count 0)
      (λ t. eqb-true _ _ t)
      (λ t. let ne = eqb-false q.count 0 t in
      let first = (request_at q 0).id in
      clash (some_at _ 16 0 (omega arith) (and_both (lt-ltb 0 q.count (omega arith)) (eq-eqb first first refl))) (h first))),
)

-- so no write is outstanding exactly when there is none under any id, of a table or of a node
pub no_writes_iff : (s : DiskState) →
    (has_no_writes s ≡ true) ↔ ((id : ℕ) → (has_of s.queues.tablewrites id ≡ false) × (has_of s.queues.nodewrites id ≡ false))
no_writes_iff s =
    let both = and_iff (eqb s.queues.tablewrites.count 0) (eqb s.queues.nodewrites.count 0) in
    let tables = empty_iff s.queues.tablewrites in
    let nodes = empty_iff s.queues.nodewrites in (
      (λ e id. let h = both.0 e in (tables.0 (eqb-true _ _ h.0) id, nodes.0 (eqb-true _ _ h.1) id)),
      (λ h. both.1 (eq-eqb _ _ (tables.1 (λ id. (h id).0)), eq-eqb _ _ (nodes.1 (λ id. (h id).1)))),
    )

-- NOTHING CHANGED

stored_same : (r : Records) → StoredUnchanged r r
stored_same r = record { tables = λ k e. refl; nodes = λ k e. refl }

pub unwritten_same : (s : DiskState) → has_no_writes s ≡ true → Unwritten s s
unwritten_same s e = record { stored = stored_same s.records; none_outstanding = e }

pub unwritten_then : (a b c : DiskState) → Unwritten a b → Unwritten b c → Unwritten a c
unwritten_then a b c x y =
    record {
      stored = record {
        tables = λ k e. let f = x.stored.tables k e in y.stored.tables k (ap (λ r. r.present) f ∙ e) ∙ f;
        nodes = λ k e. let f = x.stored.nodes k e in y.stored.nodes k (ap (λ r. r.present) f ∙ e) ∙ f;
      };
      none_outstanding = y.none_outstanding;
    }

-- A RECORD of an array, of which no write is outstanding, stays in what a crash may leave

record_stays : {R A : Type 0} (a : RecordArray R A) →
    ((x y : R) → a.there x ≡ a.there y → a.loc x ≡ a.loc y → a.thing x ≡ a.thing y → x ≡ y) →
    (q : Requests) → q.count ≡ 0 → a.there a.blank ≡ false → Laws a → (old new : List R) → length old ≡ a.size → Formed a old →
    Formed a new →
    ((k : ℕ) → k < a.size → kept_in a q (record_at a old k) (record_at a new k) ≡ true) →
    (k : ℕ) → a.there (record_at a old k) ≡ true → record_at a new k ≡ record_at a old k
record_stays a ext q empty blank laws old new long f g kept k there =
    split (ltb k a.size)
    (λ t. let b = ltb-true k a.size t in
    let x = record_at a old k in
    let y = record_at a new k in
    let stays = (kept_iff a q x y).0 (kept k b) (there, none_with_addr q (a.loc x).addr empty) in
    let same = (laws.same_iff x y (f k b) (g k b)).0 stays.1 in
    ext y x (stays.0.0 ∙ sym there) (sym stays.0.1) (sym same))
    (λ t. let past : length old ≤ k = subst (λ n. n ≤ k) (sym long) (ltb-false k a.size t) in
    clash there (ap a.there (get_or-eq_default old a.blank past) ∙ blank))

-- A CALL THAT IS NO REQUEST TO WRITE

-- an answer that is accepted is to a request that is queued
answered_some : (q : Requests) (id : ℕ) (wrong : Bool) → Clear (answer_rows q id wrong) → q.count ≡ 0 → ⊥
answered_some q id wrong h e = clash ((answer_ok_iff q id wrong).0 h).there (none_with_id q id e)

module _ (d : ℕ) (s : DiskState) (none : has_no_writes s ≡ true) where
  both_empty : (s.queues.tablewrites.count ≡ 0) × (s.queues.nodewrites.count ≡ 0)
  both_empty = let h = (and_iff _ _).0 none in (eqb-true _ _ h.0, eqb-true _ _ h.1)

  op_unwritten : (op : DiskOp) (n : Node) (t : Table) → is_write_req op ≡ false → Clear (op_rows d s op n t) →
      Unwritten s (next_disk d s op n t)
  op_unwritten (ReqReadIndirectionTableOp id l) n t w h = record { stored = stored_same s.records; none_outstanding = none }
  op_unwritten (ReqReadNodeOp id l) n t w h = record { stored = stored_same s.records; none_outstanding = none }
  op_unwritten (ReqWriteIndirectionTableOp id l) n t w h = absurd (false≢true (sym w))
  op_unwritten (ReqWriteNodeOp id l) n t w h = absurd (false≢true (sym w))
  op_unwritten (RespReadIndirectionTableOp id b) n t w h = record { stored = stored_same s.records; none_outstanding = none }
  op_unwritten (RespReadNodeOp id b) n t w h = record { stored = stored_same s.records; none_outstanding = none }
  op_unwritten (RespWriteIndirectionTableOp id) n t w h = absurd (answered_some s.queues.tablewrites id false h both_empty.0)
  op_unwritten (RespWriteNodeOp id) n t w h = absurd (answered_some s.queues.nodewrites id false h both_empty.1)
  op_unwritten NoDiskOp n t w h = unwritten_same s none

  pub step_unwritten : (c : DiskCall) → is_write_req c.op ≡ false → Unwritten s (disk_step d s c).disk
  unfolding disk_step
  step_unwritten c w =
      split (eqb (answer (disk_rows d s c)) 0)
      (λ t. rw t (op_unwritten c.op c.node c.table w ((disk_accepted_iff d s c).0 (eqb-true _ _ t)).rows))
      (λ t. rw t (unwritten_same s none))

  -- A CRASH

  module _ (o : Records) (e : answer (crash_rows d s o) ≡ 0) where
    accepted : CrashOk d s o
    accepted = (crash_ok_iff d s o).0 e

    tables_stay : (k : ℕ) → (table_record_at s.records k).present ≡ true → table_record_at o k ≡ table_record_at s.records k
    tables_stay =
        let q = s.queues.tablewrites in
        let f = (records_form_iff d s.records).0 accepted.disk.form in
        record_stays (table_array d) (λ x y a b c i. record { present = a i; loc = b i; held = c i }) q both_empty.0 refl (table_laws d)
        s.records.tables o.tables f.tables_long
        (tables_are_formed d s.records (λ x. x) accepted.disk.form) (tables_are_formed d o (λ x. x) accepted.form)
        ((tables_kept_iff q s.records o).0 ((records_kept_iff s.queues s.records o).0 accepted.kept).0)

    nodes_stay : (k : ℕ) → (node_record_at s.records k).present ≡ true → node_record_at o k ≡ node_record_at s.records k
    nodes_stay =
        let q = s.queues.nodewrites in
        let f = (records_form_iff d s.records).0 accepted.disk.form in
        record_stays (node_array d) (λ x y a b c i. record { present = a i; loc = b i; held = c i }) q both_empty.1 refl (node_laws d)
        s.records.nodes o.nodes f.nodes_long
        (nodes_are_formed d s.records accepted.disk.form) (nodes_are_formed d o accepted.form)
        ((nodes_kept_iff q s.records o).0 ((records_kept_iff s.queues s.records o).0 accepted.kept).1)

  pub crash_unwritten : (o : Records) → Unwritten s (disk_crash d s o).disk
  unfolding disk_crash
  crash_unwritten o =
      split (eqb (answer (crash_rows d s o)) 0)
      (λ t. let e = eqb-true _ _ t in
      rw t (record { stored = record { tables = tables_stay o e; nodes = nodes_stay o e }; none_outstanding = refl }))
      (λ t. rw t (unwritten_same s none))

-- WHAT WAS READ AT A PLACE IS READ THERE

module _ (d : ℕ) (old new : Records) (u : StoredUnchanged old new) (l : Location) where
  pub unchanged_table : (read_table d old l).present ≡ true → read_table d new l ≡ read_table d old l
  unfolding read_table
  unchanged_table there =
      let x = table_record_at old (area_number d l) in
      let found = is_some (area_of d l) && x.present && same_loc x.loc l in
      split found
      (λ t. let h = (and_iff (is_some (area_of d l) && x.present) (same_loc x.loc l)).0 t in
      rw (u.tables (area_number d l) ((and_iff (is_some (area_of d l)) x.present).0 h.0).1))
      (λ t. clash there (rw t))

  pub unchanged_node : (read_node d old l).present ≡ true → read_node d new l ≡ read_node d old l
  unfolding read_node
  unchanged_node there =
      let x = node_record_at old (block_number d l) in
      let found = is_some (block_of d l) && x.present && same_loc x.loc l in
      split found
      (λ t. let h = (and_iff (is_some (block_of d l) && x.present) (same_loc x.loc l)).0 t in
      rw (u.nodes (block_number d l) ((and_iff (is_some (block_of d l)) x.present).0 h.0).1))
      (λ t. clash there (rw t))
