-- A crash: which records may be offered, in upstream's words, and what stays stored. Assumes nothing.
use Prim.Native.Nat.{◌<◌, ℕ}
use mathlib.Core.Bool.{false≢true, true}
use mathlib.Core.Logic.Iff
use mathlib.Core.Logic.{◌↔◌}
use mathlib.Core.Option.{some}
use mathlib.Core.Path.{◌≡◌, refl}
use native.Mathlib.Omega.{arith}
use lib.ListN.{get_or-replicate, length-replicate}
use Rattle.base.proofs.Refusals.{accepted_iff}
use Rattle.base.proofs.Scan.{all_iff}
use Rattle.base.proofs.Tests.{and_both, and_iff, never, not_iff}
use Rattle.base.specs.Refusals.{answer, ascending}
use Rattle.blockdisk.proofs.Forms.{DiskForm, both, disk_form_iff, node_placed_iff, node_queue_form_lem, queued_node_place}
use Rattle.blockdisk.proofs.Forms.{queued_table_place, records_form_iff, records_placed_iff, table_placed_iff, table_queue_form_lem}
use Rattle.blockdisk.proofs.Havoc.{havoc_iff, kept_stored}
use Rattle.blockdisk.proofs.Outstanding.{queue_iff, written_iff}
use Rattle.blockdisk.proofs.RecordArrays.{node_laws, node_array, nodes_are_formed, nodes_are_placed, nodes_read, table_laws, table_array}
use Rattle.blockdisk.proofs.RecordArrays.{tables_are_formed, tables_are_placed, tables_read, upstream_laws, upstream_read, upstream_array}
use Rattle.blockdisk.specs.Crash.{crash_rows, crashed, kept_node, kept_table, nodes_kept, records_kept, tables_kept}
use Rattle.blockdisk.specs.Form.{disk_form, is_rule, node_queue_form, node_record_checked, node_request_ok, records_checked}
use Rattle.blockdisk.specs.Form.{table_queue_form, table_record_checked, table_request_ok}
use Rattle.blockdisk.specs.Records.{empty_records, default_node_record, default_table_record, node_record_at, table_record_at}
use Rattle.blockdisk.specs.Records.{zero_node_record, zero_table_record}
use Rattle.blockdisk.specs.Upstream.{HavocMap, nodes_stored, places, tables_stored, upstream_tables}
use Rattle.blockdisk.specs.declared.DiskState.{DiskState}
use Rattle.blockdisk.specs.declared.Queues.{Queues}
use Rattle.blockdisk.specs.declared.Records.{Records}
use Rattle.disklayout.specs.Device.{made}
use Rattle.disklayout.specs.declared.Location.{Location}
use Rattle.queue.proofs.Laws.{none_form, none_map}
use Rattle.queue.specs.Queue.{empty_requests}
use Rattle.queue.specs.declared.Requests.{Requests}
use Rattle.sectortype.proofs.Forms.{empty_table_form, zero_node_form, zero_node_zero}
use Rattle.sectortype.specs.Abstract.{indirection_table}
use Rattle.sectortype.specs.declared.Node.{Node}
use Rattle.sectortype.specs.declared.Table.{Table}

pub crash_ascending : (d : ℕ) (s : DiskState) (o : Records) → ascending (crash_rows d s o) ≡ true
crash_ascending d s o = refl

pub record CrashOk (d : ℕ) (s : DiskState) (o : Records) : Type 0 where
  pub disk : DiskForm d s
  pub form : (records_checked d o).form ≡ true
  pub placed : (records_checked d o).placed ≡ true
  pub kept : records_kept s.queues s.records o ≡ true

pub crash_ok_iff : (d : ℕ) (s : DiskState) (o : Records) → (answer (crash_rows d s o) ≡ 0) ↔ CrashOk d s o
crash_ok_iff d s o = (
  (λ e. let h = simp (not_iff, disk_form_iff, and_iff) at ((accepted_iff (crash_rows d s o) refl).0 e) in
      record { disk = h.0.0; form = h.0.1; placed = h.1.0.0; kept = h.1.0.1 }),
  (λ c. (accepted_iff (crash_rows d s o) refl).1 (simp (not_iff, disk_form_iff, and_iff) ((c.disk, c.form), ((c.placed, c.kept), tt)))),
)

-- AFTERWARDS

pub empty_table_queue : (d : ℕ) → table_queue_form d empty_requests ≡ true
unfolding table_queue_form
empty_table_queue d = (queue_iff (table_request_ok d) empty_requests).1 (none_form, (λ id w e. never (rw none_map at e)))

pub empty_node_queue : (d : ℕ) → node_queue_form d empty_requests ≡ true
unfolding node_queue_form
empty_node_queue d = (queue_iff (node_request_ok d) empty_requests).1 (none_form, (λ id w e. never (rw none_map at e)))

-- records in form and place, and nothing outstanding
pub crashed_form : (d : ℕ) (s : DiskState) (o : Records) → made d ≡ true → is_rule s.rule ≡ true → (records_checked d o).form ≡ true →
    (records_checked d o).placed ≡ true →
    disk_form d (crashed s o) ≡ true
crashed_form d s o on rule form placed =
    (disk_form_iff d (crashed s o)).1
    (record {
      on = on;
      rule = rule;
      form = form;
      placed = placed;
      tablereads = empty_table_queue d;
      nodereads = empty_node_queue d;
      tablewrites = empty_table_queue d;
      nodewrites = empty_node_queue d;
    })

-- records of zeros are in their written form, and nowhere out of place
empty_table_lem : (d k : ℕ) → (table_record_checked d k zero_table_record).form ≡ true
unfolding table_record_checked
empty_table_lem d k = and_both empty_table_form refl

zero_node_lem : (d k : ℕ) → (node_record_checked d k zero_node_record).form ≡ true
unfolding node_record_checked
zero_node_lem d k = and_both zero_node_form zero_node_zero

pub empty_records_form : (d : ℕ) → (records_checked d empty_records).form ≡ true
empty_records_form d =
    (records_form_iff d empty_records).1
    (record {
      tables_long = length-replicate 2 zero_table_record;
      nodes_long = length-replicate 128 zero_node_record;
      tables_form_lem = λ k b. rw (get_or-replicate 2 k zero_table_record default_table_record b) (empty_table_lem d k);
      nodes_form_lem = λ k b. rw (get_or-replicate 128 k zero_node_record default_node_record b) (zero_node_lem d k);
    })

pub empty_records_placed : (d : ℕ) → (records_checked d empty_records).placed ≡ true
empty_records_placed d =
    (records_placed_iff d empty_records).1
    (record {
      tables_placed = λ k b. rw (get_or-replicate 2 k zero_table_record default_table_record b)
          ((table_placed_iff d k zero_table_record).1 (λ e. absurd (false≢true e)));
      nodes_placed = λ k b. rw (get_or-replicate 128 k zero_node_record default_node_record b)
          ((node_placed_iff d k zero_node_record).1 (λ e. absurd (false≢true e)));
    })

pub crash_form_kept : (d : ℕ) (s : DiskState) (o : Records) → answer (crash_rows d s o) ≡ 0 → disk_form d (crashed s o) ≡ true
crash_form_kept d s o e = let c = (crash_ok_iff d s o).0 e in crashed_form d s o c.disk.on c.disk.rule c.form c.placed

-- WHAT IS KEPT

pub tables_kept_iff : (q : Requests) (old new : Records) →
    (tables_kept q old.tables new.tables ≡ true) ↔ ((k : ℕ) → k < 2 → kept_table q (table_record_at old k) (table_record_at new k) ≡ true)
unfolding tables_kept
tables_kept_iff q old new = (
  (λ e. let h = (and_iff (kept_table q (table_record_at old 0) (table_record_at new 0))
      (kept_table q (table_record_at old 1) (table_record_at new 1))).0 e in
      both (λ k. kept_table q (table_record_at old k) (table_record_at new k)) h.0 h.1),
  (λ h. and_both (h 0 (omega arith)) (h 1 (omega arith))),
)

pub nodes_kept_iff : (q : Requests) (old new : Records) →
    (nodes_kept q old.nodes new.nodes ≡ true) ↔ ((k : ℕ) → k < 128 → kept_node q (node_record_at old k) (node_record_at new k) ≡ true)
unfolding nodes_kept
nodes_kept_iff q old new = all_iff (λ k. kept_node q (node_record_at old k) (node_record_at new k)) 128

pub records_kept_iff : (qs : Queues) (old new : Records) →
    (records_kept qs old new ≡ true) ↔
    ((tables_kept qs.tablewrites old.tables new.tables ≡ true) × (nodes_kept qs.nodewrites old.nodes new.nodes ≡ true))
unfolding records_kept
records_kept_iff qs old new = and_iff (tables_kept qs.tablewrites old.tables new.tables) (nodes_kept qs.nodewrites old.nodes new.nodes)

module _ (d : ℕ) (s : DiskState) (o : Records) (f : DiskForm d s) (g : (records_checked d o).form ≡ true) where
  abbrev old : Records
  old = s.records

  -- the test is upstream's HavocMap
  pub nodes_havoc_iff : (nodes_kept s.queues.nodewrites s.records.nodes o.nodes ≡ true) ↔ HavocMap (nodes_stored d s.records)
      (nodes_stored d o) (places s.queues.nodewrites)
  nodes_havoc_iff =
      let q = s.queues.nodewrites in
      rw (nodes_read d old f.on, nodes_read d o f.on)
      (Iff.trans (nodes_kept_iff q old o)
      (havoc_iff (node_array d) q (node_laws d) (node_queue_form_lem d q f.nodewrites)
      (queued_node_place d q f.nodewrites) old.nodes o.nodes
      (nodes_are_formed d old f.form) (nodes_are_formed d o g) (nodes_are_placed d old f.placed)))

  pub tables_havoc_iff : (tables_kept s.queues.tablewrites s.records.tables o.tables ≡ true) ↔ HavocMap (upstream_tables d s.records)
      (upstream_tables d o) (places s.queues.tablewrites)
  tables_havoc_iff =
      let q = s.queues.tablewrites in
      rw (upstream_read d old f.on, upstream_read d o f.on)
      (Iff.trans (tables_kept_iff q old o)
      (havoc_iff (upstream_array d) q (upstream_laws d) (table_queue_form_lem d q f.tablewrites)
      (queued_table_place d q f.tablewrites) old.tables o.tables
      (tables_are_formed d old indirection_table f.form) (tables_are_formed d o indirection_table g)
      (tables_are_placed d old indirection_table f.placed)))

-- WHAT STAYS STORED: where no write is outstanding at the address

module _ (d : ℕ) (s : DiskState) (o : Records) (e : answer (crash_rows d s o) ≡ 0) (l : Location) where
  pub crash_keeps_node : (n : Node) → nodes_stored d s.records l ≡ some n →
      ((id : ℕ) (k : Location) → places s.queues.nodewrites id ≡ some k → k.addr ≡ l.addr → ⊥) → nodes_stored d o l ≡ some n
  crash_keeps_node n h free =
      let c = (crash_ok_iff d s o).0 e in
      let q = s.queues.nodewrites in
      let kept = (nodes_kept_iff q s.records o).0 ((records_kept_iff s.queues s.records o).0 c.kept).1 in
      rw (nodes_read d o c.disk.on)
      (kept_stored (node_array d) q (node_laws d) s.records.nodes o.nodes (nodes_are_formed d s.records c.disk.form)
      (nodes_are_formed d o c.form) kept l n
      (rw (nodes_read d s.records c.disk.on) at h) ((written_iff q l.addr (node_queue_form_lem d q c.disk.nodewrites)).1 free))

  pub crash_keeps_table : (t : Table) → tables_stored d s.records l ≡ some t →
      ((id : ℕ) (k : Location) → places s.queues.tablewrites id ≡ some k → k.addr ≡ l.addr → ⊥) → tables_stored d o l ≡ some t
  crash_keeps_table t h free =
      let c = (crash_ok_iff d s o).0 e in
      let q = s.queues.tablewrites in
      let kept = (tables_kept_iff q s.records o).0 ((records_kept_iff s.queues s.records o).0 c.kept).0 in
      rw (tables_read d o c.disk.on)
      (kept_stored (table_array d) q (table_laws d) s.records.tables o.tables (tables_are_formed d s.records (λ x. x) c.disk.form)
      (tables_are_formed d o (λ x. x) c.form) kept l t
      (rw (tables_read d s.records c.disk.on) at h) ((written_iff q l.addr (table_queue_form_lem d q c.disk.tablewrites)).1 free))
