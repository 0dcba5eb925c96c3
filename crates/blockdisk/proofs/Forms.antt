-- What the disk's written form says, part by part. Assumes nothing.
use Prim.Native.Nat.{◌<◌, suc, zero, ℕ}
use mathlib.Core.Bool.{Bool, ◌&&◌, ◌||◌, true}
use mathlib.Core.Logic.Iff
use mathlib.Core.Logic.{◌↔◌}
use mathlib.Core.Option.{some}
use mathlib.Core.Path.{◌≡◌}
use native.Mathlib.Omega.{arith}
use lib.Dec.{eqb}
use lib.ListN.{length}
use Rattle.base.proofs.Scan.{all_at, all_of}
use Rattle.base.proofs.Tests.{and_iff, and_left, eqb_iff, not_iff, or_true_iff}
use Rattle.blockdisk.proofs.Outstanding.{places_some, queue_iff}
use Rattle.blockdisk.specs.Form.{disk_form, is_rule, node_queue_form, node_record_checked, node_request_ok, nodes_checked, queues_form}
use Rattle.blockdisk.specs.Form.{records_checked, table_queue_form, table_record_checked, table_request_ok, tables_checked}
use Rattle.blockdisk.specs.Records.{node_record_at, table_record_at}
use Rattle.blockdisk.specs.Upstream.{places}
use Rattle.blockdisk.specs.declared.DiskState.{DiskState}
use Rattle.blockdisk.specs.declared.Record.{Record}
use Rattle.sectortype.specs.declared.Node.{Node}
use Rattle.sectortype.specs.declared.Table.{Table}
use Rattle.blockdisk.specs.declared.Records.{Records}
use Rattle.disklayout.specs.Blocks.{node_place, node_place_in, table_place_in}
use Rattle.disklayout.specs.Device.{device_of, made}
use Rattle.disklayout.specs.Layout.{valid_indirection_table_location}
use Rattle.disklayout.specs.declared.Location.{Location}
use Rattle.queue.specs.Queue.{requests_form}
use Rattle.queue.specs.declared.Requests.{Requests}
use Rattle.sectortype.specs.Form.{loc_zero, node_form, table_form}

-- a test of the numbers below 2
pub both : (g : ℕ → Bool) → g 0 ≡ true → g 1 ≡ true → (k : ℕ) → k < 2 → g k ≡ true
both g a b zero h = a
both g a b (suc zero) h = b
both g a b (suc (suc k)) h = absurd (omega arith)

-- A RECORD

pub table_form_of : (d k : ℕ) (x : Record Table) → (table_record_checked d k x).form ≡ true → table_form x.held ≡ true
unfolding table_record_checked
table_form_of d k x e = and_left (table_form x.held) (x.present || (loc_zero x.loc && eqb x.held.count 0)) e

pub node_form_of : (d k : ℕ) (x : Record Node) → (node_record_checked d k x).form ≡ true → node_form x.held ≡ true
unfolding node_record_checked
node_form_of d k x e = and_left (node_form x.held) _ e

pub table_form_there : (d k : ℕ) (x : Record Table) → x.present ≡ true → table_form x.held ≡ true → (table_record_checked d k x).form ≡ true
unfolding table_record_checked
table_form_there d k x p e = rw (e, p)

pub node_form_there : (d k : ℕ) (x : Record Node) → x.present ≡ true → node_form x.held ≡ true → (node_record_checked d k x).form ≡ true
unfolding node_record_checked
node_form_there d k x p e = rw (e, p)

pub table_placed_iff : (d k : ℕ) (x : Record Table) →
    ((table_record_checked d k x).placed ≡ true) ↔ (x.present ≡ true → (made d ≡ true) × (table_place_in (device_of d) k x.loc ≡ true))
unfolding table_record_checked
table_placed_iff d k x = simp (or_true_iff, not_iff, and_iff) Iff.rfl

pub node_placed_iff : (d k : ℕ) (x : Record Node) →
    ((node_record_checked d k x).placed ≡ true) ↔ (x.present ≡ true → (made d ≡ true) × (node_place_in (device_of d) k x.loc ≡ true))
unfolding node_record_checked
node_placed_iff d k x = simp (or_true_iff, not_iff, and_iff) Iff.rfl

-- ALL RECORDS

pub record RecordsForm (d : ℕ) (r : Records) : Type 0 where
  pub tables_long : length r.tables ≡ 2
  pub nodes_long : length r.nodes ≡ 128
  pub tables_form_lem : (k : ℕ) → k < 2 → (table_record_checked d k (table_record_at r k)).form ≡ true
  pub nodes_form_lem : (k : ℕ) → k < 128 → (node_record_checked d k (node_record_at r k)).form ≡ true

pub records_form_iff : (d : ℕ) (r : Records) → ((records_checked d r).form ≡ true) ↔ RecordsForm d r
unfolding records_checked tables_checked nodes_checked
records_form_iff d r = (
  (λ e. let h = simp (and_iff, eqb_iff) at e in
      record {
        tables_long = h.0.0;
        nodes_long = h.0.1;
        tables_form_lem = both (λ k. (table_record_checked d k (table_record_at r k)).form) h.1.0.0 h.1.0.1;
        nodes_form_lem = λ k b. all_at (λ k. (node_record_checked d k (node_record_at r k)).form) 128 k h.1.1 b;
      }),
  (λ f. simp (and_iff, eqb_iff) (
    (f.tables_long, f.nodes_long),
    (
      (f.tables_form_lem 0 (omega arith), f.tables_form_lem 1 (omega arith)),
      all_of (λ k. (node_record_checked d k (node_record_at r k)).form) 128 f.nodes_form_lem,
    ),
  )),
)

pub record RecordsPlaced (d : ℕ) (r : Records) : Type 0 where
  pub tables_placed : (k : ℕ) → k < 2 → (table_record_checked d k (table_record_at r k)).placed ≡ true
  pub nodes_placed : (k : ℕ) → k < 128 → (node_record_checked d k (node_record_at r k)).placed ≡ true

pub records_placed_iff : (d : ℕ) (r : Records) → ((records_checked d r).placed ≡ true) ↔ RecordsPlaced d r
unfolding records_checked tables_checked nodes_checked
records_placed_iff d r = (
  (λ e. let h = simp and_iff at e in
      record {
        tables_placed = both (λ k. (table_record_checked d k (table_record_at r k)).placed) h.0.0 h.0.1;
        nodes_placed = λ k b. all_at (λ k. (node_record_checked d k (node_record_at r k)).placed) 128 k h.1 b;
      }),
  (λ f. simp and_iff (
    (f.tables_placed 0 (omega arith), f.tables_placed 1 (omega arith)),
    all_of (λ k. (node_record_checked d k (node_record_at r k)).placed) 128 f.nodes_placed,
  )),
)

-- THE DISK

pub record DiskForm (d : ℕ) (s : DiskState) : Type 0 where
  pub on : made d ≡ true
  pub rule : is_rule s.rule ≡ true
  pub form : (records_checked d s.records).form ≡ true
  pub placed : (records_checked d s.records).placed ≡ true
  pub tablereads : table_queue_form d s.queues.tablereads ≡ true
  pub nodereads : node_queue_form d s.queues.nodereads ≡ true
  pub tablewrites : table_queue_form d s.queues.tablewrites ≡ true
  pub nodewrites : node_queue_form d s.queues.nodewrites ≡ true

pub disk_form_iff : (d : ℕ) (s : DiskState) → (disk_form d s ≡ true) ↔ DiskForm d s
unfolding disk_form queues_form
disk_form_iff d s = (
  (λ e. let h = simp and_iff at e in
      record {
        on = h.0.0.0.0;
        rule = h.0.0.0.1;
        form = h.0.0.1;
        placed = h.0.1;
        tablereads = h.1.0.0.0;
        nodereads = h.1.0.0.1;
        tablewrites = h.1.0.1;
        nodewrites = h.1.1;
      }),
  (λ f. simp and_iff ((((f.on, f.rule), f.form), f.placed), (((f.tablereads, f.nodereads), f.tablewrites), f.nodewrites))),
)

-- THE QUEUES

pub table_queue_form_lem : (d : ℕ) (q : Requests) → table_queue_form d q ≡ true → requests_form q ≡ true
unfolding table_queue_form
table_queue_form_lem d q e = ((queue_iff (table_request_ok d) q).0 e).0

pub node_queue_form_lem : (d : ℕ) (q : Requests) → node_queue_form d q ≡ true → requests_form q ≡ true
unfolding node_queue_form
node_queue_form_lem d q e = ((queue_iff (node_request_ok d) q).0 e).0

-- a queued place is one that 16 allows
pub queued_table_place : (d : ℕ) (q : Requests) → table_queue_form d q ≡ true → (id : ℕ) (l : Location) → places q id ≡ some l →
    valid_indirection_table_location (device_of d) l ≡ true
unfolding table_queue_form
queued_table_place d q e id l h =
    let w = places_some q id h in
    let k = simp and_iff at (((queue_iff (table_request_ok d) q).0 e).1 id w.0 w.1) in
    rw w.2 at k.1.1

pub queued_node_place : (d : ℕ) (q : Requests) → node_queue_form d q ≡ true → (id : ℕ) (l : Location) → places q id ≡ some l →
    node_place (device_of d) l ≡ true
unfolding node_queue_form
queued_node_place d q e id l h =
    let w = places_some q id h in
    let k = simp and_iff at (((queue_iff (node_request_ok d) q).0 e).1 id w.0 w.1) in
    rw w.2 at k.1.1
