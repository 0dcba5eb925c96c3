-- One meaning, one written form: a disk in its written form is decided by its upstream variables and its rule. A queue by `queue`'s law; an area or
-- block, where it is, by reading at its record's own place, and an absent record is zeros. Assumes nothing.
use Prim.Native.Nat.{◌<◌, ℕ}
use mathlib.Core.Bool.{Bool, ◌&&◌, ◌||◌, false, true}
use mathlib.Core.List.{List}
use mathlib.Core.Option.{some}
use mathlib.Core.Path.{◌∙◌, ◌≡◌, ap, refl, sym}
use borrow.Author.Tests.{eqb-true}
use lib.Dec.{eqb}
use lib.ListN.{length}
use lib.Seq.{ext_get_or}
use Rattle.base.proofs.Tests.{and_iff, and_left, and_right, clash, or_true_iff, split}
use Rattle.blockdisk.proofs.Forms.{DiskForm, disk_form_iff, records_form_iff}
use Rattle.blockdisk.proofs.Outstanding.{queue_iff}
use Rattle.blockdisk.proofs.RecordArray.{Formed, Holds, Placed, RecordArray, reads, reads_iff, record_at}
use Rattle.blockdisk.proofs.RecordArrays.{node_array, nodes_are_formed, nodes_are_placed, nodes_read, tables_are_formed, tables_are_placed}
use Rattle.blockdisk.proofs.RecordArrays.{upstream_read, upstream_array}
use Rattle.blockdisk.specs.Form.{disk_form, node_queue_form, node_record_checked, node_request_ok, table_queue_form, table_record_checked}
use Rattle.blockdisk.specs.Form.{table_request_ok}
use Rattle.blockdisk.specs.Records.{node_record_at, table_record_at, zero_node_record, zero_table_record}
use Rattle.blockdisk.specs.Upstream.{disk_vars, nodes_stored, places, upstream_tables}
use Rattle.blockdisk.specs.declared.DiskState.{DiskState}
use Rattle.blockdisk.specs.declared.Record.{Record}
use Rattle.sectortype.specs.declared.Node.{Node}
use Rattle.sectortype.specs.declared.Table.{Table}
use Rattle.queue.proofs.Decided.{mapped_decided, request_ext}
use Rattle.queue.specs.declared.Request.{Request}
use Rattle.queue.specs.declared.Requests.{Requests}
use Rattle.sectortype.proofs.Equal.{loc_zero_is, node_zero_is, table_abstract, table_zero_is}
use Rattle.sectortype.specs.Abstract.{indirection_table}
use Rattle.sectortype.specs.Form.{loc_zero, node_form, node_zero, table_form}

-- AN ARRAY OF RECORDS

module _ {R A : Type 0} (s : RecordArray R A) where
  -- the array is in its written form, in which an absent record is z
  record Written (z : R) (l : List R) : Type 0 where
    long : length l ≡ s.size
    formed : Formed s l
    placed : Placed s l
    absent : (k : ℕ) → k < s.size → s.there (record_at s l k) ≡ false → record_at s l k ≡ z

  -- a record of l that is there is in the same area or block of m
  found : (l m : List R) → Placed s l → reads s l ≡ reads s m → (k : ℕ) → k < s.size → s.there (record_at s l k) ≡ true →
      Holds s m (s.loc (record_at s l k)) (s.thing (record_at s l k)) k
  found l m placed same k b t =
      let p = s.loc (record_at s l k) in
      let a = s.thing (record_at s l k) in
      let n = (placed k b t).1 in
      let (j, y) = (reads_iff s m p a).0
      (ap (λ r. r p) (sym same) ∙ (reads_iff s l p a).1 (k, record { number = n; there = t; loc = refl; thing = refl })) in
      let e : j ≡ k = (let u : some j ≡ some k = sym y.number ∙ n in cc) in
      rw e at y

  -- where its place and its thing settle a record that is there
  array_decided : (z : R) →
      ((x y : R) → s.form x ≡ true → s.form y ≡ true → s.there x ≡ s.there y → s.loc x ≡ s.loc y → s.thing x ≡ s.thing y → x ≡ y) →
      (l m : List R) → Written z l → Written z m → reads s l ≡ reads s m → l ≡ m
  array_decided z settles l m f g same = ext_get_or s.blank l m (f.long ∙ sym g.long) (λ k c. at k (rw f.long at c))
    where
      at : (k : ℕ) → k < s.size → record_at s l k ≡ record_at s m k
      at k b =
          split (s.there (record_at s l k))
          (λ t. let y = found l m f.placed same k b t in
          settles (record_at s l k) (record_at s m k) (f.formed k b) (g.formed k b) (t ∙ sym y.there) (sym y.loc) (sym y.thing))
          (λ t. split (s.there (record_at s m k)) (λ u. clash (found m l g.placed (sym same) k b u).there t)
          (λ u. f.absent k b t ∙ sym (g.absent k b u)))

-- NODES AND TABLES

absent_node : (d k : ℕ) (x : Record Node) → (node_record_checked d k x).form ≡ true → x.present ≡ false → x ≡ zero_node_record
unfolding node_record_checked
absent_node d k x e p =
    let zeros = loc_zero x.loc && node_zero x.held in
    let h = (and_iff (loc_zero x.loc) (node_zero x.held)).0
    ((or_true_iff x.present zeros).0 (and_right (node_form x.held) (x.present || zeros) e) p) in
    let l = loc_zero_is x.loc h.0 in
    let n = node_zero_is x.held h.1 in
    λ i. record { present = p i; loc = l i; held = n i }

absent_table : (d k : ℕ) (x : Record Table) → (table_record_checked d k x).form ≡ true → x.present ≡ false → x ≡ zero_table_record
unfolding table_record_checked
absent_table d k x e p =
    let zeros = loc_zero x.loc && eqb x.held.count 0 in
    let h = (and_iff (loc_zero x.loc) (eqb x.held.count 0)).0
    ((or_true_iff x.present zeros).0 (and_right (table_form x.held) (x.present || zeros) e) p) in
    let l = loc_zero_is x.loc h.0 in
    let t = table_zero_is x.held (and_left (table_form x.held) (x.present || zeros) e) (eqb-true _ _ h.1) in
    λ i. record { present = p i; loc = l i; held = t i }

module _ (d : ℕ) (s : DiskState) (f : DiskForm d s) where
  nodes_written : Written (node_array d) zero_node_record s.records.nodes
  nodes_written =
      let h = (records_form_iff d s.records).0 f.form in
      record {
        long = h.nodes_long;
        formed = nodes_are_formed d s.records f.form;
        placed = nodes_are_placed d s.records f.placed;
        absent = λ k b p. absent_node d k (node_record_at s.records k) (h.nodes_form_lem k b) p;
      }

  tables_written : Written (upstream_array d) zero_table_record s.records.tables
  tables_written =
      let h = (records_form_iff d s.records).0 f.form in
      record {
        long = h.tables_long;
        formed = tables_are_formed d s.records indirection_table f.form;
        placed = tables_are_placed d s.records indirection_table f.placed;
        absent = λ k b p. absent_table d k (table_record_at s.records k) (h.tables_form_lem k b) p;
      }

module _ (d : ℕ) (s t : DiskState) (f : DiskForm d s) (g : DiskForm d t) where
  nodes_decided : nodes_stored d s.records ≡ nodes_stored d t.records → s.records.nodes ≡ t.records.nodes
  nodes_decided same =
      array_decided (node_array d) zero_node_record (λ x y u v a b c i. record { present = a i; loc = b i; held = c i })
      s.records.nodes t.records.nodes
      (nodes_written d s f) (nodes_written d t g) (sym (nodes_read d s.records f.on) ∙ same ∙ nodes_read d t.records f.on)

  tables_decided : upstream_tables d s.records ≡ upstream_tables d t.records → s.records.tables ≡ t.records.tables
  tables_decided same =
      array_decided (upstream_array d) zero_table_record
      (λ x y u v a b c. let e = (table_abstract x.held y.held u v).0 c in λ i. record { present = a i; loc = b i; held = e i })
      s.records.tables t.records.tables
      (tables_written d s f) (tables_written d t g) (sym (upstream_read d s.records f.on) ∙ same ∙ upstream_read d t.records f.on)

-- THE QUEUES

-- a queued request has no reference
no_reference : (b c : Bool) (v w : Request) → (eqb v.reference 0 && b) ≡ true → (eqb w.reference 0 && c) ≡ true → v.id ≡ w.id →
    v.loc ≡ w.loc → v ≡ w
no_reference b c v w e f i l =
    request_ext i (eqb-true _ _ (and_left (eqb v.reference 0) b e) ∙ sym (eqb-true _ _ (and_left (eqb w.reference 0) c f))) l

table_queue_decided : (d : ℕ) (q p : Requests) → table_queue_form d q ≡ true → table_queue_form d p ≡ true → places q ≡ places p → q ≡ p
unfolding table_queue_form places
table_queue_decided d q p f g =
    mapped_decided (λ w. w.loc) (table_request_ok d) (λ v w. no_reference _ _ v w) q p ((queue_iff (table_request_ok d) q).0 f)
    ((queue_iff (table_request_ok d) p).0 g)

node_queue_decided : (d : ℕ) (q p : Requests) → node_queue_form d q ≡ true → node_queue_form d p ≡ true → places q ≡ places p → q ≡ p
unfolding node_queue_form places
node_queue_decided d q p f g =
    mapped_decided (λ w. w.loc) (node_request_ok d) (λ v w. no_reference _ _ v w) q p ((queue_iff (node_request_ok d) q).0 f)
    ((queue_iff (node_request_ok d) p).0 g)

-- THE DISK

pub disk_decided : (d : ℕ) (s t : DiskState) → disk_form d s ≡ true → disk_form d t ≡ true → disk_vars d s ≡ disk_vars d t →
    s.rule ≡ t.rule → s ≡ t
disk_decided d s t e h same rule =
    let f = (disk_form_iff d s).0 e in
    let g = (disk_form_iff d t).0 h in
    let tr = table_queue_decided d s.queues.tablereads t.queues.tablereads f.tablereads g.tablereads
    (ap (λ v. v.req_read_indirection_tables) same) in
    let nr = node_queue_decided d s.queues.nodereads t.queues.nodereads f.nodereads g.nodereads (ap (λ v. v.req_read_nodes) same) in
    let tw = table_queue_decided d s.queues.tablewrites t.queues.tablewrites f.tablewrites g.tablewrites
    (ap (λ v. v.req_write_indirection_tables) same) in
    let nw = node_queue_decided d s.queues.nodewrites t.queues.nodewrites f.nodewrites g.nodewrites (ap (λ v. v.req_write_nodes) same) in
    let ts = tables_decided d s t f g (ap (λ v. v.indirection_tables) same) in
    let ns = nodes_decided d s t f g (ap (λ v. v.nodes) same) in
    λ i. record {
      rule = rule i;
      records = record { tables = ts i; nodes = ns i };
      queues = record { tablereads = tr i; nodereads = nr i; tablewrites = tw i; nodewrites = nw i };
    }
