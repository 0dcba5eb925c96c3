-- The node blocks and the table areas of a device, each as an array of records: what is stored is what the array reads. Assumes nothing.
use Prim.Native.Nat.{ℕ}
use mathlib.Core.Bool.{◌&&◌, cond, true}
use mathlib.Core.Logic.{◌↔◌}
use mathlib.Core.Option.{Option, map, none, some}
use mathlib.Core.Path.{◌∙◌, ◌≡◌, fun_ext, refl, sym}
use Rattle.base.proofs.Tests.{split}
use Rattle.base.specs.Maps.{flagged}
use Rattle.blockdisk.proofs.Forms.{node_form_of, node_placed_iff, records_form_iff, records_placed_iff, table_form_of, table_placed_iff}
use Rattle.blockdisk.proofs.RecordArray.{Formed, Laws, Placed, RecordArray, read_in, reads}
use Rattle.blockdisk.specs.Form.{records_checked}
use Rattle.blockdisk.specs.Records.{default_node_record, default_table_record, node_record_at, read_node, read_table, table_record_at}
use Rattle.blockdisk.specs.Records.{zero_node_record, zero_table_record}
use Rattle.blockdisk.specs.Upstream.{nodes_stored, tables_stored, upstream_tables}
use Rattle.blockdisk.specs.declared.Record.{Record}
use Rattle.blockdisk.specs.declared.Records.{Records}
use Rattle.disklayout.proofs.Devices.{device_good}
use Rattle.disklayout.proofs.NodeBlocks.{node_block_iff, node_place_iff, node_place_in_iff, node_place_in_of}
use Rattle.disklayout.proofs.Places.{node_overlap_iff, table_overlap_iff}
use Rattle.disklayout.proofs.TableAreas.{device_table, table_area_iff, table_place_iff, table_place_in_of}
use Rattle.disklayout.specs.Blocks.{node_block_of, node_place, table_area_of}
use Rattle.std.specs.Prelude.{is_some as is_told, unwrap_or}
use Rattle.disklayout.specs.Calls.{told}
use Rattle.disklayout.specs.Device.{Good, device_of, made}
use Rattle.disklayout.specs.Layout.{valid_indirection_table_location, same_loc}
use Rattle.disklayout.specs.declared.Device.{Device}
use Rattle.disklayout.specs.declared.Location.{Location}
use Rattle.sectortype.proofs.Equal.{same_node_iff, same_table_iff, table_abstract}
use Rattle.sectortype.specs.Abstract.{IndirectionTable, indirection_table}
use Rattle.sectortype.specs.Form.{node_form, table_form}
use Rattle.sectortype.specs.Same.{same_node, same_table}
use Rattle.sectortype.specs.declared.Node.{Node}
use Rattle.sectortype.specs.declared.Table.{Table}

abbrev pub node_array : ℕ → RecordArray (Record Node) Node
node_array d =
    record {
      there = λ x. x.present;
      loc = λ x. x.loc;
      thing = λ x. x.held;
      blank = default_node_record;
      size = 128;
      number = node_block_of (device_of d);
      place = node_place (device_of d);
      form = λ x. node_form x.held;
      same = λ x y. same_node x.held y.held;
    }

-- a table seen as f sees it
abbrev pub table_array_of : {A : Type 0} → (Table → A) → ℕ → RecordArray (Record Table) A
table_array_of f d =
    record {
      there = λ x. x.present;
      loc = λ x. x.loc;
      thing = λ x. f x.held;
      blank = default_table_record;
      size = 2;
      number = table_area_of (device_of d);
      place = valid_indirection_table_location (device_of d);
      form = λ x. table_form x.held;
      same = λ x y. same_table x.held y.held;
    }

abbrev pub table_array : ℕ → RecordArray (Record Table) Table
table_array d = table_array_of (λ t. t) d

abbrev pub upstream_array : ℕ → RecordArray (Record Table) IndirectionTable
upstream_array d = table_array_of indirection_table d

-- THE LAWS

pub node_laws : (d : ℕ) → Laws (node_array d)
node_laws d =
    record {
      below = λ a k e. ((node_block_iff w g a k).0 e).0;
      single = λ a b k e f. ((node_block_iff w g a k).0 e).1 ∙ sym ((node_block_iff w g b k).0 f).1;
      numbered = λ l p. let h = (node_place_iff w g l).0 p in (h.0, (node_place_in_of w g h.0 l p).0 h.2);
      overlapping = λ l k p q.
          let a = (node_place_iff w g l).0 p in
          let b = (node_place_iff w g k).0 q in
          let x = (node_place_in_iff w g a.0 l).0 a.2 in
          let y = (node_place_in_iff w g b.0 k).0 b.2 in
          node_overlap_iff w l k x.2 y.2 x.3 y.3;
      same_iff = λ x y f h. same_node_iff x.held y.held f h;
    }
  where
    w : Device
    w = device_of d

    g : Good (device_of d)
    g = device_good d

table_array_laws : {A : Type 0} (f : Table → A) (d : ℕ) →
    ((x y : Table) → table_form x ≡ true → table_form y ≡ true → (same_table x y ≡ true) ↔ (f x ≡ f y)) → Laws (table_array_of f d)
table_array_laws f d same =
    record {
      below = λ a k e. ((table_area_iff (device_of d) (device_table d) a k).0 e).0;
      single = λ a b k e h. ((table_area_iff (device_of d) (device_table d) a k).0 e).1
          ∙ sym ((table_area_iff (device_of d) (device_table d) b k).0 h).1;
      numbered = λ l p. let h = (table_place_iff (device_of d) l).0 p in (h.0, (table_place_in_of (device_of d) h.0 l p).0 h.2);
      overlapping = table_overlap_iff (device_of d);
      same_iff = λ x y a b. same x.held y.held a b;
    }

pub table_laws : (d : ℕ) → Laws (table_array d)
table_laws d = table_array_laws (λ t. t) d same_table_iff

pub upstream_laws : (d : ℕ) → Laws (upstream_array d)
upstream_laws d =
    table_array_laws indirection_table d
    (λ x y a b. (
      (λ e. (table_abstract x y a b).1 ((same_table_iff x y a b).0 e)),
      (λ e. (same_table_iff x y a b).1 ((table_abstract x y a b).0 e)),
    ))

-- WHAT IS STORED IS WHAT THE ARRAY READS

module _ (d : ℕ) (r : Records) (on : made d ≡ true) where
  pub nodes_read : nodes_stored d r ≡ reads (node_array d) r.nodes
  unfolding nodes_stored read_node reads
  nodes_read = fun_ext (λ l. rw on (go l (node_block_of (device_of d) l.addr)))
    where
      -- the record found in block k, or zeros
      found : Location → Option ℕ → Record Node
      found l o =
          cond (is_told (told o) && (node_record_at r (unwrap_or (told o) 0)).present && same_loc (node_record_at r (unwrap_or (told o) 0)).loc l)
          (node_record_at r (unwrap_or (told o) 0)) zero_node_record

      go : (l : Location) (o : Option ℕ) → flagged (found l o).present (found l o).held ≡ read_in (node_array d) r.nodes l o
      go l none = refl
      go l (some k) =
          split (node_record_at r k).present (λ p. split (same_loc (node_record_at r k).loc l) (λ q. rw (p, q, p)) (λ q. rw (p, q)))
          (λ p. rw p)

  pub tables_read : tables_stored d r ≡ reads (table_array d) r.tables
  unfolding tables_stored read_table reads
  tables_read = fun_ext (λ l. rw on (go l (table_area_of (device_of d) l.addr)))
    where
      found : Location → Option ℕ → Record Table
      found l o =
          cond (is_told (told o) && (table_record_at r (unwrap_or (told o) 0)).present && same_loc (table_record_at r (unwrap_or (told o) 0)).loc l)
          (table_record_at r (unwrap_or (told o) 0)) zero_table_record

      go : (l : Location) (o : Option ℕ) → flagged (found l o).present (found l o).held ≡ read_in (table_array d) r.tables l o
      go l none = refl
      go l (some k) =
          split (table_record_at r k).present (λ p. split (same_loc (table_record_at r k).loc l) (λ q. rw (p, q, p)) (λ q. rw (p, q)))
          (λ p. rw p)

  pub upstream_read : upstream_tables d r ≡ reads (upstream_array d) r.tables
  unfolding upstream_tables reads
  upstream_read = fun_ext (λ l. rw tables_read (go l (table_area_of (device_of d) l.addr)))
    where
      go : (l : Location) (o : Option ℕ) →
          map indirection_table (read_in (table_array d) r.tables l o) ≡ read_in (upstream_array d) r.tables l o
      go l none = refl
      go l (some k) =
          split ((table_record_at r k).present && same_loc (table_record_at r k).loc l) (λ p. rw p) (λ p. rw p)

-- THE WRITTEN FORM

module _ (d : ℕ) (r : Records) where
  pub nodes_are_placed : (records_checked d r).placed ≡ true → Placed (node_array d) r.nodes
  nodes_are_placed e k b t =
      let p = (node_placed_iff d k (node_record_at r k)).0 (((records_placed_iff d r).0 e).nodes_placed k b) t in
      let v = (node_place_iff (device_of d) (device_good d) (node_record_at r k).loc).1 (k, b, p.1) in
      (v, (node_place_in_of (device_of d) (device_good d) k (node_record_at r k).loc v).0 p.1)

  pub tables_are_placed : {A : Type 0} (f : Table → A) → (records_checked d r).placed ≡ true → Placed (table_array_of f d) r.tables
  tables_are_placed f e k b t =
      let p = (table_placed_iff d k (table_record_at r k)).0 (((records_placed_iff d r).0 e).tables_placed k b) t in
      let v = (table_place_iff (device_of d) (table_record_at r k).loc).1 (k, b, p.1) in
      (v, (table_place_in_of (device_of d) k (table_record_at r k).loc v).0 p.1)

  pub nodes_are_formed : (records_checked d r).form ≡ true → Formed (node_array d) r.nodes
  nodes_are_formed e k b = node_form_of d k (node_record_at r k) (((records_form_iff d r).0 e).nodes_form_lem k b)

  pub tables_are_formed : {A : Type 0} (f : Table → A) → (records_checked d r).form ≡ true → Formed (table_array_of f d) r.tables
  tables_are_formed f e k b = table_form_of d k (table_record_at r k) (((records_form_iff d r).0 e).tables_form_lem k b)
