-- What reading gives, and what a write changes of it. Assumes nothing.
use Prim.Native.Nat.{◌<◌, ℕ}
use mathlib.Core.Bool.{Bool, ◌&&◌, cond, false, true}
use mathlib.Core.Logic.{◌↔◌, ◌⊎◌, inl, inr}
use mathlib.Core.Option.{Option, map, map-eq-some_iff, none, some}
use mathlib.Core.Path.{◌∙◌, ◌≡◌, ap, fun_ext, refl}
use native.Mathlib.Omega.{arith}
use borrow.Author.Tests.{eq-eqb, eqb-false, eqb-true, ne_eqb}
use lib.Dec.{eqb}
use lib.ListN.{length, set}
use Rattle.base.proofs.Maps.{flagged_some}
use Rattle.base.proofs.Tests.{and_both, and_iff, clash, split}
use Rattle.base.specs.Maps.{flagged}
use Rattle.blockdisk.proofs.Forms.{records_form_iff}
use Rattle.blockdisk.proofs.RecordArray.{reads, reads_iff, replaced_away, replaced_elsewhere, replaced_same, replaced_update}
use Rattle.blockdisk.proofs.RecordArrays.{node_laws, node_array, nodes_are_formed, nodes_are_placed, nodes_read, table_laws, table_array}
use Rattle.blockdisk.proofs.RecordArrays.{tables_are_formed, tables_are_placed, tables_read, upstream_laws, upstream_read, upstream_array}
use Rattle.blockdisk.specs.Form.{records_checked}
use Rattle.blockdisk.specs.Records.{node_record_at, read_node, read_table, table_record_at, with_node, with_table}
use Rattle.blockdisk.specs.Upstream.{DiskMapUpdate, Imap, nodes_stored, tables_stored, upstream_tables}
use Rattle.blockdisk.specs.declared.Record.{Record}
use Rattle.blockdisk.specs.declared.Records.{Records}
use Rattle.disklayout.specs.Blocks.{node_block_of, node_place, table_area_of}
use Rattle.disklayout.specs.Device.{device_of, made}
use Rattle.disklayout.specs.Layout.{valid_indirection_table_location, same_loc}
use Rattle.disklayout.specs.declared.Location.{Location}
use Rattle.disklayout.proofs.Facts.{same_loc_iff}
use Rattle.sectortype.proofs.Equal.{same_node_iff, same_table_iff, table_abstract}
use Rattle.sectortype.specs.Abstract.{IndirectionTable, indirection_table}
use Rattle.sectortype.specs.Form.{node_form, table_form}
use Rattle.sectortype.specs.Same.{same_node, same_table}
use Rattle.sectortype.specs.declared.Node.{Node}
use Rattle.sectortype.specs.declared.Table.{Table}

-- block k holds the node at the place
pub record NodeAt (d : ℕ) (r : Records) (l : Location) (n : Node) (k : ℕ) : Type 0 where
  pub within : k < 128
  pub block : node_block_of (device_of d) l.addr ≡ some k
  pub present : (node_record_at r k).present ≡ true
  pub loc : (node_record_at r k).loc ≡ l
  pub node : (node_record_at r k).held ≡ n

-- area k holds the table at the place
pub record TableAt (d : ℕ) (r : Records) (l : Location) (t : Table) (k : ℕ) : Type 0 where
  pub within : k < 2
  pub area : table_area_of (device_of d) l.addr ≡ some k
  pub present : (table_record_at r k).present ≡ true
  pub loc : (table_record_at r k).loc ≡ l
  pub table : (table_record_at r k).held ≡ t

-- a map after a write: at the written address the new thing at exactly its place, elsewhere what was
abbrev pub replacing : {A : Type 0} → Imap A → Location → A → Imap A
replacing m l a = λ k. cond (eqb k.addr l.addr) (flagged (same_loc k l) a) (m k)

module _ {A : Type 0} (m : Imap A) (l : Location) (a : A) where
  pub replacing_same : replacing m l a l ≡ some a
  replacing_same = rw ((same_loc_iff l l).1 refl, eq-eqb l.addr l.addr refl)

  pub replacing_other : (k : Location) → (k.addr ≡ l.addr → ⊥) → replacing m l a k ≡ m k
  replacing_other k ne = rw (ne_eqb k.addr l.addr ne)

  -- what a lookup that succeeds tells
  pub replacing_some : (k : Location) {x : A} → replacing m l a k ≡ some x → ((k ≡ l) × (a ≡ x)) ⊎ ((k.addr ≡ l.addr → ⊥) × (m k ≡ some x))
  replacing_some k {x} e = go (eqb k.addr l.addr) (same_loc k l) refl refl e
    where
      go : (p q : Bool) → eqb k.addr l.addr ≡ p → same_loc k l ≡ q → cond p (flagged q a) (m k) ≡ some x →
          ((k ≡ l) × (a ≡ x)) ⊎ ((k.addr ≡ l.addr → ⊥) × (m k ≡ some x))
      go true q u v h = let f = flagged_some q a h in inl ((same_loc_iff k l).0 (v ∙ f.0), f.1)
      go false q u v h = inr (eqb-false k.addr l.addr u, h)

replaced_map : {A : Type 0} (m m' : Imap A) (l : Location) (a : A) → m' l ≡ some a → ((k : Location) → (k.addr ≡ l.addr → ⊥) → m' k ≡ m k) →
    ((k : Location) → k.addr ≡ l.addr → (k ≡ l → ⊥) → m' k ≡ none) → m' ≡ replacing m l a
replaced_map m m' l a here else gone =
    fun_ext (λ k. split (eqb k.addr l.addr)
    (λ x. split (same_loc k l) (λ y. rw (y, x) (ap m' ((same_loc_iff k l).0 y) ∙ here))
    (λ y. rw (y, x) (gone k (eqb-true k.addr l.addr x) (λ e. clash ((same_loc_iff k l).1 e) y))))
    (λ x. rw x (else k (eqb-false k.addr l.addr x))))

-- what the code's read gives
pub node_read_iff : (d : ℕ) (r : Records) (l : Location) (n : Node) →
    (nodes_stored d r l ≡ some n) ↔ (((read_node d r l).present ≡ true) × ((read_node d r l).held ≡ n))
unfolding nodes_stored
node_read_iff d r l n = (flagged_some (read_node d r l).present (read_node d r l).held, (λ h. rw (h.0, h.1)))

pub table_read_iff : (d : ℕ) (r : Records) (l : Location) (t : Table) →
    (tables_stored d r l ≡ some t) ↔ (((read_table d r l).present ≡ true) × ((read_table d r l).held ≡ t))
unfolding tables_stored
table_read_iff d r l t = (flagged_some (read_table d r l).present (read_table d r l).held, (λ h. rw (h.0, h.1)))

-- a table as upstream's
pub upstream_some : (d : ℕ) (r : Records) (l : Location) {x : IndirectionTable} → upstream_tables d r l ≡ some x → (t : Table)
    × (tables_stored d r l ≡ some t) × (indirection_table t ≡ x)
unfolding upstream_tables
upstream_some d r l e = (map-eq-some_iff indirection_table (tables_stored d r l)).0 e

pub upstream_of : (d : ℕ) (r : Records) (l : Location) (t : Table) → tables_stored d r l ≡ some t →
    upstream_tables d r l ≡ some (indirection_table t)
unfolding upstream_tables
upstream_of d r l t e = rw e

module _ (d : ℕ) (r : Records) (on : made d ≡ true) where
  pub read_node_some : (l : Location) (n : Node) → (nodes_stored d r l ≡ some n) ↔ ((k : ℕ) × NodeAt d r l n k)
  read_node_some l n = (
    (λ e. let h = (reads_iff (node_array d) r.nodes l n).0 (rw (nodes_read d r on) at e) in
        let j = h.1 in
        (h.0, record { within = (node_laws d).below l.addr h.0 j.number; block = j.number; present = j.there; loc = j.loc; node = j.thing })),
    (λ (k, h). rw (nodes_read d r on)
        ((reads_iff (node_array d) r.nodes l n).1 (k, record { number = h.block; there = h.present; loc = h.loc; thing = h.node }))),
  )

  pub read_table_some : (l : Location) (t : Table) → (tables_stored d r l ≡ some t) ↔ ((k : ℕ) × TableAt d r l t k)
  read_table_some l t = (
    (λ e. let h = (reads_iff (table_array d) r.tables l t).0 (rw (tables_read d r on) at e) in
        let j = h.1 in
        (h.0, record { within = (table_laws d).below l.addr h.0 j.number; area = j.number; present = j.there; loc = j.loc; table = j.thing })),
    (λ (k, h). rw (tables_read d r on)
        ((reads_iff (table_array d) r.tables l t).1 (k, record { number = h.area; there = h.present; loc = h.loc; thing = h.table }))),
  )

  -- a stored place is one that 16 allows
  pub stored_node_place : (records_checked d r).placed ≡ true → (l : Location) (n : Node) → nodes_stored d r l ≡ some n →
      node_place (device_of d) l ≡ true
  stored_node_place placed l n e =
      let (k, h) = (read_node_some l n).0 e in rw h.loc at (nodes_are_placed d r placed k h.within h.present).0

  pub stored_table_place : (records_checked d r).placed ≡ true → (l : Location) (t : Table) → tables_stored d r l ≡ some t →
      valid_indirection_table_location (device_of d) l ≡ true
  stored_table_place placed l t e =
      let (k, h) = (read_table_some l t).0 e in rw h.loc at (tables_are_placed d r (λ x. x) placed k h.within h.present).0

  -- what is stored is in its form
  pub stored_node_form : (records_checked d r).form ≡ true → (l : Location) (n : Node) → nodes_stored d r l ≡ some n → node_form n ≡ true
  stored_node_form form l n e = let (k, h) = (read_node_some l n).0 e in rw h.node at (nodes_are_formed d r form k h.within)

  pub stored_table_form : (records_checked d r).form ≡ true → (l : Location) (t : Table) → tables_stored d r l ≡ some t →
      table_form t ≡ true
  stored_table_form form l t e = let (k, h) = (read_table_some l t).0 e in rw h.table at (tables_are_formed d r (λ x. x) form k h.within)

  -- the code's test of exactly what is stored
  pub node_is_iff : (records_checked d r).form ≡ true → (l : Location) (n : Node) → node_form n ≡ true →
      (((read_node d r l).present && same_node (read_node d r l).held n) ≡ true) ↔ (nodes_stored d r l ≡ some n)
  node_is_iff form l n f = (
    (λ e. let h = (and_iff (read_node d r l).present (same_node (read_node d r l).held n)).0 e in
        let g = stored_node_form form l (read_node d r l).held ((node_read_iff d r l (read_node d r l).held).1 (h.0, refl)) in
        (node_read_iff d r l n).1 (h.0, (same_node_iff (read_node d r l).held n g f).0 h.1)),
    (λ e. let h = (node_read_iff d r l n).0 e in and_both h.0 ((same_node_iff (read_node d r l).held n (rw h.1 f) f).1 h.1)),
  )

  pub table_is_iff : (records_checked d r).form ≡ true → (l : Location) (t : Table) → table_form t ≡ true →
      (((read_table d r l).present && same_table (read_table d r l).held t) ≡ true) ↔ (tables_stored d r l ≡ some t)
  table_is_iff form l t f = (
    (λ e. let h = (and_iff (read_table d r l).present (same_table (read_table d r l).held t)).0 e in
        let g = stored_table_form form l (read_table d r l).held ((table_read_iff d r l (read_table d r l).held).1 (h.0, refl)) in
        (table_read_iff d r l t).1 (h.0, (same_table_iff (read_table d r l).held t g f).0 h.1)),
    (λ e. let h = (table_read_iff d r l t).0 e in and_both h.0 ((same_table_iff (read_table d r l).held t (rw h.1 f) f).1 h.1)),
  )

  -- so upstream's table settles the stored one
  pub upstream_stored : (records_checked d r).form ≡ true → (l : Location) (t : Table) → table_form t ≡ true →
      upstream_tables d r l ≡ some (indirection_table t) → tables_stored d r l ≡ some t
  upstream_stored form l t f e =
      let (x, h, q) = upstream_some d r l e in h ∙ ap some ((table_abstract x t (stored_table_form form l x h) f).0 q)

-- A NODE WRITTEN

pub node_leaves_tables : (d : ℕ) (r : Records) (l : Location) (n : Node) → tables_stored d (with_node d r l n) ≡ tables_stored d r
unfolding tables_stored read_table with_node
node_leaves_tables d r l n = refl

-- its block's record is replaced
pub with_node_is : (d : ℕ) (r : Records) (l : Location) (n : Node) (k : ℕ) → made d ≡ true → node_block_of (device_of d) l.addr ≡ some k →
    with_node d r l n ≡ record { tables = r.tables; nodes = set r.nodes k (record { present = true; loc = l; held = n }) }
unfolding with_node
with_node_is d r l n k on e = rw (on, e)

pub node_leaves_upstream : (d : ℕ) (r : Records) (l : Location) (n : Node) → upstream_tables d (with_node d r l n) ≡ upstream_tables d r
unfolding upstream_tables
node_leaves_upstream d r l n = ap (λ m x. map indirection_table (m x)) (node_leaves_tables d r l n)

-- the block of a place, for which there is a record
pub node_block : (d : ℕ) (r : Records) → (records_checked d r).form ≡ true → (l : Location) → node_place (device_of d) l ≡ true →
    (k : ℕ) × (node_block_of (device_of d) l.addr ≡ some k) × (k < length r.nodes)
node_block d r form l place =
    let (k, e) = (node_laws d).numbered l place in
    (k, e, omega (arith, ((records_form_iff d r).0 form).nodes_long, (node_laws d).below l.addr k e))

module _ (d : ℕ) (r : Records) (on : made d ≡ true) (form : (records_checked d r).form ≡ true) (l : Location) (n : Node)
    (place : node_place (device_of d) l ≡ true) where
  abbrev new_node : Record Node
  new_node = record { present = true; loc = l; held = n }

  abbrev block : ℕ
  block = (node_block d r form l place).0

  node_at : node_block_of (device_of d) l.addr ≡ some block
  node_at = (node_block d r form l place).1

  node_fits : block < length r.nodes
  node_fits = (node_block d r form l place).2

  now : nodes_stored d (with_node d r l n) ≡ reads (node_array d) (set r.nodes block new_node)
  now =
      ap (nodes_stored d) (with_node_is d r l n block on node_at)
      ∙ nodes_read d (record { tables = r.tables; nodes = set r.nodes block new_node }) on

  pub node_written_lem : nodes_stored d (with_node d r l n) l ≡ some n
  node_written_lem = rw now (replaced_same (node_array d) (node_laws d) r.nodes block new_node node_fits refl node_at)

  pub node_elsewhere : (k : Location) → (k.addr ≡ l.addr → ⊥) → nodes_stored d (with_node d r l n) k ≡ nodes_stored d r k
  node_elsewhere k ne =
      rw (now, nodes_read d r on) (replaced_elsewhere (node_array d) (node_laws d) r.nodes block new_node node_fits refl node_at k ne)

  pub node_replaced : (k : Location) → k.addr ≡ l.addr → (k ≡ l → ⊥) → nodes_stored d (with_node d r l n) k ≡ none
  node_replaced k e ne = rw now (replaced_away (node_array d) (node_laws d) r.nodes block new_node node_fits refl node_at k e ne)

  -- all that is stored afterwards
  pub nodes_after : nodes_stored d (with_node d r l n) ≡ replacing (nodes_stored d r) l n
  nodes_after = replaced_map (nodes_stored d r) (nodes_stored d (with_node d r l n)) l n node_written_lem node_elsewhere node_replaced

  -- upstream's DiskMapUpdate
  pub node_update : (records_checked d r).placed ≡ true → DiskMapUpdate (nodes_stored d r) (nodes_stored d (with_node d r l n)) l n
  node_update placed =
      rw (now, nodes_read d r on) (replaced_update (node_array d) (node_laws d) r.nodes block new_node node_fits refl node_at
      (nodes_are_placed d r placed) place)

-- A TABLE WRITTEN

-- its area's record is replaced
pub with_table_is : (d : ℕ) (r : Records) (l : Location) (t : Table) (k : ℕ) → made d ≡ true → table_area_of (device_of d) l.addr ≡ some k →
    with_table d r l t ≡ record { tables = set r.tables k (record { present = true; loc = l; held = t }); nodes = r.nodes }
unfolding with_table
with_table_is d r l t k on e = rw (on, e)

pub table_leaves_nodes : (d : ℕ) (r : Records) (l : Location) (t : Table) → nodes_stored d (with_table d r l t) ≡ nodes_stored d r
unfolding nodes_stored read_node with_table
table_leaves_nodes d r l t = refl

-- the area of a place, for which there is a record
pub table_area : (d : ℕ) (r : Records) → (records_checked d r).form ≡ true → (l : Location) →
    valid_indirection_table_location (device_of d) l ≡ true →
    (k : ℕ) × (table_area_of (device_of d) l.addr ≡ some k) × (k < length r.tables)
table_area d r form l place =
    let (k, e) = (table_laws d).numbered l place in
    (k, e, omega (arith, ((records_form_iff d r).0 form).tables_long, (table_laws d).below l.addr k e))

module _ (d : ℕ) (r : Records) (on : made d ≡ true) (form : (records_checked d r).form ≡ true) (l : Location) (t : Table)
    (place : valid_indirection_table_location (device_of d) l ≡ true) where
  abbrev new_table : Record Table
  new_table = record { present = true; loc = l; held = t }

  abbrev area : ℕ
  area = (table_area d r form l place).0

  table_at : table_area_of (device_of d) l.addr ≡ some area
  table_at = (table_area d r form l place).1

  table_fits : area < length r.tables
  table_fits = (table_area d r form l place).2

  abbrev after : Records
  after = record { tables = set r.tables area new_table; nodes = r.nodes }

  then : tables_stored d (with_table d r l t) ≡ reads (table_array d) (set r.tables area new_table)
  then = ap (tables_stored d) (with_table_is d r l t area on table_at) ∙ tables_read d after on

  upstream_then : upstream_tables d (with_table d r l t) ≡ reads (upstream_array d) (set r.tables area new_table)
  upstream_then = ap (upstream_tables d) (with_table_is d r l t area on table_at) ∙ upstream_read d after on

  pub table_written_lem : tables_stored d (with_table d r l t) l ≡ some t
  table_written_lem = rw then (replaced_same (table_array d) (table_laws d) r.tables area new_table table_fits refl table_at)

  pub table_elsewhere : (k : Location) → (k.addr ≡ l.addr → ⊥) → tables_stored d (with_table d r l t) k ≡ tables_stored d r k
  table_elsewhere k ne =
      rw (then, tables_read d r on) (replaced_elsewhere (table_array d)
      (table_laws d) r.tables area new_table table_fits refl table_at k ne)

  pub table_replaced : (k : Location) → k.addr ≡ l.addr → (k ≡ l → ⊥) → tables_stored d (with_table d r l t) k ≡ none
  table_replaced k e ne = rw then (replaced_away (table_array d) (table_laws d) r.tables area new_table table_fits refl table_at k e ne)

  pub tables_after : tables_stored d (with_table d r l t) ≡ replacing (tables_stored d r) l t
  tables_after =
      replaced_map (tables_stored d r) (tables_stored d (with_table d r l t)) l t table_written_lem table_elsewhere table_replaced

  pub upstream_after : upstream_tables d (with_table d r l t) ≡ replacing (upstream_tables d r) l (indirection_table t)
  unfolding upstream_tables
  upstream_after =
      ap (λ m x. map indirection_table (m x)) tables_after ∙ fun_ext (λ k. mapped (eqb k.addr l.addr) (same_loc k l) (tables_stored d r k))
    where
      mapped : (a b : Bool) (o : Option Table) →
          map indirection_table (cond a (flagged b t) o) ≡ cond a (flagged b (indirection_table t)) (map indirection_table o)
      mapped true true o = refl
      mapped true false o = refl
      mapped false b o = refl

  pub table_update : (records_checked d r).placed ≡ true →
      DiskMapUpdate (upstream_tables d r) (upstream_tables d (with_table d r l t)) l (indirection_table t)
  table_update placed =
      rw (upstream_then, upstream_read d r on)
      (replaced_update (upstream_array d) (upstream_laws d) r.tables area new_table table_fits refl table_at
      (tables_are_placed d r indirection_table placed) place)
