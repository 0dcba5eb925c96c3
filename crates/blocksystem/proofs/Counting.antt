-- Reading and counting: what is read through a place is what is stored there; nothing is lost, added or altered exactly where reading and picture agree
-- about each of the 64 references; and about a kept place they agree. Assumes nothing.
use Prim.Native.Nat.{◌<◌, ◌≤◌, ℕ}
use mathlib.Core.Bool.{Bool, ◌&&◌, ◌||◌, false, false≢true, not, true}
use mathlib.Core.Logic.{◌↔◌}
use mathlib.Core.Option.{Option, none, some}
use mathlib.Core.Path.{◌∙◌, ◌≡◌, ap, refl, sym}
use Rattle.base.proofs.Scan.{count_le, count_zero_iff}
use Rattle.base.proofs.Tests.{clash, never, none_iff, split}
use Rattle.base.specs.Maps.{is_some}
use Rattle.base.specs.Scan.{count_below}
use Rattle.blockdisk.proofs.Reading.{node_read_iff, table_read_iff, upstream_some}
use Rattle.blockdisk.specs.Records.{read_table}
use Rattle.blockdisk.specs.Upstream.{Imap, disk_vars, nodes_stored, tables_stored}
use Rattle.blockdisk.specs.declared.DiskState.{DiskState}
use Rattle.blockdisk.specs.declared.Record.{Record}
use Rattle.blockdisk.specs.declared.Records.{Records}
use Rattle.disklayout.specs.declared.Location.{Location}
use Rattle.sectortype.proofs.Equal.{same_node_iff}
use Rattle.sectortype.proofs.Maps.{in_locs, in_nodes, locs_at, nodes_form_at, nodes_some}
use Rattle.sectortype.specs.Abstract.{IndirectionTable, locs_of, nodes_map}
use Rattle.sectortype.specs.Form.{entry_at, nodes_form, slot_at}
use Rattle.sectortype.specs.Same.{same_node}
use Rattle.sectortype.specs.declared.Node.{Node}
use Rattle.sectortype.specs.declared.Slot.{Slot}
use Rattle.sectortype.specs.declared.Table.{Table}
use Rattle.blocksystem.proofs.Invariant.{KeptOn}
use Rattle.blocksystem.specs.Audit.{agrees, at_entry, counted, is_added, is_altered, is_lost, none_counted, on_disk}
use Rattle.blocksystem.specs.Upstream.{at}
use Rattle.blocksystem.specs.declared.Named.{Named}

-- READING

-- what is read by an entry of a table is what upstream's disk has at the reference's location
pub entry_read_iff : (d : ℕ) (r : Records) (t : Table) (k : ℕ) (n : Node) →
    (((at_entry d r (entry_at t k)).present ≡ true) × ((at_entry d r (entry_at t k)).held ≡ n)) ↔
    (at (nodes_stored d r) (locs_of t k) ≡ some n)
entry_read_iff d r t k n =
    split (entry_at t k).located
    (λ e. let h = node_read_iff d r (entry_at t k).loc n in rw (e, locs_at t k e) ((λ x. h.1 x), (λ x. h.0 x)))
    (λ e. rw (e, (none_iff (locs_of t k)).0 (in_locs t k ∙ e)) ((λ x. absurd (false≢true x.0)), (λ x. never x)))

at_some : (nodes : Imap Node) (o : Option Location) {n : Node} → at nodes o ≡ some n → (l : Location) × (o ≡ some l)
at_some nodes none e = never e
at_some nodes (some l) e = (l, refl)

-- the table stored at exactly the place l locates the reference k, and the node n is stored at exactly that location
pub record StoredThrough (d : ℕ) (r : Records) (l : Location) (k : ℕ) (n : Node) : Type 0 where
  pub table : Table
  pub at_place : tables_stored d r l ≡ some table
  pub loc : Location
  pub located : locs_of table k ≡ some loc
  pub at_loc : nodes_stored d r loc ≡ some n

module _ (d : ℕ) (r : Records) (l : Location) (k : ℕ) (n : Node) where
  abbrev table_read : Record Table
  table_read = read_table d r l

  -- reading takes that node, and nothing else
  pub read_iff : (((on_disk d r l k).present ≡ true) × ((on_disk d r l k).held ≡ n)) ↔ StoredThrough d r l k n
  read_iff = (
    (λ h. split table_read.present
        (λ t. let e = (entry_read_iff d r table_read.held k n).0 (rw t at h) in
        let m = at_some (nodes_stored d r) (locs_of table_read.held k) e in
        record {
          table = table_read.held;
          at_place = (table_read_iff d r l table_read.held).1
              (t, refl);
          loc = m.0;
          located = m.1;
          at_loc = rw m.1 at e;
        })
        (λ t. absurd (false≢true (rw t at h.0)))),
    (λ s.
        let a = (table_read_iff d r l s.table).0 s.at_place in
        rw (a.0, a.1) ((entry_read_iff d r s.table k n).1 (rw s.located s.at_loc))),
  )

-- COUNTING

-- lost, added and altered are the three ways not to agree; `x` and `s` say whether disk and picture have a node
three_ways : (x s same : Bool) →
    (((s && not x) ≡ false) × ((x && not s) ≡ false) × ((x && s && not same) ≡ false)) ↔ (((not x && not s) || (x && s && same)) ≡ true)
three_ways false false same = ((λ h. refl), (λ h. (refl, refl, refl)))
three_ways false true same = ((λ h. clash refl h.0), (λ h. clash h refl))
three_ways true false same = ((λ h. clash refl h.1), (λ h. clash h refl))
three_ways true true false = ((λ h. clash refl h.2), (λ h. clash h refl))
three_ways true true true = ((λ h. refl), (λ h. (refl, refl, refl)))

pub agrees_iff : (x : Record Node) (s : Slot) →
    ((is_lost x s ≡ false) × (is_added x s ≡ false) × (is_altered x s ≡ false)) ↔ (agrees x s ≡ true)
agrees_iff x s = three_ways x.present s.present (same_node x.held s.node)

module _ (d : ℕ) (r : Records) (m : Named) where
  abbrev read : ℕ → Record Node
  read = on_disk d r m.place

  abbrev shown : ℕ → Slot
  shown = slot_at m.picture

  -- nothing is counted exactly where reading and picture agree about each of the 64 references
  pub none_counted_iff : (counted d r m ≡ none_counted) ↔ ((k : ℕ) → k < 64 → agrees (on_disk d r m.place k) (slot_at m.picture k) ≡ true)
  unfolding counted
  none_counted_iff = (
    (λ e k b. (at k).0 (lost.0 (ap (λ c. c.lost) e) k b, added.0 (ap (λ c. c.added) e) k b, altered.0 (ap (λ c. c.altered) e) k b)),
    (λ h.
        let a = lost.1 (λ k b. ((at k).1 (h k b)).0) in
        let b = added.1 (λ k b. ((at k).1 (h k b)).1) in
        let c = altered.1 (λ k b. ((at k).1 (h k b)).2) in
        λ i. record { lost = a i; added = b i; altered = c i }),
  )
    where
      at : (k : ℕ) → ((is_lost (read k) (shown k) ≡ false) × (is_added (read k) (shown k) ≡ false)
          × (is_altered (read k) (shown k) ≡ false)) ↔ (agrees (read k) (shown k) ≡ true)
      at k = agrees_iff (read k) (shown k)

      lost : (count_below (λ k. is_lost (read k) (shown k)) 64 ≡ 0) ↔ ((k : ℕ) → k < 64 → is_lost (read k) (shown k) ≡ false)
      lost = count_zero_iff (λ k. is_lost (read k) (shown k)) 64

      added : (count_below (λ k. is_added (read k) (shown k)) 64 ≡ 0) ↔ ((k : ℕ) → k < 64 → is_added (read k) (shown k) ≡ false)
      added = count_zero_iff (λ k. is_added (read k) (shown k)) 64

      altered : (count_below (λ k. is_altered (read k) (shown k)) 64 ≡ 0) ↔ ((k : ℕ) → k < 64 → is_altered (read k) (shown k) ≡ false)
      altered = count_zero_iff (λ k. is_altered (read k) (shown k)) 64

  -- each counts references, of which there are 64
  pub counts_at_most : ((counted d r m).lost ≤ 64) × ((counted d r m).added ≤ 64) × ((counted d r m).altered ≤ 64)
  unfolding counted
  counts_at_most = (
    count_le (λ k. is_lost (read k) (shown k)) 64,
    count_le (λ k. is_added (read k) (shown k)) 64,
    count_le (λ k. is_altered (read k) (shown k)) 64,
  )

-- A KEPT PLACE

module _ (d : ℕ) (s : DiskState) (m : Named) (h : KeptOn d (disk_vars d s) m.place (nodes_map m.picture))
    (form : nodes_form m.picture ≡ true) where
  abbrev stored : Table
  stored = (upstream_some d s.records m.place h.stored).0

  at_place : tables_stored d s.records m.place ≡ some stored
  at_place = (upstream_some d s.records m.place h.stored).1

  locs_are : locs_of stored ≡ h.table.locs
  locs_are = ap (λ (t : IndirectionTable). t.locs) (upstream_some d s.records m.place h.stored).2

  -- a located reference is read with the picture's node
  there : (k : ℕ) → (entry_at stored k).located ≡ true → agrees (on_disk d s.records m.place k) (slot_at m.picture k) ≡ true
  there k e =
      let l = locs_at stored k e in
      let z = h.located k (entry_at stored k).loc (rw locs_are at l) in
      let x = (read_iff d s.records m.place k z.node).1
      (record { table = stored; at_place = at_place; loc = (entry_at stored k).loc; located = l; at_loc = z.stored }) in
      let p = nodes_some m.picture k z.pictured in
      let f = nodes_form_at m.picture form k z.node z.pictured in
      rw (x.0, x.1, p.0, p.1) ((same_node_iff z.node z.node f f).1 refl)

  -- any other is neither on the disk nor in the picture
  absent : (k : ℕ) → (entry_at stored k).located ≡ false → agrees (on_disk d s.records m.place k) (slot_at m.picture k) ≡ true
  absent k e =
      let t = (table_read_iff d s.records m.place stored).0 at_place in
      let g : h.table.locs k ≡ none = rw locs_are at ((none_iff (locs_of stored k)).0 (in_locs stored k ∙ e)) in
      let z : (slot_at m.picture k).present ≡ false = sym (in_nodes m.picture k) ∙ ap is_some (h.no_more k g) in
      rw (t.0, t.1, e, z)

  pub none_counted_lem : counted d s.records m ≡ none_counted
  none_counted_lem = (none_counted_iff d s.records m).1 (λ k b. split (entry_at stored k).located (there k) (absent k))
