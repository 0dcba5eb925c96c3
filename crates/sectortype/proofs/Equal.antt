-- Two values of the written form are equal where the test says so, and where they are equal as upstream's maps. Assumes nothing.
use Prim.Native.Nat.{◌<◌, ℕ}
use mathlib.Core.Bool.{Bool, ◌||◌, false, true}
use mathlib.Core.Logic.Iff
use mathlib.Core.Logic.{◌↔◌}
use mathlib.Core.Path.{◌∙◌, ◌≡◌, ap, refl, sym}
use native.Mathlib.Omega.{arith}
use borrow.Author.Tests.{eq-eqb}
use lib.Dec.{eqb}
use lib.ListN.{get_or-replicate}
use lib.Seq.{ext_get_or}
use Rattle.base.proofs.Flagged.{flagged_ext}
use Rattle.base.proofs.Scan.{all_at, all_iff, all_of, count_zero_at}
use Rattle.base.proofs.Tests.{and_both, and_iff, and_right, eqb_iff, tests}
use Rattle.base.specs.Scan.{all_below}
use Rattle.disklayout.proofs.Facts.{same_loc_iff}
use Rattle.disklayout.specs.declared.Location.{Location}
use Rattle.disklayout.specs.Calls.{zero_loc}
use Rattle.sectortype.proofs.HighLow.{contents_ext, contents_zero_is, same_contents_iff}
use Rattle.sectortype.proofs.Forms.{empty_table_form, entry_at_form, entry_succs, nodes_of_slots, slot_at_form, succ_unused, succs_iff}
use Rattle.sectortype.proofs.Forms.{table_iff, table_of_entries, zero_succs_form}
use Rattle.sectortype.specs.Abstract.{graph_of, indirection_table, locs_of, nodes_map}
use Rattle.sectortype.specs.Form.{allocated_at, default_entry, empty_table, entry_at, entry_form, loc_zero, node_form, node_zero}
use Rattle.sectortype.specs.Form.{nodes_form, slot_at, slot_form, succ_at, succs_form, succs_zero, table_form, zero_entry, zero_node}
use Rattle.sectortype.specs.Form.{zero_slot, zero_succs}
use Rattle.sectortype.specs.HighLow.{contents_zero}
use Rattle.sectortype.specs.Same.{same_bool, same_entry, same_node, same_succs, same_table}
use Rattle.sectortype.specs.declared.Entry.{Entry}
use Rattle.sectortype.specs.declared.Node.{Node}
use Rattle.sectortype.specs.declared.Nodes.{Nodes}
use Rattle.sectortype.specs.declared.Slot.{Slot}
use Rattle.sectortype.specs.declared.Succs.{Succs}
use Rattle.sectortype.specs.declared.Table.{Table}

-- RECORDS BY THEIR FIELDS

loc_ext : {a b : Location} → a.addr ≡ b.addr → a.len ≡ b.len → a ≡ b
loc_ext p q = λ i. record { addr = p i; len = q i }

node_ext : {a b : Node} → a.contents ≡ b.contents → a.succs ≡ b.succs → a ≡ b
node_ext p q = λ i. record { contents = p i; succs = q i }

entry_ext : {a b : Entry} → a.allocated ≡ b.allocated → a.located ≡ b.located → a.loc ≡ b.loc → a.succs ≡ b.succs → a ≡ b
entry_ext p q r s = λ i. record { allocated = p i; located = q i; loc = r i; succs = s i }

slot_ext : {a b : Slot} → a.present ≡ b.present → a.node ≡ b.node → a ≡ b
slot_ext p q = λ i. record { present = p i; node = q i }

succs_ext : (a b : Succs) → succs_form a ≡ true → succs_form b ≡ true → a.count ≡ b.count → ((k : ℕ) → k < 8 → succ_at a k ≡ succ_at b k) →
    a ≡ b
succs_ext a b f g n h =
    let u = (succs_iff a).0 f in
    let v = (succs_iff b).0 g in
    let p : a.at ≡ b.at = ext_get_or 0 a.at b.at (u.0 ∙ sym v.0) (λ k c. h k (omega (arith, u.0))) in
    λ i. record { count = n i; at = p i }

-- THE TESTS OF EQUALITY

same_bool_iff : (a b : Bool) → (same_bool a b ≡ true) ↔ (a ≡ b)
same_bool_iff true true = ((λ e. refl), (λ e. refl))
same_bool_iff true false = ((λ e. sym e), (λ e. sym e))
same_bool_iff false true = Iff.rfl
same_bool_iff false false = ((λ e. refl), (λ e. refl))

pub same_succs_iff : (a b : Succs) → succs_form a ≡ true → succs_form b ≡ true → (same_succs a b ≡ true) ↔ (a ≡ b)
unfolding same_succs
same_succs_iff a b f g = (
  (λ e. let h = simp (and_iff, eqb_iff, all_iff) at e in succs_ext a b f g h.0 h.1),
  (λ e. rw e (simp (and_iff, eqb_iff, all_iff) (refl, λ k c. refl))),
)

pub same_node_iff : (a b : Node) → node_form a ≡ true → node_form b ≡ true → (same_node a b ≡ true) ↔ (a ≡ b)
same_node_iff a b f g = (
  (λ e. let h = simp (and_iff, same_contents_iff, same_succs_iff, f, g) at e in node_ext h.0 h.1),
  (λ e. simp (and_iff, same_contents_iff, same_succs_iff, f, g) (ap (λ x. x.contents) e, ap (λ x. x.succs) e)),
)

-- two nodes are equal when high, low and list are
pub node_equal_iff : (a b : Node) →
    (a ≡ b) ↔ ((a.contents.high ≡ b.contents.high) × ((a.contents.low ≡ b.contents.low) × (a.succs ≡ b.succs)))
node_equal_iff a b = (
  (λ e. (ap (λ x. x.contents.high) e, (ap (λ x. x.contents.low) e, ap (λ x. x.succs) e))),
  (λ h. node_ext (contents_ext h.0 h.1.0) h.1.1),
)

pub same_entry_iff : (a b : Entry) → entry_form a ≡ true → entry_form b ≡ true → (same_entry a b ≡ true) ↔ (a ≡ b)
same_entry_iff a b f g =
    let u : succs_form a.succs ≡ true = entry_succs a f in
    let v : succs_form b.succs ≡ true = entry_succs b g in (
      (λ e. let h = simp (same_bool_iff, same_loc_iff, same_succs_iff, and_iff) at e in search entry_ext),
      (λ e. simp (same_bool_iff, same_loc_iff, same_succs_iff, and_iff)
          (((ap (λ x. x.allocated) e, ap (λ x. x.located) e), ap (λ x. x.loc) e), ap (λ x. x.succs) e)),
    )

pub same_table_iff : (a b : Table) → table_form a ≡ true → table_form b ≡ true → (same_table a b ≡ true) ↔ (a ≡ b)
unfolding same_table
same_table_iff a b f g = (
  (λ e. let h = (and_iff (eqb a.count b.count) (all_below (λ r. same_entry (entry_at a r) (entry_at b r)) 64)).0 e in
      table_of_entries a b f g (λ r c. (same r c).0 (all_at (λ r. same_entry (entry_at a r) (entry_at b r)) 64 r h.1 c))),
  (λ e. and_both (eq-eqb _ _ (ap (λ x. x.count) e))
      (all_of (λ r. same_entry (entry_at a r) (entry_at b r)) 64 (λ r c. (same r c).1 (ap (λ x. entry_at x r) e)))),
)
  where
    same : (r : ℕ) → r < 64 → (same_entry (entry_at a r) (entry_at b r) ≡ true) ↔ (entry_at a r ≡ entry_at b r)
    same r c = same_entry_iff (entry_at a r) (entry_at b r) (entry_at_form a f r c) (entry_at_form b g r c)

-- WHAT IS ABSENT IS ZEROS

pub loc_zero_is : (l : Location) → loc_zero l ≡ true → l ≡ zero_loc
loc_zero_is l e = let h = simp tests at e in search loc_ext

succs_none : (s : Succs) → s.count ≡ 0 → succs_form s ≡ true → s ≡ zero_succs
succs_none s n f = succs_ext s zero_succs f zero_succs_form n (λ k c. succ_unused s f k c (omega arith) ∙ sym (get_or-replicate 8 k 0 0 c))

pub succs_zero_is : (s : Succs) → succs_zero s ≡ true → s ≡ zero_succs
succs_zero_is s e = let h = simp tests at e in succs_none s h.0 h.1

pub node_zero_is : (n : Node) → node_zero n ≡ true → n ≡ zero_node
node_zero_is n e =
    let h = (and_iff (contents_zero n.contents) (succs_zero n.succs)).0 e in
    node_ext (contents_zero_is n.contents h.0) (succs_zero_is n.succs h.1)

-- a list that is not allocated and a location that is absent
entry_no_succs : (e : Entry) → entry_form e ≡ true → e.allocated ≡ false → e.succs ≡ zero_succs
entry_no_succs e f a = let h = simp tests at f in succs_none e.succs (h.1 a).1 h.0.0

entry_no_loc : (e : Entry) → entry_form e ≡ true → e.located ≡ false → e.loc ≡ zero_loc
entry_no_loc e f l = let h = simp tests at f in loc_ext (h.0.1 l).0 (h.0.1 l).1

pub entry_absent : (e : Entry) → entry_form e ≡ true → e.allocated ≡ false → e ≡ zero_entry
entry_absent e f a = let h = simp tests at f in entry_ext a (h.1 a).0 (entry_no_loc e f (h.1 a).0) (entry_no_succs e f a)

-- a table in which nothing is allocated; an entry that was would count
pub table_zero_is : (t : Table) → table_form t ≡ true → t.count ≡ 0 → t ≡ empty_table
table_zero_is t f z =
    table_of_entries t empty_table f empty_table_form
    (λ r b. entry_absent (entry_at t r) (entry_at_form t f r b) (free r b) ∙ sym (get_or-replicate 64 r zero_entry default_entry b))
  where
    free : (r : ℕ) → r < 64 → (entry_at t r).allocated ≡ false
    free r b = count_zero_at (allocated_at t.entries) 64 r (sym ((table_iff t).0 f).1.0 ∙ z) b

slot_no_node : (s : Slot) → slot_form s ≡ true → s.present ≡ false → s.node ≡ zero_node
slot_no_node s f p = node_zero_is s.node (rw p at (and_right (node_form s.node) (s.present || node_zero s.node) f))

pub slot_absent : (s : Slot) → slot_form s ≡ true → s.present ≡ false → s ≡ zero_slot
slot_absent s f p = slot_ext p (slot_no_node s f p)

-- EQUAL AS UPSTREAM'S MAPS

pub table_ext : (a b : Table) → table_form a ≡ true → table_form b ≡ true → locs_of a ≡ locs_of b → graph_of a ≡ graph_of b → a ≡ b
unfolding locs_of graph_of
table_ext a b f g p q = table_of_entries a b f g same
  where
    same : (r : ℕ) → r < 64 → entry_at a r ≡ entry_at b r
    same r c =
        let u = entry_at_form a f r c in
        let v = entry_at_form b g r c in
        let l = flagged_ext _ _ _ _ zero_loc (entry_no_loc (entry_at a r) u) (entry_no_loc (entry_at b r) v) (ap (λ m. m r) p) in
        let s = flagged_ext _ _ _ _ zero_succs (entry_no_succs (entry_at a r) u) (entry_no_succs (entry_at b r) v) (ap (λ m. m r) q) in
        entry_ext s.0 l.0 l.1 s.1

-- a table in its form is settled by upstream's table
pub table_abstract : (a b : Table) → table_form a ≡ true → table_form b ≡ true → (indirection_table a ≡ indirection_table b) ↔ (a ≡ b)
table_abstract a b f g = ((λ e. table_ext a b f g (ap (λ x. x.locs) e) (ap (λ x. x.graph) e)), ap indirection_table)

pub nodes_ext : (a b : Nodes) → nodes_form a ≡ true → nodes_form b ≡ true → nodes_map a ≡ nodes_map b → a ≡ b
unfolding nodes_map
nodes_ext a b f g p =
    nodes_of_slots a b f g
    (λ r c. let n = flagged_ext _ _ _ _ zero_node (slot_no_node (slot_at a r) (slot_at_form a f r c))
    (slot_no_node (slot_at b r) (slot_at_form b g r c)) (ap (λ m. m r) p) in
    slot_ext n.0 n.1)
