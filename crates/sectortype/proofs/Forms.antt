-- What the written forms say, place by place, and that setting a place keeps them. Assumes nothing.
use Prim.Native.Nat.{◌<◌, ◌≤◌, ℕ}
use mathlib.Core.Bool.{Bool, and-true, cond, false≢true, or-false, true}
use mathlib.Core.Logic.Iff
use mathlib.Core.Logic.{◌↔◌}
use mathlib.Core.Path.{◌≡◌, refl}
use native.Mathlib.Omega.{arith}
use borrow.Author.Tests.{eq-eqb, eqb-true, le-ltb, leb-true, lt-ltb, ltb-false, ltb-true}
use lib.Dec.{eqb, leb, ltb}
use lib.ListN.{get_or-eq_default, length}
use Rattle.base.proofs.Scan.{all_at, all_iff, all_of}
use Rattle.base.proofs.Tests.{and_both, and_iff, clash, eqb_iff, leb_iff, split, tests}
use Rattle.base.specs.Scan.{all_below, count_below}
use Rattle.sectortype.proofs.HighLow.{zero_contents_zero}
use Rattle.sectortype.proofs.Rows.{rows_blank, rows_ext, rows_iff, rows_set, set_at_place}
use Rattle.sectortype.specs.Form.{allocated_at, empty_nodes, empty_table, entry_at, entry_form, default_entry, default_slot, node_form}
use Rattle.sectortype.specs.Form.{node_zero, nodes_form, places_zero, present_at, slot_at, slot_form, succ_at, succ_ok, succs_form}
use Rattle.sectortype.specs.Form.{table_form, with_entry, with_slot, zero_entry, zero_node, zero_slot, zero_succs}
use Rattle.sectortype.specs.declared.Entry.{Entry}
use Rattle.sectortype.specs.declared.Nodes.{Nodes}
use Rattle.sectortype.specs.declared.Slot.{Slot}
use Rattle.sectortype.specs.declared.Succs.{Succs}
use Rattle.sectortype.specs.declared.Table.{Table}

-- the flags that a count counts
abbrev pub is_allocated : Entry → Bool
is_allocated e = e.allocated

abbrev pub is_present : Slot → Bool
is_present s = s.present

-- LISTS OF REFERENCES

pub succs_iff : (s : Succs) →
    (succs_form s ≡ true) ↔ ((length s.at ≡ 8) × ((s.count ≤ 8) × ((k : ℕ) → k < 8 → succ_ok s.count k (succ_at s k) ≡ true)))
unfolding succs_form
succs_iff s = simp (and_iff, eqb_iff, leb_iff, all_iff) Iff.rfl

-- a place in use names one of the 64 references
pub succ_used : (s : Succs) → succs_form s ≡ true → (k : ℕ) → k < 8 → k < s.count → succ_at s k < 64
succ_used s f k b c =
    let e = rw (lt-ltb k s.count c) at (((succs_iff s).0 f).1.1 k b) in omega (arith, leb-true (succ_at s k) 63 (simp or-false at e))

-- a place past the count is 0
pub succ_unused : (s : Succs) → succs_form s ≡ true → (k : ℕ) → k < 8 → s.count ≤ k → succ_at s k ≡ 0
succ_unused s f k b c = eqb-true _ _ (rw (le-ltb k s.count c) at (((succs_iff s).0 f).1.1 k b))

-- a place that holds 0 is good, in use or not
pub zero_ok : (n k r : ℕ) → eqb r 0 ≡ true → succ_ok n k r ≡ true
zero_ok n k r e = rw (eqb-true r 0 e) (split (ltb k n) (λ t. simp t) (λ t. simp t))

-- of a list of zeros only the count is judged
pub zeros_form : (s : Succs) → length s.at ≡ 8 → places_zero s ≡ true → leb s.count 8 ≡ succs_form s
unfolding places_zero succs_form
zeros_form s l e =
    let all : all_below (λ k. succ_ok s.count k (succ_at s k)) 8 ≡ true = all_of _ 8
    (λ k b. zero_ok s.count k (succ_at s k) (all_at (λ j. eqb (succ_at s j) 0) 8 k e b)) in
    simp (eq-eqb _ _ l, all, and-true)

pub zero_succs_form : succs_form zero_succs ≡ true
unfolding succs_form all_below
zero_succs_form = refl

pub zero_node_form : node_form zero_node ≡ true
zero_node_form = zero_succs_form

pub zero_node_zero : node_zero zero_node ≡ true
zero_node_zero = and_both zero_contents_zero zero_succs_form

pub zero_entry_form : entry_form zero_entry ≡ true
zero_entry_form = rw zero_succs_form

pub zero_slot_form : slot_form zero_slot ≡ true
zero_slot_form = and_both zero_node_form zero_node_zero

-- TABLES

pub table_iff : (t : Table) →
    (table_form t ≡ true) ↔ ((length t.entries ≡ 64)
    × ((t.count ≡ count_below (allocated_at t.entries) 64) × ((r : ℕ) → r < 64 → entry_form (entry_at t r) ≡ true)))
unfolding table_form
table_iff t = rows_iff is_allocated entry_form default_entry t.count t.entries

pub entry_at_length : (t : Table) → table_form t ≡ true → length t.entries ≡ 64
entry_at_length t f = ((table_iff t).0 f).0

pub entry_at_form : (t : Table) → table_form t ≡ true → (r : ℕ) → r < 64 → entry_form (entry_at t r) ≡ true
entry_at_form t f = ((table_iff t).0 f).1.1

-- past the last reference nothing is allocated
pub entry_past : (t : Table) → table_form t ≡ true → (r : ℕ) → 64 ≤ r → entry_at t r ≡ default_entry
entry_past t f r b = get_or-eq_default t.entries default_entry (omega (arith, entry_at_length t f))

pub entry_succs : (e : Entry) → entry_form e ≡ true → succs_form e.succs ≡ true
entry_succs e f = let h = simp and_iff at f in h.0.0

pub entry_located : (e : Entry) → entry_form e ≡ true → e.located ≡ true → e.allocated ≡ true
entry_located e f l = let h = simp tests at f in split e.allocated (λ t. t) (λ t. clash l (h.1 t).0)

pub located_allocated : (t : Table) → table_form t ≡ true → (r : ℕ) → (entry_at t r).located ≡ true → (entry_at t r).allocated ≡ true
located_allocated t f r l =
    split (ltb r 64) (λ b. entry_located (entry_at t r) (entry_at_form t f r (ltb-true r 64 b)) l)
    (λ b. absurd (false≢true (rw (entry_past t f r (ltb-false r 64 b)) at l)))

pub entry_with_lem : (t : Table) (r : ℕ) (e : Entry) (j : ℕ) → table_form t ≡ true → r < 64 →
    entry_at (with_entry t r e) j ≡ cond (eqb j r) e (entry_at t j)
unfolding with_entry
entry_with_lem t r e j f b = set_at_place t.entries r e default_entry j (omega (arith, entry_at_length t f))

pub with_entry_form : (t : Table) (r : ℕ) (e : Entry) → table_form t ≡ true → r < 64 → entry_form e ≡ true →
    table_form (with_entry t r e) ≡ true
unfolding table_form with_entry
with_entry_form t r e f b g = rows_set is_allocated entry_form default_entry t.count r t.entries e f b g

-- a table is its entries
pub table_of_entries : (a b : Table) → table_form a ≡ true → table_form b ≡ true → ((r : ℕ) → r < 64 → entry_at a r ≡ entry_at b r) → a ≡ b
unfolding table_form
table_of_entries a b f g h =
    let p = rows_ext is_allocated entry_form default_entry a.count b.count a.entries b.entries f g h in
    λ i. record { count = p.0 i; entries = p.1 i }

pub empty_table_form : table_form empty_table ≡ true
unfolding table_form
empty_table_form = rows_blank is_allocated entry_form default_entry zero_entry zero_entry_form refl

-- MAPS OF NODES

pub nodes_iff : (m : Nodes) →
    (nodes_form m ≡ true) ↔ ((length m.slots ≡ 64)
    × ((m.count ≡ count_below (present_at m.slots) 64) × ((r : ℕ) → r < 64 → slot_form (slot_at m r) ≡ true)))
unfolding nodes_form
nodes_iff m = rows_iff is_present slot_form default_slot m.count m.slots

pub slot_at_length : (m : Nodes) → nodes_form m ≡ true → length m.slots ≡ 64
slot_at_length m f = ((nodes_iff m).0 f).0

pub slot_at_form : (m : Nodes) → nodes_form m ≡ true → (r : ℕ) → r < 64 → slot_form (slot_at m r) ≡ true
slot_at_form m f = ((nodes_iff m).0 f).1.1

pub slot_with : (m : Nodes) (r : ℕ) (s : Slot) (j : ℕ) → nodes_form m ≡ true → r < 64 →
    slot_at (with_slot m r s) j ≡ cond (eqb j r) s (slot_at m j)
unfolding with_slot
slot_with m r s j f b = set_at_place m.slots r s default_slot j (omega (arith, slot_at_length m f))

pub with_slot_form : (m : Nodes) (r : ℕ) (s : Slot) → nodes_form m ≡ true → r < 64 → slot_form s ≡ true →
    nodes_form (with_slot m r s) ≡ true
unfolding nodes_form with_slot
with_slot_form m r s f b g = rows_set is_present slot_form default_slot m.count r m.slots s f b g

pub nodes_of_slots : (a b : Nodes) → nodes_form a ≡ true → nodes_form b ≡ true → ((r : ℕ) → r < 64 → slot_at a r ≡ slot_at b r) → a ≡ b
unfolding nodes_form
nodes_of_slots a b f g h =
    let p = rows_ext is_present slot_form default_slot a.count b.count a.slots b.slots f g h in λ i. record { count = p.0 i; slots = p.1 i }

pub empty_nodes_form : nodes_form empty_nodes ≡ true
unfolding nodes_form
empty_nodes_form = rows_blank is_present slot_form default_slot zero_slot zero_slot_form refl
