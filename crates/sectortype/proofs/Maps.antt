-- A table and a map of nodes as upstream's maps: their bounds, and what setting a place does to them. Assumes nothing.
use Prim.Native.Nat.{◌<◌, ◌≤◌, ℕ}
use mathlib.Core.Bool.{Bool, false, true}
use mathlib.Core.List.{List}
use mathlib.Core.Option.{none, some}
use mathlib.Core.Path.{◌∙◌, ◌≡◌, fun_ext, refl}
use native.Mathlib.Omega.{arith}
use borrow.Author.Tests.{eqb-true, ltb-false, ltb-true}
use lib.Dec.{eqb, ltb}
use lib.ListN.{get_or-eq_default, get_or, get_or-replicate, length, length-replicate, replicate, set}
use Rattle.base.proofs.Maps.{flagged_is_some, flagged_some}
use Rattle.base.proofs.Tests.{and_left, clash, split}
use Rattle.base.specs.Maps.{Map, del, empty, flagged, is_some, put}
use Rattle.disklayout.specs.declared.Location.{Location}
use Rattle.sectortype.proofs.Forms.{entry_at_form, entry_at_length, entry_succs, is_allocated, is_present, slot_at_form, slot_at_length}
use Rattle.sectortype.proofs.Rows.{set_at_place}
use Rattle.sectortype.specs.Abstract.{graph_of, locs_of, nodes_map}
use Rattle.sectortype.specs.Form.{empty_nodes, empty_table, entry_at, default_entry, default_slot, node_form, nodes_form, slot_at}
use Rattle.sectortype.specs.Form.{succs_form, table_form, with_entry, with_slot, zero_entry, zero_slot}
use Rattle.sectortype.specs.declared.Entry.{Entry}
use Rattle.sectortype.specs.declared.Node.{Node}
use Rattle.sectortype.specs.declared.Nodes.{Nodes}
use Rattle.sectortype.specs.declared.Slot.{Slot}
use Rattle.sectortype.specs.declared.Succs.{Succs}
use Rattle.sectortype.specs.declared.Table.{Table}

-- ANY MAP READ FROM A LIST: at each place a flag and a thing, so that the laws of locations, lists and nodes are one

module _ {A B : Type 0} (flag : A → Bool) (thing : A → B) (z : A) where
  abbrev map_of : List A → Map B
  map_of l = λ r. flagged (flag (get_or l r z)) (thing (get_or l r z))

  map_bounded : (l : List A) → length l ≡ 64 → flag z ≡ false → (r : ℕ) {v : B} → map_of l r ≡ some v → r < 64
  map_bounded l n f r e =
      split (ltb r 64) (ltb-true r 64)
      (λ b. let a : 64 ≤ r = ltb-false r 64 b in let d : length l ≤ r = omega arith in
      clash (flagged_some (flag (get_or l r z)) _ e).0 (rw (get_or-eq_default l z d) f))

  map_empty : (w : A) → flag w ≡ false → flag z ≡ false → map_of (replicate 64 w) ≡ empty
  map_empty w f g =
      fun_ext
      (λ r. split (ltb r 64) (λ b. rw (get_or-replicate 64 r w z (ltb-true r 64 b), f))
      (λ b. let d : length (replicate 64 w) ≤ r = rw (length-replicate 64 w) (ltb-false r 64 b) in
      rw (get_or-eq_default (replicate 64 w) z d, g)))

  module _ (l : List A) (r : ℕ) (e : A) (n : length l ≡ 64) (b : r < 64) where
    map_put : flag e ≡ true → map_of (set l r e) ≡ put (map_of l) r (thing e)
    unfolding put
    map_put f = fun_ext (λ j. rw (set_at_place l r e z j (omega arith)) (split (eqb j r) (λ t. rw (t, f)) (λ t. rw t)))

    map_del : flag e ≡ false → map_of (set l r e) ≡ del (map_of l) r
    unfolding del
    map_del f = fun_ext (λ j. rw (set_at_place l r e z j (omega arith)) (split (eqb j r) (λ t. rw (t, f)) (λ t. rw t)))

-- a place is set to what it holds
put_id : {A : Type 0} (m : Map A) (k : ℕ) (v : A) → m k ≡ some v → put m k v ≡ m
unfolding put
put_id m k v e = fun_ext (λ j. split (eqb j k) (λ t. let q : j ≡ k = eqb-true j k t in cc) (λ t. rw t))

del_id : {A : Type 0} (m : Map A) (k : ℕ) → m k ≡ none → del m k ≡ m
unfolding del
del_id m k e = fun_ext (λ j. split (eqb j k) (λ t. let q : j ≡ k = eqb-true j k t in cc) (λ t. rw t))

-- THE PARTS OF A ROW

abbrev is_located : Entry → Bool
is_located e = e.located

abbrev entry_loc : Entry → Location
entry_loc e = e.loc

abbrev entry_list : Entry → Succs
entry_list e = e.succs

abbrev slot_node : Slot → Node
slot_node s = s.node

-- A LOOKUP AND THE PLACE IT READS

pub in_graph : (t : Table) (r : ℕ) → is_some (graph_of t r) ≡ (entry_at t r).allocated
unfolding graph_of
in_graph t r = flagged_is_some (entry_at t r).allocated (entry_at t r).succs

pub in_locs : (t : Table) (r : ℕ) → is_some (locs_of t r) ≡ (entry_at t r).located
unfolding locs_of
in_locs t r = flagged_is_some (entry_at t r).located (entry_at t r).loc

pub in_nodes : (m : Nodes) (r : ℕ) → is_some (nodes_map m r) ≡ (slot_at m r).present
unfolding nodes_map
in_nodes m r = flagged_is_some (slot_at m r).present (slot_at m r).node

pub graph_at : (t : Table) (r : ℕ) → (entry_at t r).allocated ≡ true → graph_of t r ≡ some (entry_at t r).succs
unfolding graph_of
graph_at t r a = rw a

pub locs_at : (t : Table) (r : ℕ) → (entry_at t r).located ≡ true → locs_of t r ≡ some (entry_at t r).loc
unfolding locs_of
locs_at t r a = rw a

pub graph_some : (t : Table) (r : ℕ) {l : Succs} → graph_of t r ≡ some l → ((entry_at t r).allocated ≡ true) × ((entry_at t r).succs ≡ l)
unfolding graph_of
graph_some t r e = flagged_some (entry_at t r).allocated (entry_at t r).succs e

pub locs_some : (t : Table) (r : ℕ) {l : Location} → locs_of t r ≡ some l → ((entry_at t r).located ≡ true) × ((entry_at t r).loc ≡ l)
unfolding locs_of
locs_some t r e = flagged_some (entry_at t r).located (entry_at t r).loc e

pub nodes_at : (m : Nodes) (r : ℕ) → (slot_at m r).present ≡ true → nodes_map m r ≡ some (slot_at m r).node
unfolding nodes_map
nodes_at m r a = rw a

pub nodes_some : (m : Nodes) (r : ℕ) {n : Node} → nodes_map m r ≡ some n → ((slot_at m r).present ≡ true) × ((slot_at m r).node ≡ n)
unfolding nodes_map
nodes_some m r e = flagged_some (slot_at m r).present (slot_at m r).node e

pub graph_bounded : (t : Table) → table_form t ≡ true → (r : ℕ) (l : Succs) → graph_of t r ≡ some l → r < 64
unfolding graph_of
graph_bounded t f r l e = map_bounded is_allocated entry_list default_entry t.entries (entry_at_length t f) refl r e

pub locs_bounded : (t : Table) → table_form t ≡ true → (r : ℕ) (l : Location) → locs_of t r ≡ some l → r < 64
unfolding locs_of
locs_bounded t f r l e = map_bounded is_located entry_loc default_entry t.entries (entry_at_length t f) refl r e

pub nodes_bounded : (m : Nodes) → nodes_form m ≡ true → (r : ℕ) (n : Node) → nodes_map m r ≡ some n → r < 64
unfolding nodes_map
nodes_bounded m f r n e = map_bounded is_present slot_node default_slot m.slots (slot_at_length m f) refl r e

pub graph_form : (t : Table) → table_form t ≡ true → (r : ℕ) (l : Succs) → graph_of t r ≡ some l → succs_form l ≡ true
graph_form t f r l e = rw (graph_some t r e).1 at (entry_succs (entry_at t r) (entry_at_form t f r (graph_bounded t f r l e)))

pub nodes_form_at : (m : Nodes) → nodes_form m ≡ true → (r : ℕ) (n : Node) → nodes_map m r ≡ some n → node_form n ≡ true
nodes_form_at m f r n e =
    let h = and_left (node_form (slot_at m r).node) _ (slot_at_form m f r (nodes_bounded m f r n e)) in rw (nodes_some m r e).1 at h

-- AN ENTRY SET

module _ (t : Table) (r : ℕ) (e : Entry) (f : table_form t ≡ true) (b : r < 64) where
  pub graph_put : e.allocated ≡ true → graph_of (with_entry t r e) ≡ put (graph_of t) r e.succs
  unfolding graph_of with_entry
  graph_put a = map_put is_allocated entry_list default_entry t.entries r e (entry_at_length t f) b a

  pub graph_del : e.allocated ≡ false → graph_of (with_entry t r e) ≡ del (graph_of t) r
  unfolding graph_of with_entry
  graph_del a = map_del is_allocated entry_list default_entry t.entries r e (entry_at_length t f) b a

  pub locs_put : e.located ≡ true → locs_of (with_entry t r e) ≡ put (locs_of t) r e.loc
  unfolding locs_of with_entry
  locs_put a = map_put is_located entry_loc default_entry t.entries r e (entry_at_length t f) b a

  pub locs_del : e.located ≡ false → locs_of (with_entry t r e) ≡ del (locs_of t) r
  unfolding locs_of with_entry
  locs_del a = map_del is_located entry_loc default_entry t.entries r e (entry_at_length t f) b a

  -- the list that is there
  pub graph_same : e.allocated ≡ true → graph_of t r ≡ some e.succs → graph_of (with_entry t r e) ≡ graph_of t
  graph_same a g = graph_put a ∙ put_id (graph_of t) r e.succs g

  -- no location where there is none
  pub locs_same : e.located ≡ false → locs_of t r ≡ none → locs_of (with_entry t r e) ≡ locs_of t
  locs_same a g = locs_del a ∙ del_id (locs_of t) r g

-- A SLOT SET

module _ (m : Nodes) (r : ℕ) (s : Slot) (f : nodes_form m ≡ true) (b : r < 64) where
  pub nodes_put : s.present ≡ true → nodes_map (with_slot m r s) ≡ put (nodes_map m) r s.node
  unfolding nodes_map with_slot
  nodes_put a = map_put is_present slot_node default_slot m.slots r s (slot_at_length m f) b a

  pub nodes_del : s.present ≡ false → nodes_map (with_slot m r s) ≡ del (nodes_map m) r
  unfolding nodes_map with_slot
  nodes_del a = map_del is_present slot_node default_slot m.slots r s (slot_at_length m f) b a

-- NOTHING THERE

pub empty_graph : graph_of empty_table ≡ empty
unfolding graph_of
empty_graph = map_empty is_allocated entry_list default_entry zero_entry refl refl

pub empty_locs : locs_of empty_table ≡ empty
unfolding locs_of
empty_locs = map_empty is_located entry_loc default_entry zero_entry refl refl

pub empty_nodes_lem : nodes_map empty_nodes ≡ empty
unfolding nodes_map
empty_nodes_lem = map_empty is_present slot_node default_slot zero_slot refl refl
