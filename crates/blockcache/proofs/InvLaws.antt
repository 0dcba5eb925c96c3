-- Laws that upstream's Inv stands on: a reference that is given a location, and states by their parts. Assumes nothing.
use Prim.Native.Nat.{ℕ}
use mathlib.Core.Bool.{Bool, ◌&&◌, not, true}
use mathlib.Core.Logic.{◌⊎◌, inl, inr, ⊎_elim}
use mathlib.Core.Option.{none, some}
use mathlib.Core.Path.{◌∙◌, ◌≡◌, ap, refl, sym}
use Rattle.base.proofs.Maps.{in_of, not_both, put_other, put_some, some_of}
use Rattle.base.proofs.Tests.{and_iff, bool_ext, none_iff, not_true_iff, split}
use Rattle.base.specs.Maps.{Map, is_some, put}
use Rattle.blockcache.specs.Upstream.{AllLocationsForDifferentRefsDontOverlap, In, NoAddr, OutstandingWrite, Ready}
use Rattle.blockcache.specs.Upstream.{WFCompleteIndirectionTable, WFIndirectionTable, assign_ref_to_location}
use Rattle.blockcache.specs.UpstreamInv.{IndirectionTableCacheConsistent, OverlappingWritesEqForIndirectionTable}
use Rattle.disklayout.specs.Device.{device_of}
use Rattle.disklayout.specs.Layout.{valid_node_location}
use Rattle.disklayout.specs.declared.Location.{Location}
use Rattle.sectortype.specs.Abstract.{IndirectionTable}
use Rattle.sectortype.specs.declared.Node.{Node}

-- A LOCATION GIVEN

module _ (t : IndirectionTable) (r : ℕ) (l : Location) where
  abbrev t' : IndirectionTable
  t' = assign_ref_to_location t r l

  -- the reference is in the graph, without a location
  abbrev lacks : Bool
  lacks = is_some (t.graph r) && not (is_some (t.locs r))

  lacking : lacks ≡ true → In r t.graph × (t.locs r ≡ none)
  lacking y =
      let h = (and_iff (is_some (t.graph r)) (not (is_some (t.locs r)))).0 y in
      (h.0, (none_iff (t.locs r)).0 ((not_true_iff (is_some (t.locs r))).0 h.1))

  -- a location of the table after it: one from before, or the one given
  pub assign_some : (j : ℕ) (k : Location) → t'.locs j ≡ some k →
      (t.locs j ≡ some k) ⊎ ((j ≡ r) × (l ≡ k) × In r t.graph × (t.locs r ≡ none))
  unfolding assign_ref_to_location
  assign_some j k e =
      split lacks (λ y. let h = lacking y in ⊎_elim (λ x. inr (x.0, x.1, h.0, h.1)) (λ x. inl x.1) (put_some t.locs r l j (rw y at e)))
      (λ y. inl (rw y at e))

  -- what had a location keeps it
  pub assign_kept : (j : ℕ) → In j t.locs → t'.locs j ≡ t.locs j
  unfolding assign_ref_to_location
  assign_kept j i = split lacks (λ y. rw y (put_other t.locs r l j (λ q. not_both t.locs r (rw q at i) (lacking y).1))) (λ y. rw y)

  pub assign_in : (j : ℕ) → In j t.locs → In j t'.locs
  assign_in j i = rw (assign_kept j i) i

  pub assign_none : (j : ℕ) → t'.locs j ≡ none → t.locs j ≡ none
  assign_none j e = (none_iff (t.locs j)).0 (split (is_some (t.locs j)) (λ i. not_both t'.locs j (assign_in j i) e) (λ y. y))

  -- a table that has all its locations stays as it is
  pub assign_full : ((k : ℕ) → is_some (t.graph k) ≡ is_some (t.locs k)) → t' ≡ t
  unfolding assign_ref_to_location
  assign_full h = split lacks (λ y. let m = lacking y in not_both t.locs r (sym (h r) ∙ m.0) m.1) (λ y. rw y)

  pub assign_graph : t'.graph ≡ t.graph
  unfolding assign_ref_to_location
  assign_graph = refl

  pub assign_wf : (d : ℕ) → valid_node_location (device_of d) l ≡ true → WFIndirectionTable d t → WFIndirectionTable d t'
  unfolding assign_ref_to_location
  assign_wf d ok w =
      record {
        valid = λ j k e. ⊎_elim (λ h. w.valid j k h) (λ h. rw h.1 at ok) (assign_some j k e);
        keys = λ j i. let a = some_of t'.locs j i in ⊎_elim (λ h. w.keys j (in_of t.locs j h)) (λ h. rw h.0 h.2) (assign_some j a.0 a.1);
        root = w.root;
        graph_closed = w.graph_closed;
      }

  pub assign_complete : (d : ℕ) → valid_node_location (device_of d) l ≡ true → WFCompleteIndirectionTable d t →
      WFCompleteIndirectionTable d t'
  unfolding assign_ref_to_location
  assign_complete d ok w =
      record {
        valid = λ j k e. ⊎_elim (λ h. w.valid j k h) (λ h. rw h.1 at ok) (assign_some j k e);
        keys = λ j. bool_ext (is_some (t.graph j)) (is_some (t'.locs j)) (λ i. assign_in j (sym (w.keys j) ∙ i))
            (λ i. let a = some_of t'.locs j i in ⊎_elim (λ h. w.keys j ∙ in_of t.locs j h) (λ h. rw h.0 h.2) (assign_some j a.0 a.1));
        root = w.root;
        graph_closed = w.graph_closed;
      }

  pub assign_consistent : (cache : Map Node) → IndirectionTableCacheConsistent t cache → IndirectionTableCacheConsistent t' cache
  unfolding assign_ref_to_location
  assign_consistent cache h j i = ⊎_elim (λ x. inl x) (λ x. inr (assign_in j x)) (h j i)

  -- a fresh address
  pub assign_distinct : NoAddr t.locs l.addr → AllLocationsForDifferentRefsDontOverlap t → AllLocationsForDifferentRefsDontOverlap t'
  assign_distinct free h r1 r2 l1 l2 e1 e2 s =
      ⊎_elim
      (λ x. ⊎_elim (λ y. h r1 r2 l1 l2 x y s) (λ y. absurd (free r1 l1 x (s ∙ ap (λ z. z.addr) (sym y.1)))) (assign_some r2 l2 e2))
      (λ x. ⊎_elim (λ y. absurd (free r2 l2 y (sym s ∙ ap (λ z. z.addr) (sym x.1)))) (λ y. x.0 ∙ sym y.0) (assign_some r2 l2 e2))
      (assign_some r1 l1 e1)

  -- one write more, of this very location
  pub assign_overlapping : (writes : Map OutstandingWrite) (id : ℕ) → NoAddr t.locs l.addr →
      ((i : ℕ) (w : OutstandingWrite) → writes i ≡ some w → w.loc.addr ≡ l.addr → ⊥) →
      OverlappingWritesEqForIndirectionTable writes t →
      OverlappingWritesEqForIndirectionTable (put writes id (record { ref = r; loc = l })) t'
  assign_overlapping writes id free apart h j k e i w m s =
      let new : OutstandingWrite = record { ref = r; loc = l } in
      ⊎_elim
      (λ x. ⊎_elim (λ y. absurd (free j k x (s ∙ ap (λ (z : OutstandingWrite). z.loc.addr) (sym y.1)))) (λ y. h j k x i w y.1 s)
      (put_some writes id new i m))
      (λ x. ⊎_elim (λ y. sym x.1 ∙ ap (λ (z : OutstandingWrite). z.loc) y.1)
      (λ y. absurd (apart i w y.1 (sym s ∙ ap (λ z. z.addr) (sym x.1)))) (put_some writes id new i m))
      (assign_some j k e)

-- a write more, of an address that the table doesn't have
pub overlapping_put : (t : IndirectionTable) (writes : Map OutstandingWrite) (id : ℕ) (w : OutstandingWrite) → NoAddr t.locs w.loc.addr →
    OverlappingWritesEqForIndirectionTable writes t → OverlappingWritesEqForIndirectionTable (put writes id w) t
overlapping_put t writes id w free h j k e i x m s =
    ⊎_elim (λ y. absurd (free j k e (s ∙ ap (λ (z : OutstandingWrite). z.loc.addr) (sym y.1)))) (λ y. h j k e i x y.1 s)
    (put_some writes id w i m)

-- STATES BY THEIR PARTS

pub table_is : {t u : IndirectionTable} → t.locs ≡ u.locs → t.graph ≡ u.graph → t ≡ u
table_is p g = λ i. record { locs = p i; graph = g i }

pub ready_ext : {s t : Ready} → s.persistent_indirection_table ≡ t.persistent_indirection_table →
    s.frozen_indirection_table ≡ t.frozen_indirection_table →
    s.ephemeral_indirection_table ≡ t.ephemeral_indirection_table →
    s.persistent_indirection_table_loc ≡ t.persistent_indirection_table_loc →
    s.frozen_indirection_table_loc ≡ t.frozen_indirection_table_loc →
    s.outstanding_indirection_table_write ≡ t.outstanding_indirection_table_write →
    s.outstanding_block_writes ≡ t.outstanding_block_writes → s.outstanding_block_reads ≡ t.outstanding_block_reads → s.cache ≡ t.cache →
    s ≡ t
ready_ext a b c d e f g h k =
    λ i. record {
      persistent_indirection_table = a i;
      frozen_indirection_table = b i;
      ephemeral_indirection_table = c i;
      persistent_indirection_table_loc = d i;
      frozen_indirection_table_loc = e i;
      outstanding_indirection_table_write = f i;
      outstanding_block_writes = g i;
      outstanding_block_reads = h i;
      cache = k i;
    }

-- s.(ephemeral_indirection_table := t).(cache := m)
abbrev pub set_ephemeral : Ready → IndirectionTable → Map Node → Ready
set_ephemeral s t m =
    record {
      persistent_indirection_table = s.persistent_indirection_table;
      frozen_indirection_table = s.frozen_indirection_table;
      ephemeral_indirection_table = t;
      persistent_indirection_table_loc = s.persistent_indirection_table_loc;
      frozen_indirection_table_loc = s.frozen_indirection_table_loc;
      outstanding_indirection_table_write = s.outstanding_indirection_table_write;
      outstanding_block_writes = s.outstanding_block_writes;
      outstanding_block_reads = s.outstanding_block_reads;
      cache = m;
    }
