-- What each question about a table and its graph says of upstream's maps. Assumes nothing.
use Prim.Native.Nat.{◌<◌, ℕ}
use mathlib.Core.Bool.{Bool, ◌&&◌, ◌||◌, false, false≢true, not, true}
use mathlib.Core.Logic.{◌↔◌}
use mathlib.Core.Option.{some}
use mathlib.Core.Path.{◌∙◌, ◌≡◌, refl, sym}
use borrow.Author.Tests.{eq-eqb, eqb-false, eqb-true, lt-ltb, ltb-true, ne_eqb}
use lib.Dec.{eqb, ltb}
use Rattle.base.proofs.Scan.{all_at, all_of, first_found, first_passes, none_at, some_at, some_of_none}
use Rattle.base.proofs.Tests.{and_iff, bool_ext, split, tests}
use Rattle.base.specs.Maps.{is_some}
use Rattle.base.specs.Scan.{all_below, first_below}
use Rattle.disklayout.specs.declared.Location.{Location}
use Rattle.sectortype.proofs.Forms.{succ_used}
use Rattle.sectortype.proofs.Maps.{graph_at, graph_bounded, graph_some, in_graph, locs_at, locs_bounded, locs_some}
use Rattle.sectortype.specs.Abstract.{graph_of, locs_of}
use Rattle.sectortype.specs.Form.{entry_at, succ_at, succs_form, table_form}
use Rattle.sectortype.specs.Graph.{distinct_addrs, graph_closed, allocated_in, apart_at, apart_from, closed_at, has_succ, holds_addr}
use Rattle.sectortype.specs.Graph.{located_in, same_set, subset, within}
use Rattle.sectortype.specs.declared.Succs.{Succs}
use Rattle.sectortype.specs.declared.Table.{Table}

-- LISTS

abbrev names_at : Succs → ℕ → ℕ → Bool
names_at s r k = ltb k s.count && eqb (succ_at s k) r

-- a place in use names the reference
pub has_succ_place : (s : Succs) (r : ℕ) → has_succ s r ≡ true → (k : ℕ) × (k < 8) × (k < s.count) × (succ_at s k ≡ r)
unfolding has_succ
has_succ_place s r e =
    let h = first_found (names_at s r) 8 e in
    let p = simp tests at (first_passes (names_at s r) 8 h) in
    (first_below (names_at s r) 8, h, p.0, p.1)

pub has_succ_at : (s : Succs) (k : ℕ) → k < 8 → k < s.count → has_succ s (succ_at s k) ≡ true
unfolding has_succ
has_succ_at s k b c = some_at (names_at s (succ_at s k)) 8 k b (simp tests (c, refl))

abbrev passes_at : Succs → (ℕ → Bool) → ℕ → Bool
passes_at s p k = not (ltb k s.count) || p (succ_at s k)

-- a test of each place in use is a test of each reference in the list
pub each_succ_iff : (s : Succs) (p : ℕ → Bool) → (all_below (passes_at s p) 8 ≡ true) ↔ ((r : ℕ) → has_succ s r ≡ true → p r ≡ true)
each_succ_iff s p = (
  (λ e r h. let d = has_succ_place s r h in rw (lt-ltb d.0 s.count d.2, d.3) at (all_at (passes_at s p) 8 d.0 e d.1)),
  (λ h. all_of (passes_at s p) 8
      (λ k b. split (ltb k s.count) (λ t. rw t (h (succ_at s k) (has_succ_at s k b (ltb-true _ _ t)))) (λ t. rw t))),
)

pub has_succ_bounded : (s : Succs) (r : ℕ) → succs_form s ≡ true → has_succ s r ≡ true → r < 64
has_succ_bounded s r f h = let d = has_succ_place s r h in rw d.3 at (succ_used s f d.0 d.1 d.2)

pub subset_iff : (a b : Succs) → (subset a b ≡ true) ↔ ((r : ℕ) → has_succ a r ≡ true → has_succ b r ≡ true)
unfolding subset
subset_iff a b = each_succ_iff a (has_succ b)

pub same_set_iff : (a b : Succs) → (same_set a b ≡ true) ↔ ((r : ℕ) → has_succ a r ≡ has_succ b r)
same_set_iff a b = (
  (λ e r. let h = simp (and_iff, subset_iff) at e in bool_ext (has_succ a r) (has_succ b r) (h.0 r) (h.1 r)),
  (λ h. simp (and_iff, subset_iff) ((λ r e. sym (h r) ∙ e), (λ r e. h r ∙ e))),
)

-- THE GRAPH

pub within_iff : (t : Table) (s : Succs) → (within t s ≡ true) ↔ ((r : ℕ) → has_succ s r ≡ true → is_some (graph_of t r) ≡ true)
unfolding within
within_iff t s = simp in_graph (each_succ_iff s (allocated_in t))

pub closed_iff : (t : Table) → table_form t ≡ true →
    (graph_closed t ≡ true) ↔ ((r : ℕ) (l : Succs) → graph_of t r ≡ some l → (q : ℕ) → has_succ l q ≡ true → is_some (graph_of t q) ≡ true)
unfolding graph_closed
closed_iff t f = (
  (λ e r l g. let d = graph_some t r g in
      (within_iff t l).0 (rw (d.0, d.1) at (all_at (closed_at t) 64 r e (graph_bounded t f r l g)))),
  (λ h. all_of (closed_at t) 64 (λ r b. split (allocated_in t r)
      (λ a. rw a ((within_iff t (entry_at t r).succs).1 (h r (entry_at t r).succs (graph_at t r a)))) (λ a. rw a))),
)

-- ADDRESSES

abbrev addr_at : Table → ℕ → ℕ → Bool
addr_at t a r = located_in t r && eqb (entry_at t r).loc.addr a

pub holds_addr_iff : (t : Table) → table_form t ≡ true → (a : ℕ) →
    (holds_addr t a ≡ false) ↔ ((r : ℕ) (l : Location) → locs_of t r ≡ some l → l.addr ≡ a → ⊥)
unfolding holds_addr
holds_addr_iff t f a = (
  (λ e r l g. let d = locs_some t r g in eqb-false l.addr a (rw (d.0, d.1) at (none_at (addr_at t a) 64 r e (locs_bounded t f r l g)))),
  (λ h. some_of_none (addr_at t a) 64
      (λ r b. split (located_in t r) (λ y. rw y (ne_eqb _ _ (h r (entry_at t r).loc (locs_at t r y)))) (λ y. rw y))),
)

pub distinct_iff : (t : Table) → table_form t ≡ true →
    (distinct_addrs t ≡ true) ↔ ((r q : ℕ) (l k : Location) → locs_of t r ≡ some l → locs_of t q ≡ some k → l.addr ≡ k.addr → r ≡ q)
unfolding distinct_addrs apart_from
distinct_iff t f = (
  (λ e r q l k g h s. let x = locs_some t r g in let y = locs_some t q h in
      let n = all_at (between r) 64 q (all_at (λ r. all_below (between r) 64) 64 r e (locs_bounded t f r l g)) (locs_bounded t f q k h) in
      split (eqb r q) (eqb-true r q) (λ b. absurd (false≢true (rw (b, x.0, y.0, x.1, y.1, eq-eqb _ _ s) at n)))),
  (λ h. all_of (λ r. all_below (between r) 64) 64 (λ r b. all_of (between r) 64
      (λ q c. simp tests (λ n x s. n (h r q (entry_at t r).loc (entry_at t q).loc (locs_at t r x.0) (locs_at t q x.1) s))))),
)
  where
    between : ℕ → ℕ → Bool
    between r q = apart_at r q (entry_at t r) (entry_at t q)
