-- What each test of a place says: one law each, `(test ≡ true) ↔ facts`. Assumes nothing.
use mathlib.Core.Path.{◌≡◌, refl}
use mathlib.Core.Bool.{Bool, true, false, ◌&&◌, and_comm}
use mathlib.Core.Logic.{◌⊎◌, inl, inr, ⊎_elim, ◌↔◌}
use Prim.Native.Nat.{ℕ, ◌+◌, ◌-◌, ◌*◌, ◌/◌, ◌%◌, ◌^◌, ◌<◌, ◌≤◌}
use native.Mathlib.Nat.{div-lt_iff_lt-mul}
use native.Mathlib.Omega.{arith}
use lib.Dec.{eqb, leb, ltb}
use borrow.Author.Tests.{eqb-true, eq-eqb}
use Rattle.base.proofs.Tests.{tests, or_cases, or_inl, or_inr, and_both, bool_ext, split}
use Rattle.disklayout.specs.declared.Device.{Device}
use Rattle.disklayout.specs.declared.Location.{Location}
use Rattle.disklayout.specs.Device.{Good}
use Rattle.disklayout.specs.Layout.{num_journal_blocks, indirection_table_max_length, node_block_size, min_node_block_index}
use Rattle.disklayout.specs.Layout.{indirection_table1_addr, indirection_table2_addr, journal_start_addr, journal_end_addr}
use Rattle.disklayout.specs.Layout.{valid_indirection_table_addr, valid_node_addr, valid_journal_location, valid_indirection_table_location}
use Rattle.disklayout.specs.Layout.{valid_node_location, same_loc, superblock1_location, superblock2_location, valid_superblock1_location}
use Rattle.disklayout.specs.Layout.{valid_superblock2_location, overlap, location_sub}

-- a test that cannot pass fails
pub refuted : {b : Bool} → (b ≡ true → ⊥) → b ≡ false
refuted {b} h = split b (λ t. absurd (h t)) (λ f. f)

-- ADDRESSES

pub table_addr_iff : (w : Device) (a : ℕ) →
    (valid_indirection_table_addr w a ≡ true) ↔ ((a ≡ indirection_table1_addr w) ⊎ (a ≡ indirection_table2_addr w))
unfolding valid_indirection_table_addr
table_addr_iff w a = (
  (λ e. ⊎_elim (λ t. inl (eqb-true a (indirection_table1_addr w) t)) (λ t. inr (eqb-true a (indirection_table2_addr w) t))
      (or_cases (eqb a (indirection_table1_addr w)) (eqb a (indirection_table2_addr w)) e)),
  ⊎_elim (λ h. or_inl (eqb a (indirection_table2_addr w)) (eq-eqb a (indirection_table1_addr w) h))
      (λ h. or_inr (eqb a (indirection_table1_addr w)) (eq-eqb a (indirection_table2_addr w) h)),
)

pub record NodeAddr (w : Device) (a : ℕ) : Type 0 where
  pub aligned : a % node_block_size w ≡ 0
  pub high : node_block_size w * min_node_block_index w ≤ a

pub node_addr_iff : (w : Device) (a : ℕ) → (valid_node_addr w a ≡ true) ↔ NodeAddr w a
unfolding valid_node_addr
node_addr_iff w a = ((λ e. let h = simp tests at e in record { aligned = h.0; high = h.1 }), (λ n. simp tests (n.aligned, n.high)))

-- PLACES

pub record JournalLoc (w : Device) (l : Location) : Type 0 where
  pub aligned : l.addr % 4096 ≡ 0
  pub whole : l.len % 4096 ≡ 0
  pub high : journal_start_addr ≤ l.addr
  pub index : (l.addr - journal_start_addr) / 4096 < num_journal_blocks w
  pub fits : l.addr + l.len < 2 ^ 64
  pub ends : l.addr + l.len ≤ (2 + num_journal_blocks w) * 4096

pub journal_iff : (w : Device) (l : Location) → (valid_journal_location w l ≡ true) ↔ JournalLoc w l
unfolding valid_journal_location
journal_iff w l = (
  (λ e. let h = simp tests at e in
      record { aligned = h.0.0.0.0.0; whole = h.0.0.0.0.1; high = h.0.0.0.1; index = h.0.0.1; fits = h.0.1; ends = h.1 }),
  (λ j. simp tests (((((j.aligned, j.whole), j.high), j.index), j.fits), j.ends)),
)

-- upstream's index test says that the place begins before the journal's end
pub index_iff : (w : Device) (a : ℕ) → journal_start_addr ≤ a →
    ((a - journal_start_addr) / 4096 < num_journal_blocks w) ↔ (a < journal_end_addr w)
index_iff w a h = (
  (λ i. omega (arith, (div-lt_iff_lt-mul {k = 4096} {x = a - 8192} {y = w.journal} (omega arith)).0 i)),
  (λ i. (div-lt_iff_lt-mul {k = 4096} {x = a - 8192} {y = w.journal} (omega arith)).1 (omega arith)),
)

pub record TableLoc (w : Device) (l : Location) : Type 0 where
  pub area : (l.addr ≡ indirection_table1_addr w) ⊎ (l.addr ≡ indirection_table2_addr w)
  pub some_bytes : 0 < l.len
  pub short : l.len ≤ indirection_table_max_length w

pub table_iff : (w : Device) (l : Location) → (valid_indirection_table_location w l ≡ true) ↔ TableLoc w l
unfolding valid_indirection_table_location
table_iff w l = (
  (λ e. let h = simp (table_addr_iff, tests) at e in record { area = h.0.0; some_bytes = h.0.1; short = h.1 }),
  (λ t. simp (table_addr_iff, tests) ((t.area, t.some_bytes), t.short)),
)

pub record NodeLoc (w : Device) (l : Location) : Type 0 where
  pub there : NodeAddr w l.addr
  pub short : l.len ≤ node_block_size w

pub node_iff : (w : Device) (l : Location) → (valid_node_location w l ≡ true) ↔ NodeLoc w l
unfolding valid_node_location
node_iff w l = (
  (λ e. let h = simp (node_addr_iff, tests) at e in record { there = h.0; short = h.1 }),
  (λ n. simp (node_addr_iff, tests) (n.there, n.short)),
)

-- a location is its address and its length
pub same_loc_iff : (l k : Location) → (same_loc l k ≡ true) ↔ (l ≡ k)
same_loc_iff l k = (
  (λ e. let h = simp tests at e in λ i. record { addr = h.0 i; len = h.1 i }),
  (λ e. rw e (and_both (eq-eqb k.addr k.addr refl) (eq-eqb k.len k.len refl))),
)

pub superblock1_iff : (l : Location) → (valid_superblock1_location l ≡ true) ↔ (l ≡ superblock1_location)
unfolding valid_superblock1_location
superblock1_iff l = same_loc_iff l superblock1_location

pub superblock2_iff : (l : Location) → (valid_superblock2_location l ≡ true) ↔ (l ≡ superblock2_location)
unfolding valid_superblock2_location
superblock2_iff l = same_loc_iff l superblock2_location

-- PLACES AGAINST EACH OTHER

pub record Overlap (l k : Location) : Type 0 where
  pub left : k.addr < l.addr + l.len
  pub right : l.addr < k.addr + k.len

pub overlap_iff : (l k : Location) → (overlap l k ≡ true) ↔ Overlap l k
unfolding overlap
overlap_iff l k = ((λ e. let h = simp tests at e in record { left = h.0; right = h.1 }), (λ o. simp tests (o.left, o.right)))

-- places of which one ends where the other begins, or before, do not overlap
pub no_overlap : (l k : Location) → (Overlap l k → ⊥) → overlap l k ≡ false
no_overlap l k h = refuted (λ e. h ((overlap_iff l k).0 e))

pub overlap_comm : (l k : Location) → overlap l k ≡ overlap k l
unfolding overlap
overlap_comm l k = and_comm (ltb k.addr (l.addr + l.len)) (ltb l.addr (k.addr + k.len))

pub record Sub (l k : Location) : Type 0 where
  pub begins : k.addr ≤ l.addr
  pub ends : l.addr + l.len ≤ k.addr + k.len

pub sub_iff : (l k : Location) → (location_sub l k ≡ true) ↔ Sub l k
unfolding location_sub
sub_iff l k = ((λ e. let h = simp tests at e in record { begins = h.0; ends = h.1 }), (λ s. simp tests (s.begins, s.ends)))

-- the code's test of a journal place
pub journal_short : (w : Device) (l : Location) → Good w →
    (eqb (l.addr % 4096) 0 && eqb (l.len % 4096) 0 && leb journal_start_addr l.addr && ltb l.addr (journal_end_addr w) && leb
    (l.addr + l.len) (journal_end_addr w + 0))
    ≡ valid_journal_location w l
journal_short w l g =
    bool_ext _ _
    (λ e. let h = simp tests at e in
    (journal_iff w l).1 (record { aligned = h.0.0.0.0; whole = h.0.0.0.1; high = h.0.0.1; index = (index_iff w l.addr h.0.0.1).1 h.0.1; fits = omega arith; ends = omega arith }))
    (λ e. let j : JournalLoc w l = (journal_iff w l).0 e in
    let i : l.addr < journal_end_addr w = (index_iff w l.addr j.high).0 j.index in
    simp tests ((((j.aligned, j.whole), j.high), i), omega arith))
