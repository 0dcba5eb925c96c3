-- The two table areas: a table place's address decides its area and the reverse. Assumes nothing.
use mathlib.Core.Path.{◌≡◌, refl, sym, ap, ◌∙◌}
use mathlib.Core.Bool.{true}
use mathlib.Core.Logic.{◌⊎◌, inl, inr, ⊎_elim, ◌↔◌}
use mathlib.Core.Option.{Option, some}
use Prim.Native.Nat.{ℕ, zero, suc, ◌+◌, ◌-◌, ◌^◌, ◌<◌, ◌≤◌}
use native.Mathlib.Nat.{mul-le-mul_right}
use native.Mathlib.Omega.{arith}
use lib.Dec.{eqb, ltb}
use lib.ListN.{length}
use borrow.Author.Tests.{eq-eqb, eqb-true, ne_eqb, ltb-true, ltb-false}
use Rattle.base.specs.Scan.{all_below}
use Rattle.base.proofs.Scan.{all_at}
use Rattle.base.proofs.Tests.{split, never, tests}
use Rattle.disklayout.specs.declared.Device.{Device}
use Rattle.disklayout.specs.declared.Location.{Location}
use Rattle.disklayout.specs.Device.{Good, device_of, devices}
use Rattle.disklayout.specs.Layout.{indirection_table1_addr, indirection_table2_addr, valid_indirection_table_location}
use Rattle.disklayout.specs.Layout.{other_indirection_table_addr, overlap}
use Rattle.disklayout.specs.Blocks.{first_node_addr, table_area_addr, table_area_of, table_place_in}
use Rattle.disklayout.proofs.Devices.{row_past}
use Rattle.disklayout.proofs.Facts.{table_iff}
use Rattle.disklayout.proofs.Places.{table_overlap_iff}

-- the areas of every device hold something: one test over the table
tables_held : all_below (λ d. ltb 0 (device_of d).table) (length devices) ≡ true
unfolding all_below device_of devices
tables_held = refl

pub device_table : (d : ℕ) → 0 < (device_of d).table
unfolding device_of devices
device_table d =
    split (ltb d 3) (λ t. known d (ltb-true d 3 t)) (λ f. rw (row_past d (ltb-false d 3 f)) (known 0 (omega arith)))
  where
    known : (d : ℕ) → d < 3 → 0 < (device_of d).table
    known d h = ltb-true 0 (device_of d).table (all_at (λ d. ltb 0 (device_of d).table) 3 d tables_held h)

two_cases : (k : ℕ) → k < 2 → (k ≡ 0) ⊎ (k ≡ 1)
two_cases zero h = inl refl
two_cases (suc zero) h = inr refl
two_cases (suc (suc k)) h = absurd (omega arith)

module _ (w : Device) where
  area_first : (a : ℕ) → a ≡ table_area_addr w 0 → table_area_of w a ≡ some 0
  unfolding table_area_of
  area_first a e = rw (eq-eqb a (indirection_table1_addr w) (omega arith))

  area_second : (a : ℕ) → 0 < w.table → a ≡ table_area_addr w 1 → table_area_of w a ≡ some 1
  unfolding table_area_of
  area_second a t e =
      rw (
        ne_eqb a (indirection_table1_addr w) (λ (x : a ≡ indirection_table1_addr w). omega arith),
        eq-eqb a (indirection_table2_addr w) (omega arith),
      )

  area_addr : (a k : ℕ) → table_area_of w a ≡ some k → (k < 2) × (a ≡ table_area_addr w k)
  unfolding table_area_of
  area_addr a k e =
      split (eqb a (indirection_table1_addr w))
      (λ y. let q : 0 ≡ k = (let p : ◌≡◌ {A = Option ℕ} (some 0) (some k) = rw y at e in cc) in
      (omega arith, rw (← q) (omega (arith, eqb-true a (indirection_table1_addr w) y))))
      (λ n. split (eqb a (indirection_table2_addr w))
      (λ y. let q : 1 ≡ k = (let p : ◌≡◌ {A = Option ℕ} (some 1) (some k) = rw (n, y) at e in cc) in
      (omega arith, rw (← q) (omega (arith, eqb-true a (indirection_table2_addr w) y))))
      (λ m. never (rw (n, m) at e)))

  -- the number of the area that has an address (where a table's length is 0, which no device's is, both areas have one address)
  pub table_area_iff : 0 < w.table → (a k : ℕ) → (table_area_of w a ≡ some k) ↔ ((k < 2) × (a ≡ table_area_addr w k))
  table_area_iff t a k =
      (area_addr a k, (λ h. ⊎_elim (λ z. rw z (area_first a (rw z at h.1))) (λ z. rw z (area_second a t (rw z at h.1))) (two_cases k h.0)))

  -- what it is to be a place of area k
  pub table_place_in_iff : (k : ℕ) (l : Location) →
      (table_place_in w k l ≡ true) ↔ ((k < 2) × (l.addr ≡ table_area_addr w k) × (valid_indirection_table_location w l ≡ true))
  unfolding table_place_in
  table_place_in_iff k l = ((λ e. let h = simp tests at e in (h.0.0, h.0.1, h.1)), (λ h. simp tests ((h.0, h.1), h.2)))

  -- a valid table place is a place of one of the areas
  pub table_place_iff : (l : Location) → (valid_indirection_table_location w l ≡ true) ↔ ((k : ℕ) × (k < 2) × (table_place_in w k l ≡ true))
  table_place_iff l = (
    (λ v. ⊎_elim (λ e. (0, omega arith, (table_place_in_iff 0 l).1 (omega arith, omega arith, v)))
        (λ e. (1, omega arith, (table_place_in_iff 1 l).1 (omega arith, omega arith, v))) ((table_iff w l).0 v).area),
    (λ d. ((table_place_in_iff d.0 l).0 d.2).2),
  )

  -- and its address says which
  pub table_place_in_of : (k : ℕ) (l : Location) → valid_indirection_table_location w l ≡ true →
      (table_place_in w k l ≡ true) ↔ (table_area_of w l.addr ≡ some k)
  table_place_in_of k l v =
      let u = (table_iff w l).0 v in
      let t : 0 < w.table = omega (arith, u.some_bytes, u.short) in (
        (λ e. let p = (table_place_in_iff k l).0 e in (table_area_iff t l.addr k).1 (p.0, p.1)),
        (λ e. let a = (table_area_iff t l.addr k).0 e in (table_place_in_iff k l).1 (a.0, a.1, v)),
      )

  -- places of two areas overlap exactly if the areas are one
  pub table_places_overlap_iff : (j k : ℕ) (l m : Location) → table_place_in w j l ≡ true → table_place_in w k m ≡ true →
      (overlap l m ≡ true) ↔ (j ≡ k)
  table_places_overlap_iff j k l m p q =
      let a = (table_place_in_iff j l).0 p in
      let b = (table_place_in_iff k m).0 q in
      let o = table_overlap_iff w l m a.2 b.2 in
      let x = (table_place_in_of j l a.2).0 p in
      let y = (table_place_in_of k m b.2).0 q in (
        (λ e. let z : some j ≡ some k = sym x ∙ ap (table_area_of w) (o.0 e) ∙ y in cc),
        (λ e. o.1 (a.1 ∙ ap (table_area_addr w) e ∙ sym b.1)),
      )

  -- the other area's address, for an area's address
  pub other_area : 0 < w.table → (k : ℕ) → k < 2 → other_indirection_table_addr w (table_area_addr w k) ≡ table_area_addr w (1 - k)
  other_area t k h =
      ⊎_elim
      (λ z. rw (z, eq-eqb (table_area_addr w 0) (indirection_table1_addr w) (omega arith)) (omega arith))
      (λ z. rw (
        z,
        ne_eqb (table_area_addr w 1) (indirection_table1_addr w)
            (λ (x : table_area_addr w 1 ≡ indirection_table1_addr w). omega arith),
      ) (omega arith))
      (two_cases k h)

  -- each address but area 1's gets area 1's, one of neither area too
  pub other_else : (a : ℕ) → (a ≡ indirection_table1_addr w → ⊥) → other_indirection_table_addr w a ≡ indirection_table1_addr w
  other_else a ne = rw (ne_eqb a (indirection_table1_addr w) ne)

  module _ (g : Good w) where
    -- each area ends at or before the first node block, below 2 to the 64
    pub area_ends : (k : ℕ) → k < 2 → table_area_addr w k + w.table ≤ first_node_addr w
    area_ends k h = omega (arith, g.past, mul-le-mul_right w.table (let i : k ≤ 1 = omega arith in i))

    pub area_fits : (k : ℕ) → k < 2 → table_area_addr w k < 2 ^ 64
    area_fits k h = omega (arith, area_ends k h, g.fits)
