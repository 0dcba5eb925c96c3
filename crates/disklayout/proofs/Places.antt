-- When two places of one kind overlap. Assumes nothing.
use mathlib.Core.Path.{◌≡◌}
use mathlib.Core.Bool.{true}
use mathlib.Core.Logic.{⊎_elim, ◌↔◌}
use Prim.Native.Nat.{ℕ, ◌+◌, ◌/◌, ◌%◌, ◌<◌, ◌≤◌}
use native.Mathlib.Nat.{div-add-mod', mul-le-mul_right}
use native.Mathlib.Omega.{arith}
use lib.Dec.{ltb}
use borrow.Author.Tests.{ltb-true, ltb-false}
use Rattle.base.proofs.Tests.{split}
use Rattle.disklayout.specs.declared.Device.{Device}
use Rattle.disklayout.specs.declared.Location.{Location}
use Rattle.disklayout.specs.Layout.{valid_indirection_table_location, valid_node_location, overlap}
use Rattle.disklayout.proofs.Facts.{TableLoc, table_iff, node_iff, Overlap, overlap_iff}

-- two multiples of a number are a multiple apart
pub apart : (b x y : ℕ) → x % b ≡ 0 → y % b ≡ 0 → x < y → x + b ≤ y
apart b x y p q h =
    split (ltb (x / b) (y / b))
    (λ t. omega (arith, div-add-mod' x b, div-add-mod' y b, mul-le-mul_right b (ltb-true (x / b) (y / b) t)))
    (λ f. omega (arith, div-add-mod' x b, div-add-mod' y b, mul-le-mul_right b (ltb-false (x / b) (y / b) f)))

module _ (w : Device) (l k : Location) where
  -- two valid table places overlap exactly if they have one address
  pub table_overlap_iff : valid_indirection_table_location w l ≡ true → valid_indirection_table_location w k ≡ true →
      (overlap l k ≡ true) ↔ (l.addr ≡ k.addr)
  table_overlap_iff p q = ((λ e. meet ((overlap_iff l k).0 e)), (λ e. (overlap_iff l k).1 (overlapping e)))
    where
      t : TableLoc w l
      t = (table_iff w l).0 p

      u : TableLoc w k
      u = (table_iff w k).0 q

      meet : Overlap l k → l.addr ≡ k.addr
      meet o =
          ⊎_elim (λ a. ⊎_elim (λ b. omega arith) (λ b. omega (arith, t.short)) u.area)
          (λ a. ⊎_elim (λ b. omega (arith, u.short)) (λ b. omega arith) u.area) t.area

      overlapping : l.addr ≡ k.addr → Overlap l k
      overlapping e = record { left = omega (arith, t.some_bytes); right = omega (arith, u.some_bytes) }

  -- node places that overlap have one address
  pub node_overlap_same : valid_node_location w l ≡ true → valid_node_location w k ≡ true → overlap l k ≡ true → l.addr ≡ k.addr
  node_overlap_same p q e =
      let n = (node_iff w l).0 p in
      let m = (node_iff w k).0 q in
      let o = (overlap_iff l k).0 e in
      split (ltb l.addr k.addr)
      (λ t. omega (arith, n.short, o.left, apart w.block l.addr k.addr n.there.aligned m.there.aligned (ltb-true l.addr k.addr t)))
      (λ f. split (ltb k.addr l.addr)
      (λ t. omega (arith, m.short, o.right, apart w.block k.addr l.addr m.there.aligned n.there.aligned (ltb-true k.addr l.addr t)))
      (λ g. omega (arith, ltb-false l.addr k.addr f, ltb-false k.addr l.addr g)))

  -- and where neither is empty, exactly those
  pub node_overlap_iff : valid_node_location w l ≡ true → valid_node_location w k ≡ true → (l.len ≡ 0 → ⊥) → (k.len ≡ 0 → ⊥) →
      (overlap l k ≡ true) ↔ (l.addr ≡ k.addr)
  node_overlap_iff p q a b =
      (node_overlap_same p q, (λ e. (overlap_iff l k).1 (record { left = omega arith; right = omega arith })))
