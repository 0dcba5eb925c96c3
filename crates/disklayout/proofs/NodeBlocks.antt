-- The 128 node blocks: an address decides its block and the reverse, for any good row. Assumes nothing.
use mathlib.Core.Path.{◌≡◌, refl, sym, ap, ◌∙◌}
use mathlib.Core.Bool.{true, false, ◌&&◌, not, and-false}
use mathlib.Core.Logic.{◌↔◌}
use mathlib.Core.Option.{some}
use Prim.Native.Nat.{ℕ, ◌+◌, ◌-◌, ◌*◌, ◌/◌, ◌^◌, ◌<◌, ◌≤◌}
use native.Mathlib.Nat.{div-add-mod', mul_comm, add-mul, le-div_iff_mul-le, mul-add-div, mul-div_cancel, mul-le-mul_right}
use native.Mathlib.Nat.{add-mul-mod_self_right, mul-mod_right}
use native.Mathlib.Omega.{arith}
use lib.Dec.{eqb, ltb}
use borrow.Author.Tests.{lt-ltb, le-ltb, ltb-true, ltb-false}
use Rattle.base.specs.Maps.{is_some, flagged}
use Rattle.base.proofs.Maps.{flagged_some}
use Rattle.base.proofs.Tests.{split, tests}
use Rattle.disklayout.specs.declared.Device.{Device}
use Rattle.disklayout.specs.declared.Location.{Location}
use Rattle.std.specs.Prelude.{Some, None}
use Rattle.disklayout.specs.Calls.{told}
use Rattle.disklayout.specs.Device.{Good}
use Rattle.disklayout.specs.Layout.{valid_node_addr, valid_node_location, overlap}
use Rattle.disklayout.specs.Blocks.{node_block_addr, node_blocks_end, node_block_of, node_place_in, node_place}
use Rattle.disklayout.proofs.Facts.{node_addr_iff}
use Rattle.disklayout.proofs.Places.{node_overlap_iff}

module _ (w : Device) (g : Good w) where
  pub block_pos : 0 < w.block
  block_pos = omega (arith, g.sized)

  -- a valid node address lies in block first or later
  pub first_le : (a : ℕ) → valid_node_addr w a ≡ true → w.first ≤ a / w.block
  first_le a v =
      let n = (node_addr_iff w a).0 v in
      (le-div_iff_mul-le block_pos).1 (rw (mul_comm w.first w.block) n.high)

  -- and is the address of that block
  pub addr_of : (a : ℕ) → valid_node_addr w a ≡ true → a ≡ node_block_addr w (a / w.block - w.first)
  addr_of a v =
      let n = (node_addr_iff w a).0 v in
      let f = first_le a v in
      let e : a / w.block ≡ w.first + (a / w.block - w.first) = omega arith in
      let x : a / w.block * w.block ≡ w.first * w.block + (a / w.block - w.first) * w.block =
      ap (λ q. q * w.block) e ∙ add-mul w.first (a / w.block - w.first) w.block in
      omega (arith, div-add-mod' a w.block, n.aligned, mul_comm w.first w.block)

  pub block_valid : (k : ℕ) → valid_node_addr w (node_block_addr w k) ≡ true
  block_valid k =
      (node_addr_iff w (node_block_addr w k)).1
      (record { aligned = add-mul-mod_self_right (w.block * w.first) k w.block ∙ mul-mod_right w.block w.first; high = omega arith })

  -- block k's number, by division
  pub block_number : (k : ℕ) → node_block_addr w k / w.block - w.first ≡ k
  block_number k =
      let d : node_block_addr w k / w.block ≡ w.first + k * w.block / w.block = mul-add-div block_pos w.first (k * w.block) in
      omega (arith, mul-div_cancel k block_pos)

  -- the address of a node block decides its number
  pub block_addr_injective : (j k : ℕ) → node_block_addr w j ≡ node_block_addr w k → j ≡ k
  block_addr_injective j k e = sym (block_number j) ∙ ap (λ a. a / w.block - w.first) e ∙ block_number k

  -- each of the 128 blocks ends at or before the blocks' end
  pub block_ends : (k : ℕ) → k < 128 → node_block_addr w k + w.block ≤ node_blocks_end w
  block_ends k h = omega (arith, add-mul k 1 w.block, mul-le-mul_right w.block (let i : k + 1 ≤ 128 = omega arith in i))

  -- so the address of each block and their end fit 64 bits
  pub block_fits : (k : ℕ) → k < 129 → node_block_addr w k < 2 ^ 64
  block_fits k h = omega (arith, g.fits, mul-le-mul_right w.block (let i : k ≤ 128 = omega arith in i))

  -- the number of the block that has an address
  pub node_block_iff : (a k : ℕ) → (node_block_of w a ≡ some k) ↔ ((k < 128) × (a ≡ node_block_addr w k))
  unfolding node_block_of
  node_block_iff a k = (to, from)
    where
      number : ℕ
      number = a / w.block - w.first

      to : flagged (valid_node_addr w a && ltb number 128) number ≡ some k → (k < 128) × (a ≡ node_block_addr w k)
      to e =
          let f = flagged_some (valid_node_addr w a && ltb number 128) number e in
          let h = simp tests at f.0 in
          (rw (← f.1) h.1, rw (← f.1) (addr_of a h.0))

      from : (k < 128) × (a ≡ node_block_addr w k) → flagged (valid_node_addr w a && ltb number 128) number ≡ some k
      from h =
          let v : valid_node_addr w a ≡ true = rw h.1 (block_valid k) in
          let q : number ≡ k = ap (λ x. x / w.block - w.first) h.1 ∙ block_number k in
          rw (q, v, lt-ltb k 128 h.0)

  -- it is told by a quotient: the three cases
  pub block_found : (a : ℕ) → valid_node_addr w a ≡ true → a / w.block - w.first < 128 →
      Some (a / w.block - w.first) ≡ told (node_block_of w a)
  unfolding node_block_of
  block_found a v h = rw (v, lt-ltb (a / w.block - w.first) 128 h)

  pub block_far : (a : ℕ) → 128 ≤ a / w.block - w.first → None ≡ told (node_block_of w a)
  unfolding node_block_of
  block_far a h = rw (le-ltb (a / w.block - w.first) 128 h, and-false (valid_node_addr w a))

  pub block_invalid : (a : ℕ) → valid_node_addr w a ≡ false → None ≡ told (node_block_of w a)
  unfolding node_block_of
  block_invalid a f = rw f

  pub node_block_addr_lem : (k : ℕ) → k < 128 → node_block_of w (node_block_addr w k) ≡ some k
  node_block_addr_lem k h = (node_block_iff (node_block_addr w k) k).1 (h, refl)

  -- a node address is that of one of the blocks exactly if it lies before their end
  pub block_before_end : (a : ℕ) → valid_node_addr w a ≡ true → is_some (node_block_of w a) ≡ ltb a (node_blocks_end w)
  unfolding node_block_of
  block_before_end a v =
      let k = a / w.block - w.first in
      let e : a ≡ node_block_addr w k = addr_of a v in
      rw v (split (ltb k 128)
      (λ t. rw (t, lt-ltb a (node_blocks_end w) (omega (arith, block_pos, block_ends k (ltb-true k 128 t)))))
      (λ f. rw (f, le-ltb a (node_blocks_end w) (omega (arith, mul-le-mul_right w.block (ltb-false k 128 f))))))

  -- so refusal 16 needs no block, only their end
  pub node_place_test : (l : Location) → node_place w l ≡ (ltb l.addr (node_blocks_end w) && valid_node_location w l && not (eqb l.len 0))
  unfolding node_place valid_node_location
  node_place_test l =
      split (valid_node_addr w l.addr)
      (λ t. rw (block_before_end l.addr t))
      (λ f. rw (f, and-false (is_some (node_block_of w l.addr)), and-false (ltb l.addr (node_blocks_end w))))

  -- what it is to be a place of block k
  pub node_place_in_iff : (k : ℕ) (l : Location) →
      (node_place_in w k l ≡ true) ↔ ((k < 128) × (l.addr ≡ node_block_addr w k) × (valid_node_location w l ≡ true) × (l.len ≡ 0 → ⊥))
  unfolding node_place_in
  node_place_in_iff k l = ((λ e. let h = simp tests at e in (h.0.0.0, h.0.0.1, h.0.1, h.1)), (λ h. simp tests (((h.0, h.1), h.2), h.3)))

  -- a node's place that refusal 16 allows is a place of one of the blocks
  pub node_place_iff : (l : Location) → (node_place w l ≡ true) ↔ ((k : ℕ) × (k < 128) × (node_place_in w k l ≡ true))
  unfolding node_place
  node_place_iff l = (
    (λ e. let h = simp tests at e in
        let b = (node_block_iff l.addr h.0.0.0).0 h.0.0.1 in
        (h.0.0.0, b.0, (node_place_in_iff h.0.0.0 l).1 (b.0, b.1, h.0.1, h.1))),
    (λ d. let p = (node_place_in_iff d.0 l).0 d.2 in
        simp tests (((d.0, (node_block_iff l.addr d.0).1 (p.0, p.1)), p.2), p.3)),
  )

  -- and its address says which
  pub node_place_in_of : (k : ℕ) (l : Location) → node_place w l ≡ true → (node_place_in w k l ≡ true) ↔ (node_block_of w l.addr ≡ some k)
  unfolding node_place
  node_place_in_of k l v =
      let h = simp tests at v in (
        (λ e. let p = (node_place_in_iff k l).0 e in (node_block_iff l.addr k).1 (p.0, p.1)),
        (λ e. let b = (node_block_iff l.addr k).0 e in (node_place_in_iff k l).1 (b.0, b.1, h.0.1, h.1)),
      )

  -- places of two blocks overlap exactly if the blocks are one
  pub node_places_overlap_iff : (j k : ℕ) (l m : Location) → node_place_in w j l ≡ true → node_place_in w k m ≡ true →
      (overlap l m ≡ true) ↔ (j ≡ k)
  node_places_overlap_iff j k l m p q =
      let a = (node_place_in_iff j l).0 p in
      let b = (node_place_in_iff k m).0 q in
      let o = node_overlap_iff w l m a.2 b.2 a.3 b.3 in
      ((λ e. block_addr_injective j k (sym a.1 ∙ o.0 e ∙ b.1)), (λ e. o.1 (a.1 ∙ ap (node_block_addr w) e ∙ sym b.1)))
