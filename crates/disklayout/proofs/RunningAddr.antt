-- A running address over the 128 blocks: what it is at each block, that it fits 64 bits, and what a walk that keeps it finds. Assumes nothing.
use mathlib.Core.Path.{◌≡◌, refl, sym, ◌∙◌}
use mathlib.Core.Bool.{Bool, true, ◌&&◌, and-false}
use mathlib.Core.Option.{none}
use Prim.Native.Nat.{ℕ, zero, suc, ◌+◌, ◌^◌, ◌<◌, ◌≤◌}
use native.Mathlib.Nat.{add-mul, mul-le-mul_right}
use native.Mathlib.Numerals.{add-one}
use native.Mathlib.Omega.{arith}
use lib.Dec.{eqb, ltb}
use borrow.Author.Tests.{eqb-true, eqb-false, ltb-true, ltb-false, lt-ltb}
use Rattle.base.specs.Maps.{is_some}
use Rattle.base.proofs.Tests.{split, some_iff, none_iff}
use Rattle.disklayout.specs.declared.Device.{Device}
use Rattle.std.specs.Prelude.{Some, None}
use Rattle.disklayout.specs.declared.Location.{Location}
use Rattle.disklayout.specs.Blocks.{first_node_addr, node_block_addr, node_block_of, node_place_in, node_place_length, running_addr}
use Rattle.std.specs.Prelude.{Result, false}
use Rattle.std.specs.Result.{result_unwrap_or}
use Rattle.disklayout.specs.declared.Refused.{Refused}
use Rattle.disklayout.specs.Calls.{answered, holds_on, running_on, told}
use Rattle.disklayout.specs.Device.{Good, device_of, made}
use Rattle.disklayout.specs.Layout.{node_block_size, valid_node_addr, valid_node_location}
use Rattle.disklayout.proofs.Devices.{device_good}
use Rattle.disklayout.proofs.Results.{answered_number, answered_yes}
use Rattle.disklayout.proofs.NodeBlocks.{block_fits, block_valid, node_block_iff}

module _ (w : Device) where
  -- A RUNNING ADDRESS IS THE FIRST NODE ADDRESS PLUS BLOCK NUMBER TIMES BLOCK SIZE: AT BLOCK k, THE ADDRESS OF BLOCK k
  pub running_addr_lem : (k : ℕ) → running_addr w k ≡ node_block_addr w k
  unfolding running_addr
  running_addr_lem zero = omega arith
  running_addr_lem (suc k) =
      let e : running_addr w k ≡ node_block_addr w k = running_addr_lem k in rw (← add-one k, add-mul k 1 w.block) (omega arith)

  pub running_first : first_node_addr w ≡ running_addr w 0
  unfolding running_addr
  running_first = refl

  pub running_next : (k : ℕ) → running_addr w k + w.block ≡ running_addr w (k + 1)
  unfolding running_addr
  running_next k = rw add-one

  -- and never falls
  running_rises : (j k : ℕ) → j ≤ k → running_addr w j ≤ running_addr w k
  running_rises j k h = omega (arith, running_addr_lem j, running_addr_lem k, mul-le-mul_right w.block h)

  -- THE WALK FOR THE BLOCK OF AN ADDRESS

  -- no block before k has the address a
  abbrev pub Missed : ℕ → ℕ → Type 0
  Missed a k = (j : ℕ) → j < k → a ≡ running_addr w j → ⊥

  pub missed_none : (a : ℕ) → Missed a 0
  missed_none a j h e = omega arith

  pub missed_turn : (a k : ℕ) {at : ℕ} → Missed a k → at ≡ running_addr w k → (a ≡ at → ⊥) → Missed a (k + 1)
  missed_turn a k m r h j b e =
      split (eqb j k) (λ t. h (rw (r, ← eqb-true j k t) e)) (λ f. let n : j ≡ k → ⊥ = eqb-false j k f in m j (omega arith) e)

  -- where the running address is past a, no later block has it
  pub missed_past : (a k : ℕ) → Missed a k → a < running_addr w k → Missed a 128
  missed_past a k m h j b e =
      split (ltb j k) (λ t. m j (ltb-true j k t) e)
      (λ f. let r : running_addr w k ≤ running_addr w j = running_rises k j (ltb-false j k f) in omega arith)

module _ (w : Device) (g : Good w) where
  -- NO RUNNING ADDRESS OF A WALK OVER THE 128 BLOCKS PASSES 64 BITS, NOR DOES THE LAST SUM, THEIR END
  pub running_fits : (k : ℕ) → k ≤ 128 → running_addr w k < 2 ^ 64
  running_fits k h = rw (running_addr_lem w k) (block_fits w g k (omega arith))

  -- the code's arms: at the block found, and where no block has the address
  pub walk_found : (a k : ℕ) → k < 128 → a ≡ running_addr w k →
      Some k ≡ told (node_block_of w a)
  walk_found a k h e = rw ((node_block_iff w g a k).1 (h, e ∙ running_addr_lem w k))

  pub walk_none : (a : ℕ) → Missed w a 128 → None ≡ told (node_block_of w a)
  walk_none a m = rw no_block
    where
      no_block : node_block_of w a ≡ none
      no_block = split (is_some (node_block_of w a))
          (λ t. let f = (some_iff (node_block_of w a)).0 t in
          let b = (node_block_iff w g a f.0).0 f.1 in absurd (m f.0 b.0 (b.1 ∙ sym (running_addr_lem w f.0))))
          (λ f. (none_iff (node_block_of w a)).0 f)

  block_at : (a k : ℕ) → a ≡ node_block_addr w k → valid_node_addr w a ≡ true
  block_at a k e = rw e (block_valid w g k)

  -- the places of block k begin at the running address, and their length decides
  pub place_at : (k : ℕ) (l : Location) → k < 128 → (eqb l.addr (running_addr w k) && node_place_length w l.len) ≡ node_place_in w k l
  unfolding node_place_length node_place_in valid_node_location
  place_at k l h =
      rw (running_addr_lem w k, lt-ltb k 128 h)
      (split (eqb l.addr (node_block_addr w k))
      (λ t. rw (t, block_at l.addr k (eqb-true l.addr (node_block_addr w k) t)))
      (λ f. rw f))

-- A WALK ON A DEVICE: it begins at the first node address that the device's call gives, and grows by the block size; both are 0 where the
-- device is not made, and so is each sum
module _ (d : ℕ) where
  module _ {r : Result ℕ Refused} {first : ℕ} (e : r ≡ answered d (first_node_addr (device_of d))) (f : first ≡ result_unwrap_or r 0) where
    pub walk_first : first ≡ running_on d 0
    walk_first = rw (f, e, answered_number d (first_node_addr (device_of d)), running_first (device_of d))

  module _ {r : Result ℕ Refused} {size : ℕ} (e : r ≡ answered d (node_block_size (device_of d))) (f : size ≡ result_unwrap_or r 0)
      (k : ℕ) {a : ℕ} (at : a ≡ running_on d k) where
    pub walk_next : a + size ≡ running_on d (k + 1)
    walk_next =
        rw (at, f, e, answered_number d (node_block_size (device_of d)))
        (split (made d) (λ t. rw t (running_next (device_of d) k)) (λ t. rw t))

    pub walk_fits : k < 128 → a + size < 2 ^ 64
    walk_fits h =
        rw walk_next (split (made d) (λ t. rw t (running_fits (device_of d) (device_good d) (k + 1) (omega arith)))
        (λ t. rw t (omega arith)))

  -- and judges the places of each block by their address and length
  pub place_on : (k : ℕ) (l : Location) {a : ℕ} {r : Result Bool Refused} {may : Bool} → k < 128 → a ≡ running_on d k →
      r ≡ answered d (node_place_length (device_of d) l.len) → may ≡ result_unwrap_or r false →
      (eqb l.addr a && may) ≡ holds_on d (node_place_in (device_of d) k l)
  place_on k l h e f g =
      rw (e, g, f, answered_yes d (node_place_length (device_of d) l.len))
      (split (made d) (λ t. rw t (place_at (device_of d) (device_good d) k l h)) (λ t. rw (t, and-false (eqb l.addr 0))))
