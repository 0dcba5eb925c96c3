-- What is promised of the chooser along a list (document 02, Q-1): each free block is given in time; what is given after a load; where the next write can go.
use Rattle.std.specs.Prelude.{◌<◌, ◌≤◌, ℕ, Bool, ◌&&◌, cond, false, true, List, [], ◌++◌, ◌∷◌, ◌≡◌, eqb, length}
use Rattle.std.proofs.Math.Option.{some}
use Rattle.base.specs.Lists.{nth}
use Rattle.base.specs.Scan.{first_below}
use Rattle.blockcache.specs.Steps.{is_load}
use Rattle.blockcache.specs.declared.Call.{Call}
use Rattle.blockdisk.specs.declared.DiskOp.TheVariants.{ReqWriteNodeOp}
use Rattle.blockdisk.specs.declared.Records.{Records}
use Rattle.disklayout.specs.Device.{device_of}
use Rattle.disklayout.specs.Layout.{node_block_size}
use Rattle.blocksystem.specs.Run.{Every, JoinedCall, State, accepts_step, after, after_choice, after_step, asked, choice, choose, free}
use Rattle.blocksystem.specs.Run.{moved, operations, step}

-- b is among the first n of a list
abbrev pub Among : ℕ → ℕ → List ℕ → Type 0
Among b n l = (k : ℕ) × (k < n) × (nth l k ≡ some b)

module _ (d : ℕ) where
  -- FAIRNESS

  -- the block that a call gives, if it gives one
  abbrev pub given_by : State → JoinedCall → List ℕ
  given_by s (step n q o) = []
  given_by s (operations q l) = []
  given_by s choose = cond (eqb (choice d s).answer 0) ((choice d s).block ∷ []) []

  -- the blocks given along a list, in their order
  unfoldable pub given : State → List JoinedCall → List ℕ
  given s [] = []
  given s (k ∷ ks) = given_by s k ++ given (moved d s k) ks

  -- an accepted table load
  abbrev pub loads : State → JoinedCall → Bool
  loads s (step n q o) = accepts_step d s n q o && is_load n
  loads s choose = false
  loads s (operations q l) = false

  -- block b is free before a list and after each of its calls
  abbrev pub StaysFree : ℕ → State → List JoinedCall → Type 0
  StaysFree b s calls = (free d s b ≡ true) × Every d (λ t k. free d (moved d t k) b ≡ true) s calls

  -- no load is accepted in a list
  abbrev pub NoLoad : State → List JoinedCall → Type 0
  NoLoad s calls = Every d (λ t k. loads t k ≡ false) s calls

  -- the list cut in two anywhere: a block that is free after the first part and after each call of the second, which accepts no load and gives at least 128
  -- blocks, is among the first 128 given in it
  abbrev pub Fairness : State → List JoinedCall → Type 0
  Fairness s calls =
      (front back : List JoinedCall) (b : ℕ) → calls ≡ front ++ back → b < 128 →
      StaysFree b (after d s front) back →
      NoLoad (after d s front) back →
      128 ≤ length (given (after d s front) back) →
      Among b 128 (given (after d s front) back)

  -- RIGHT AFTER A LOAD, AND RIGHT AFTER A BLOCK IS GIVEN

  -- right after an accepted step 9 the chooser gives the lowest free block
  abbrev pub LowestAfterLoad : State → Type 0
  LowestAfterLoad s =
      (q : Call) (o : Records) → (asked d s 9 q o).answer ≡ 0 →
      ((choice d (after_step d s 9 q o)).answer ≡ 0)
      × ((choice d (after_step d s 9 q o)).block ≡ first_below (free d (after_step d s 9 q o)) 128)

  -- right after a block is given, step 1 refuses its address with neither 6 nor 7, at any length from 1 to the block size
  abbrev pub GivenUsable : State → Type 0
  GivenUsable s =
      (choice d s).answer ≡ 0 → (q : Call) (o : Records) (id len : ℕ) →
      q.dop ≡ ReqWriteNodeOp id (record { addr = (choice d s).addr; len = len }) →
      1 ≤ len → len ≤ node_block_size (device_of d) →
      ((asked d (after_choice d s) 1 q o).answer ≡ 6 → ⊥) × ((asked d (after_choice d s) 1 q o).answer ≡ 7 → ⊥)
