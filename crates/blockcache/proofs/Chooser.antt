-- The chooser over any settings and cache: what its answer says, that it keeps the written form and upstream's variables, that the block it gives is one
-- of the 128 and free, and that step 1 then refuses the block's address with neither 6 nor 7. Assumes nothing.
use Prim.Native.Nat.{◌+◌, ◌<◌, ◌≤◌, ℕ}
use mathlib.Core.Bool.{◌&&◌, and-false, false, true}
use mathlib.Core.List.{List}
use mathlib.Core.Logic.{◌↔◌}
use mathlib.Core.Path.{◌∙◌, ◌≡◌, ap, refl, subst, sym}
use native.Mathlib.Omega.{arith}
use borrow.Author.Tests.{eq-eqb, eqb-true, ne_eqb}
use lib.Dec.{eqb}
use Rattle.base.proofs.Refusals.{accepted_iff}
use Rattle.base.proofs.Scan.{all_at, all_of, count_not, none_at}
use Rattle.base.proofs.Tests.{and_iff, clash, not_iff, not_true_iff, split}
use Rattle.base.specs.Refusals.{Row, answer, ascending, holds}
use Rattle.base.specs.Scan.{all_below, count_below, first_below, some_below}
use Rattle.blockcache.proofs.Forms.{cache_form_iff}
use Rattle.blockcache.proofs.MarkLaws.{blocks_forgotten, given_form}
use Rattle.blockcache.proofs.MarkSteps.{ready_before}
use Rattle.blockcache.proofs.MarkedBlocks.{marked_held}
use Rattle.blockcache.proofs.Numbers.{call_accepted_iff, step_of_number}
use Rattle.blockcache.proofs.NextFit.{next_fit_passes, after_small}
use Rattle.blockcache.specs.Abstract.{cache_vars}
use Rattle.blockcache.specs.Chooser.{choice_by, chooser, chooser_rows, chosen_block, given_choice, is_free_block, marked, refused_choice}
use Rattle.blockcache.specs.Form.{cache_form, is_ready, settings_form}
use Rattle.blockcache.specs.Next.{with_last}
use Rattle.blockcache.specs.Scan.{held_in}
use Rattle.blockcache.specs.Step.{cache_next, cache_rows}
use Rattle.blockcache.specs.Steps.{is_load, step_of, steps}
use Rattle.blockcache.specs.declared.CacheState.{CacheState}
use Rattle.blockcache.specs.declared.Call.{Call}
use Rattle.blockcache.specs.declared.Choice.{Choice}
use Rattle.blockcache.specs.declared.Settings.{Settings}
use Rattle.blockdisk.specs.Form.{is_rule}
use Rattle.blockdisk.specs.declared.DiskOp.TheVariants.{ReqWriteNodeOp}
use Rattle.disklayout.proofs.Devices.{device_good}
use Rattle.disklayout.proofs.Facts.{node_addr_iff, node_iff}
use Rattle.disklayout.proofs.NodeBlocks.{block_valid}
use Rattle.disklayout.specs.Blocks.{node_block_addr}
use Rattle.disklayout.specs.Device.{device_of, made}
use Rattle.disklayout.specs.Layout.{node_block_size, valid_node_location}
use Rattle.disklayout.specs.declared.Location.{Location}

module _ (g : Settings) (c : CacheState) where
  abbrev rows : List Row
  rows = chooser_rows g c

  -- BY ANY ROWS

  -- the next free block, with its address and how many are free
  abbrev given : Choice
  given = given_choice (chosen_block g c) (node_block_addr (device_of g.device) (chosen_block g c)) (count_below (is_free_block g c) 128) c

  module _ (rs : List Row) where
    pub by_answer : (choice_by g c rs).answer ≡ answer rs
    unfolding choice_by
    by_answer = split (eqb (answer rs) 0) (λ t. rw t (sym (eqb-true (answer rs) 0 t))) (λ t. rw t)

    pub by_refused : (answer rs ≡ 0 → ⊥) → choice_by g c rs ≡ refused_choice (answer rs) c
    unfolding choice_by
    by_refused ne = rw (ne_eqb (answer rs) 0 ne)

    pub by_given : answer rs ≡ 0 → choice_by g c rs ≡ given
    unfolding choice_by
    by_given e = rw (eq-eqb (answer rs) 0 e)

  -- WHAT THE ANSWER SAYS

  pub choice_ascends : ascending rows ≡ true
  choice_ascends = refl

  pub choice_answer : (chooser g c).answer ≡ answer rows
  unfolding chooser
  choice_answer = by_answer rows

  -- not all are marked exactly where some is free
  some_free : all_below (marked g c) 128 ≡ false → some_below (is_free_block g c) 128 ≡ true
  some_free e =
      split (some_below (is_free_block g c) 128) (λ t. t)
      (λ n. clash (all_of (marked g c) 128 (λ b l. (not_iff (marked g c b)).0 (none_at (is_free_block g c) 128 b n l))) e)

  -- it is accepted exactly within the limits, in Ready, where a block is free
  pub record ChoiceAccepted : Type 0 where
    pub settings : settings_form g ≡ true
    pub form : cache_form g.device c ≡ true
    pub ready : is_ready c ≡ true
    pub free : some_below (is_free_block g c) 128 ≡ true

  pub choice_accepted : answer rows ≡ 0 → ChoiceAccepted
  choice_accepted e =
      let k = (accepted_iff rows choice_ascends).0 e in
      let h = (and_iff (settings_form g) (cache_form g.device c)).0 ((not_iff _).0 k.0) in
      record { settings = h.0; form = h.1; ready = (not_iff (is_ready c)).0 k.1.0; free = some_free k.1.1.0 }

  -- WHAT IS GIVEN

  last_small : ChoiceAccepted → c.blocks.last ≤ 127
  last_small h = ((cache_form_iff g.device c).0 h.form).1.last.small

  pub block_small : chosen_block g c < 128
  block_small = after_small c.blocks.last (first_below _ 128)

  pub block_free : answer rows ≡ 0 → is_free_block g c (chosen_block g c) ≡ true
  block_free e = let h = choice_accepted e in next_fit_passes (is_free_block g c) c.blocks.last (last_small h) h.free

  module _ (e : answer rows ≡ 0) where
    gives : chooser g c ≡ given
    unfolding chooser
    gives = by_given rows e

    pub gives_block : (chooser g c).block ≡ chosen_block g c
    gives_block = ap (λ x. x.block) gives

    pub gives_addr : (chooser g c).addr ≡ node_block_addr (device_of g.device) (chosen_block g c)
    gives_addr = ap (λ x. x.addr) gives

    pub gives_count : (chooser g c).free ≡ count_below (is_free_block g c) 128
    gives_count = ap (λ x. x.free) gives

    -- free and marked blocks make 128
    pub count_all : (chooser g c).free + count_below (marked g c) 128 ≡ 128
    count_all = rw gives_count (let n = count_not (marked g c) 128 in omega arith)

    pub gives_cache : (chooser g c).cache ≡ with_last c (chosen_block g c)
    gives_cache = ap (λ x. x.cache) gives

  pub refused_choice_lem : (answer rows ≡ 0 → ⊥) → chooser g c ≡ refused_choice (answer rows) c
  unfolding chooser
  refused_choice_lem = by_refused rows

  -- its refusals one by one
  pub choice_unnamed : settings_form g ≡ false → chooser g c ≡ refused_choice 1 c
  unfolding chooser choice_by answer
  choice_unnamed n = rw n

  pub choice_unformed : cache_form g.device c ≡ false → chooser g c ≡ refused_choice 1 c
  unfolding chooser choice_by answer
  choice_unformed n = rw (n, and-false (settings_form g))

  pub choice_unready : settings_form g ≡ true → cache_form g.device c ≡ true → is_ready c ≡ false → chooser g c ≡ refused_choice 4 c
  unfolding chooser choice_by answer
  choice_unready s f r = rw (s, f, r)

  pub choice_full : settings_form g ≡ true → cache_form g.device c ≡ true → is_ready c ≡ true → all_below (marked g c) 128 ≡ true →
      chooser g c ≡ refused_choice 21 c
  unfolding chooser choice_by answer
  choice_full s f r a = rw (s, f, r, a)

  pub choice_given : settings_form g ≡ true → cache_form g.device c ≡ true → is_ready c ≡ true → all_below (marked g c) 128 ≡ false →
      answer rows ≡ 0
  unfolding answer
  choice_given s f r a = rw (s, f, r, a)

  -- 21 is given exactly within the limits, in Ready, where each of the 128 blocks is marked
  abbrev Full : Type 0
  Full = (settings_form g ≡ true) × (cache_form g.device c ≡ true) × (is_ready c ≡ true) × ((b : ℕ) → b < 128 → marked g c b ≡ true)

  pub full_iff : (answer rows ≡ 21) ↔ Full
  unfolding answer
  full_iff = (
    (λ e. split (settings_form g && cache_form g.device c)
        (λ f. let h = (and_iff (settings_form g) (cache_form g.device c)).0 f in
        split (is_ready c)
        (λ r. (
          h.0,
          h.1,
          r,
          split (all_below (marked g c) 128) (λ a b l. all_at (marked g c) 128 b a l)
              (λ a. absurd (let z : ◌≡◌ {A = ℕ} 0 21 = rw (f, r, a) at e in omega arith)),
        ))
        (λ r. absurd (let z : ◌≡◌ {A = ℕ} 4 21 = rw (f, r) at e in omega arith)))
        (λ f. absurd (let z : ◌≡◌ {A = ℕ} 1 21 = rw f at e in omega arith))),
    (λ (s, f, r, a). rw (s, f, r, all_of (marked g c) 128 a)),
  )

  -- WHAT IS KEPT

  pub choice_form : cache_form g.device c ≡ true → cache_form g.device (chooser g c).cache ≡ true
  unfolding chooser choice_by
  choice_form f =
      split (eqb (answer rows) 0)
      (λ t. rw t (given_form g.device (chosen_block g c) c f (choice_accepted (eqb-true (answer rows) 0 t)).ready block_small))
      (λ t. rw t f)

  pub choice_vars : cache_vars (chooser g c).cache ≡ cache_vars c
  unfolding chooser choice_by
  choice_vars = split (eqb (answer rows) 0) (λ t. rw t (blocks_forgotten c _)) (λ t. rw t refl)

-- WHERE THE NEXT WRITE CAN GO

-- step 1's conditions 6 and 7 are those of its place
place_rows : (g : Settings) (c : CacheState) (q : Call) (id : ℕ) (l : Location) → q.dop ≡ ReqWriteNodeOp id l → made g.device ≡ true →
    valid_node_location (device_of g.device) l ≡ true → (l.len ≡ 0 → ⊥) → held_in c.tables c.outstanding.writes l.addr ≡ false →
    (holds 6 (cache_rows g c 1 q) ≡ false) × (holds 7 (cache_rows g c 1 q) ≡ false)
unfolding step_of steps
place_rows g c q id l o m v some free = (rw (o, m, v, ne_eqb l.len 0 some) refl, rw (o, free) refl)

-- right after a block is given, neither holds of its address, at any length from 1 to the block size
pub given_usable : (g : Settings) (c : CacheState) (q : Call) (id len : ℕ) → answer (chooser_rows g c) ≡ 0 →
    q.dop ≡ ReqWriteNodeOp id (record { addr = (chooser g c).addr; len = len }) → 1 ≤ len → len ≤ node_block_size (device_of g.device) →
    (holds 6 (cache_rows g (chooser g c).cache 1 q) ≡ false) × (holds 7 (cache_rows g (chooser g c).cache 1 q) ≡ false)
unfolding step_of steps
given_usable g c q id len e o some most =
    let b = chosen_block g c in
    let w = device_of g.device in
    let l : Location = record { addr = node_block_addr w b; len = len } in
    let m = ((and_iff (made g.device) (is_rule g.rule)).0 (choice_accepted g c e).settings).0 in
    let v : valid_node_location w l ≡ true = (node_iff w l).1
    (record { there = (node_addr_iff w (node_block_addr w b)).0 (block_valid w (device_good g.device) b); short = most }) in
    rw (gives_cache g c e)
    (place_rows g (with_last c b) q id l (o ∙ ap (λ a. ReqWriteNodeOp id (record { addr = a; len = len })) (gives_addr g c e)) m v
    (λ (z : len ≡ 0). omega arith)
    (sym (marked_held g.device c.tables c.outstanding.writes b) ∙ (not_true_iff (marked g c b)).0 (block_free g c e)))

-- THE BLOCK GIVEN LAST, AFTER A STEP

-- after an accepted load it is block 127
pub loaded_last : (d : ℕ) (c : CacheState) (q : Call) → (cache_next d c 9 q).blocks.last ≡ 127
unfolding step_of steps
loaded_last d c q = refl

-- after another accepted step that ends in Ready, which then began there too, it is as before
pub last_stays : (g : Settings) (c : CacheState) (n : ℕ) (q : Call) → answer (cache_rows g c n q) ≡ 0 → is_load n ≡ false →
    is_ready (cache_next g.device c n q) ≡ true →
    (is_ready c ≡ true) × ((cache_next g.device c n q).blocks.last ≡ c.blocks.last)
last_stays g c n q e l t =
    let x = (call_accepted_iff g c n q).0 e in
    rw x.is (ready_before c q x.step (subst (λ m. is_load m ≡ false) (step_of_number n x.step x.is) l) (rw x.is at t))
