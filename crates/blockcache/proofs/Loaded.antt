-- Right after a load a block is free, so that the chooser gives one: the 64 references of the table loaded hold 64 of the 128 blocks at the most, and nothing
-- else holds any. Assumes nothing.
use Prim.Native.Nat.{◌≤◌, ℕ}
use mathlib.Core.Bool.{Bool, ◌&&◌, ◌||◌, false, true}
use mathlib.Core.Path.{◌∙◌, ◌≡◌, refl, subst, sym}
use native.Mathlib.Omega.{arith}
use borrow.Author.Tests.{eqb-true}
use lib.Dec.{eqb}
use Rattle.base.proofs.Refusals.{Clear}
use Rattle.base.proofs.Scan.{count_every, count_same, count_some}
use Rattle.base.proofs.Tests.{and_both, and_right, split}
use Rattle.base.specs.Refusals.{answer}
use Rattle.base.specs.Scan.{all_below, count_below}
use Rattle.blockcache.proofs.Chooser.{choice_given}
use Rattle.blockcache.proofs.Forms.{loading_idle, none_addressed}
use Rattle.blockcache.proofs.Frames.{gate_iff}
use Rattle.blockcache.proofs.Kept.{cache_form_kept}
use Rattle.blockcache.proofs.MarkedBlocks.{marked_held}
use Rattle.blockcache.proofs.Numbers.{call_accepted_iff, number_decides}
use Rattle.blockcache.specs.Chooser.{chooser_rows, marked}
use Rattle.blockcache.specs.Rows.{own_rows, step_rows, takes}
use Rattle.blockcache.specs.Scan.{held_in}
use Rattle.blockcache.specs.Step.{cache_next, cache_rows}
use Rattle.blockcache.specs.Steps.{page_in_indirection_table_resp_step, step_of, steps}
use Rattle.blockcache.specs.declared.CacheState.{CacheState}
use Rattle.blockcache.specs.declared.Call.{Call}
use Rattle.blockcache.specs.declared.Settings.{Settings}
use Rattle.blockdisk.specs.Form.{is_rule}
use Rattle.disklayout.proofs.Devices.{device_good}
use Rattle.disklayout.proofs.NodeBlocks.{block_addr_injective}
use Rattle.disklayout.specs.Blocks.{node_block_addr}
use Rattle.disklayout.specs.Device.{device_of}
use Rattle.sectortype.specs.Form.{entry_at}
use Rattle.sectortype.specs.Graph.{holds_addr, located_in}
use Rattle.sectortype.specs.declared.Table.{Table}

-- a table holds 64 blocks at the most: a location has one address, and an address is one block's
pub held_few : (d : ℕ) (t : Table) → count_below (λ b. holds_addr t (node_block_addr (device_of d) b)) 128 ≤ 64
unfolding holds_addr
held_few d t = count_some hit 64 128 one
  where
    hit : ℕ → ℕ → Bool
    hit r b = located_in t r && eqb (entry_at t r).loc.addr (node_block_addr (device_of d) b)

    one : (r j k : ℕ) → hit r j ≡ true → hit r k ≡ true → j ≡ k
    one r j k e f =
        let a = eqb-true (entry_at t r).loc.addr (node_block_addr (device_of d) j) (and_right (located_in t r) _ e) in
        let b = eqb-true (entry_at t r).loc.addr (node_block_addr (device_of d) k) (and_right (located_in t r) _ f) in
        block_addr_injective (device_of d) (device_good d) j k (sym a ∙ b)

or_same : (b : Bool) → (((b || b) || false) || false) ≡ b
or_same true = refl
or_same false = refl

module _ (d r : ℕ) (c : CacheState) (q : Call) where
  abbrev g : Settings
  g = record { device = d; rule = r }

  abbrev next : CacheState
  next = cache_next d c 9 q

  module _ (e : answer (cache_rows g c 9 q) ≡ 0) where
    -- a Loading cache has no outstanding write
    no_writes : c.outstanding.writes.count ≡ 0
    unfolding step_of steps
    no_writes =
        let x = (call_accepted_iff g c 9 q).0 e in
        let k = subst (λ step. Clear (step_rows g c q step))
        (number_decides 9 x.step page_in_indirection_table_resp_step x.is refl) x.clear in
        let h = (gate_iff (takes c.phase q.vop q.dop page_in_indirection_table_resp_step)
        (own_rows g c q page_in_indirection_table_resp_step)).0 k in
        (loading_idle c x.form.form.phase h.0.2).no_writes

    -- so that the table loaded holds all that is held
    held_by_table : (a : ℕ) → held_in next.tables next.outstanding.writes a ≡ holds_addr q.table a
    unfolding held_in step_of steps
    held_by_table a = rw (none_addressed c.outstanding.writes a no_writes) (or_same (holds_addr q.table a))

    not_full : (w : ℕ) → all_below (marked (record { device = d; rule = w }) next) 128 ≡ false
    not_full w =
        let m = marked (record { device = d; rule = w }) next in
        let few = held_few d q.table in
        let same = count_same m (λ b. holds_addr q.table (node_block_addr (device_of d) b)) 128
        (λ b l. marked_held d next.tables next.outstanding.writes b ∙ held_by_table (node_block_addr (device_of d) b)) in
        split (all_below m 128) (λ t. absurd (let all = count_every m 128 t in omega arith)) (λ t. t)

    -- and the chooser is accepted, under either rule
    pub gives_after_load : (w : ℕ) → is_rule w ≡ true → answer (chooser_rows (record { device = d; rule = w }) next) ≡ 0
    unfolding step_of steps
    gives_after_load w rule =
        let h : Settings = record { device = d; rule = w } in
        let on = ((call_accepted_iff g c 9 q).0 e).form.on in
        choice_given h next (and_both on rule) (cache_form_kept g c 9 q e) refl (not_full w)
