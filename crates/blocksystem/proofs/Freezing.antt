-- The disk's rule in a joined call: a disk of no rule is refused with 1; under rule 1 Freeze is upstream's, and 25 is given under rule 2 alone, by the rule that
-- the disk carries. Assumes nothing.
use Prim.Native.Nat.{◌<◌, ℕ}
use mathlib.Core.Bool.{◌&&◌, false, or-false, true}
use mathlib.Core.Logic.{◌↔◌}
use mathlib.Core.Path.{◌∙◌, ◌≡◌, refl, subst, sym}
use native.Mathlib.Omega.{arith}
use lib.Dec.{eqb, leb}
use Rattle.base.proofs.Refusals.{lowest_one_left, lowest_one_right, lowest_right}
use Rattle.base.proofs.Tests.{and_iff, not_iff, or_iff, split}
use Rattle.base.specs.Refusals.{answer}
use Rattle.blockcache.proofs.Freezing.{freeze_25_iff, freeze_rule_1}
use Rattle.blockcache.proofs.Numbers.{number_decides}
use Rattle.blockcache.proofs.OpKinds.{no_disk_op_iff}
use Rattle.blockcache.proofs.Outcomes.{step_answer}
use Rattle.blockcache.specs.Abstract.{Allowed, cache_vars}
use Rattle.blockcache.specs.Form.{cache_form, call_form, settings_form}
use Rattle.blockcache.specs.Freezing.{FrozenPlaceSet}
use Rattle.blockcache.specs.Ops.{dop_kind, no_dop}
use Rattle.blockcache.specs.Step.{cache_rows, cache_step, outside_limits}
use Rattle.blockcache.specs.Steps.{freeze_step, is_crash, step_of, steps}
use Rattle.blockcache.specs.declared.CacheState.{CacheState}
use Rattle.blockcache.specs.declared.Call.{Call}
use Rattle.blockcache.specs.declared.Settings.{Settings}
use Rattle.blockdisk.proofs.Forms.{disk_form_iff}
use Rattle.blockdisk.proofs.Rules.{no_rule_crash, no_rule_refused}
use Rattle.blockdisk.specs.Form.{disk_form, is_rule}
use Rattle.blockdisk.specs.Ops.{disk_step}
use Rattle.blockdisk.specs.declared.DiskState.{DiskState}
use Rattle.blockdisk.specs.declared.Records.{Records}
use Rattle.sectortype.specs.Form.{node_form, table_form, zero_node}
use Rattle.blocksystem.proofs.IdleDisk.{idle_rows}
use Rattle.blocksystem.proofs.Answering.{answered_as}
use Rattle.blocksystem.specs.Joined.{disk_asked, disk_call, joined, joined_answer, settings_of, start_rows}
use Rattle.blocksystem.specs.Run.{InForm, State, asked, conditions, step}

-- A DISK OF NO RULE

module _ (d n : ℕ) (q : Call) (o : Records) (c : CacheState) (s : DiskState) (e : is_rule s.rule ≡ false) where
  unruled_asked : (disk_asked d n q o s).answer ≡ 1
  unfolding disk_asked
  unruled_asked = split (is_crash n) (λ t. rw (t, no_rule_crash d s e o) refl) (λ t. rw (t, no_rule_refused d s e (disk_call n q)) refl)

  unruled_answer : joined_answer d n q o c s ≡ 1
  unfolding joined_answer
  unruled_answer =
      rw (unruled_asked, lowest_one_right (cache_step (settings_of d s) c n q).answer) (lowest_one_left (answer (start_rows d n q s)))

  pub no_rule_joined : joined d n q o c s ≡ record { answer = 1; node = zero_node; cache = c; disk = s }
  unfolding joined
  no_rule_joined = rw unruled_answer refl

-- FREEZE ASKS THE DISK FOR NOTHING

module _ (d : ℕ) (s : State) (q : Call) (o : Records) where
  abbrev g : Settings
  g = settings_of d s.disk

  -- its call has no disk operation
  idle_call : Allowed d s.cache 12 q → eqb (dop_kind q.dop) no_dop ≡ true
  unfolding step_of steps
  idle_call (x, e, (s', k)) = let f = rw (number_decides 12 x freeze_step e refl) at k in (no_disk_op_iff q.dop q.node q.table).1 f.1

  -- what is in its form is within the limits
  form_limits : InForm d s q → outside_limits g s.cache 12 q ≡ false
  unfolding step_of steps
  form_limits (c, call, f) = let h = (disk_form_iff d s.disk).0 f in simp (h.on, h.rule, c, call)

  idle_disk_lem : InForm d s q → eqb (dop_kind q.dop) no_dop ≡ true → (disk_asked d 12 q o s.disk).answer ≡ 0
  unfolding disk_asked disk_step answer
  idle_disk_lem (c, call, f) e =
      let w = (and_iff (leb q.reference 63 && node_form q.node) (table_form q.table)).0 call in
      let n = ((and_iff (leb q.reference 63) (node_form q.node)).0 w.0).1 in
      rw (f, n, w.1, idle_rows d s.disk q.dop q.node q.table e) refl

  -- so it answers as the cache does
  cache_decides : InForm d s q → eqb (dop_kind q.dop) no_dop ≡ true → (asked d s 12 q o).answer ≡ answer (cache_rows g s.cache 12 q)
  unfolding answer joined joined_answer
  cache_decides w e = rw (idle_disk_lem w e) (lowest_right _ ∙ lowest_right _ ∙ step_answer g s.cache 12 q)

  -- where 1 and 3 don't apply, all is in its form and there is no disk operation
  formed : conditions d s 12 q o 1 ≡ false → InForm d s q
  unfolding conditions step_of steps
  formed e =
      let h = simp (or_iff, or-false, not_iff) at e in
      let w = (and_iff (settings_form g && cache_form d s.cache) (call_form q)).0 h.0.0 in
      let f = ((and_iff (disk_form d s.disk && node_form q.node) (table_form q.table)).0 h.0.1.0).0 in
      (((and_iff (settings_form g) (cache_form d s.cache)).0 w.0).1, w.1, ((and_iff (disk_form d s.disk) (node_form q.node)).0 f).0)

  idle : conditions d s 12 q o 3 ≡ false → eqb (dop_kind q.dop) no_dop ≡ true
  unfolding conditions step_of steps
  idle e = let h = simp (or_iff, or-false, not_iff) at e in h.0.0

  pub accepted_form : (asked d s 12 q o).answer ≡ 0 → InForm d s q
  accepted_form e = formed ((answered_as d s (step 12 q o)).accepted.0 e 1)

  -- UNDER EITHER RULE

  -- 25 exactly where all is in its form, upstream allows the Freeze, the disk carries rule 2 and a frozen place is set
  pub joined_25_iff : ((asked d s 12 q o).answer ≡ 25) ↔
      (InForm d s q × Allowed d s.cache 12 q × (s.disk.rule ≡ 2) × FrozenPlaceSet (cache_vars s.cache))
  joined_25_iff = (
    (λ e. let a = (answered_as d s (step 12 q o)).lowest in
        let w = formed (a 1 (subst (λ m. 1 < m) (sym e) (omega arith))) in
        let i = idle (a 3 (subst (λ m. 3 < m) (sym e) (omega arith))) in
        let x = (freeze_25_iff g s.cache q).0 (sym (cache_decides w i) ∙ e) in
        (w, x.1, x.2, x.3)),
    (λ (w, k, two, u). cache_decides w (idle_call k) ∙ (freeze_25_iff g s.cache q).1 (form_limits w, k, two, u)),
  )

  -- under rule 1 accepted exactly where all is in its form and upstream allows it
  pub joined_freeze_rule_1 : s.disk.rule ≡ 1 → ((asked d s 12 q o).answer ≡ 0) ↔ (InForm d s q × Allowed d s.cache 12 q)
  joined_freeze_rule_1 one = (
    (λ e. let a = (answered_as d s (step 12 q o)).accepted.0 e in
        let w = formed (a 1) in
        (w, ((freeze_rule_1 g s.cache q one).0 (sym (cache_decides w (idle (a 3))) ∙ e)).1)),
    (λ (w, k). cache_decides w (idle_call k) ∙ (freeze_rule_1 g s.cache q one).1 (form_limits w, k)),
  )
