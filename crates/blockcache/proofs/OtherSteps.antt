-- Steps 12 to 14, 18 and 20, without a list: accepted exactly where upstream allows them, but for Freeze's narrowing, under rule 2, and
-- NoOp's. Assumes nothing.
use mathlib.Core.Bool.{false}
use mathlib.Core.Path.{◌≡◌, refl}
use Rattle.base.proofs.Flagged.{flagged_is_iff, flagged_none_iff}
use Rattle.base.proofs.Refusals.{Clear}
use Rattle.base.proofs.Tests.{not_iff, or_iff}
use Rattle.blockcache.proofs.Forms.{WellFormed}
use Rattle.blockcache.proofs.Frames.{Complete, Exact, Sound}
use Rattle.blockcache.proofs.IdleOps.{idle_kind, idle_op}
use Rattle.blockcache.proofs.OpKinds.{on_ready_iff}
use Rattle.blockcache.specs.Abstract.{ready_vars}
use Rattle.blockcache.specs.Narrowings.{step_narrowed}
use Rattle.blockcache.specs.Next.{step_next}
use Rattle.blockcache.specs.Rows.{own_rows}
use Rattle.blockcache.specs.Steps.{clean_up_step, crash_step, freeze_step, no_op_step, transaction_step}
use Rattle.blockcache.specs.Upstream.{CleanUp, Freeze}
use Rattle.blockcache.specs.declared.CacheState.{CacheState}
use Rattle.blockcache.specs.declared.Call.{Call}
use Rattle.blockcache.specs.declared.Settings.{Settings}
use Rattle.sectortype.specs.Abstract.{indirection_table}

module _ (g : Settings) (c : CacheState) (q : Call) (w : WellFormed g c q) where
  -- Freeze

  freeze_sound : Sound g c q freeze_step
  freeze_sound taken k =
      (on_ready_iff (step_next c q freeze_step) (λ y. Freeze (ready_vars c) y)).1
      (taken.2, record { no_table_write = (flagged_none_iff c.awaited.waiting c.awaited.id).0 k.0; next = refl })

  freeze_complete : Complete g c q freeze_step
  freeze_complete s' ns (y, e, p) = ((flagged_none_iff c.awaited.waiting c.awaited.id).1 p.no_table_write, (ns, tt))

  pub freeze_exact : Exact g c q freeze_step
  freeze_exact = record { sound = freeze_sound; complete = freeze_complete; free = λ k. k.1.0 }

  -- CleanUp

  clean_up_sound : Sound g c q clean_up_step
  clean_up_sound taken k =
      let h = simp (not_iff, or_iff) at k in
      let there = h.1.0 in
      (on_ready_iff (step_next c q clean_up_step) (λ y. CleanUp (ready_vars c) y)).1 (
        taken.2,
        record {
          no_table_write = (flagged_none_iff c.awaited.waiting c.awaited.id).0 h.0;
          loc = c.places.frozen;
          frozen_loc = (flagged_is_iff c.places.isfrozen c.places.frozen c.places.frozen).1 (there.0, refl);
          table = indirection_table c.tables.frozen;
          frozen = (flagged_is_iff c.tables.isfrozen (indirection_table c.tables.frozen) (indirection_table c.tables.frozen)).1
              (there.1, refl);
          next = refl;
        },
      )

  clean_up_complete : Complete g c q clean_up_step
  clean_up_complete s' ns (y, e, p) =
      simp (not_iff, or_iff) (
        (flagged_none_iff c.awaited.waiting c.awaited.id).1 p.no_table_write,
        (
          (
            ((flagged_is_iff c.places.isfrozen c.places.frozen p.loc).0 p.frozen_loc).0,
            ((flagged_is_iff c.tables.isfrozen (indirection_table c.tables.frozen) p.table).0 p.frozen).0,
          ),
          tt,
        ),
      )

  pub clean_up_exact : Exact g c q clean_up_step
  clean_up_exact = record { sound = clean_up_sound; complete = clean_up_complete; free = λ k. refl }

  -- NoOp

  no_op_sound : Sound g c q no_op_step
  no_op_sound taken k = record { op = idle_op c q.node q.table q.dop taken.1 k.0; next = refl }

  -- what it takes is no awaited read's answer
  no_op_free : Clear (own_rows g c q no_op_step) → step_narrowed g c q no_op_step ≡ false
  no_op_free k = k.1.0

  no_op_complete : Complete g c q no_op_step
  no_op_complete s' ns p = ((idle_kind c q.node q.table q.dop p.op).1, (ns, tt))

  pub no_op_exact : Exact g c q no_op_step
  no_op_exact = record { sound = no_op_sound; complete = no_op_complete; free = no_op_free }

  -- Crash, the cache's half

  crash_sound : Sound g c q crash_step
  crash_sound taken k = refl

  crash_complete : Complete g c q crash_step
  crash_complete s' ns i = tt

  pub crash_exact : Exact g c q crash_step
  crash_exact = record { sound = crash_sound; complete = crash_complete; free = λ k. refl }

  -- Transaction, of an empty list

  pub transaction_exact : Exact g c q transaction_step
  transaction_exact = record { sound = λ taken k. refl; complete = λ s' ns e. tt; free = λ k. refl }
