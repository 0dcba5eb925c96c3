-- Step 19, let go: accepted exactly where its predicate allows it. Assumes nothing.
use Prim.Native.Nat.{ℕ}
use mathlib.Core.Bool.{true}
use mathlib.Core.Logic.{inl, inr, ⊎_elim}
use mathlib.Core.Path.{◌∙◌, ◌≡◌, ap, refl, sym}
use Rattle.base.proofs.Tests.{not_iff}
use Rattle.blockcache.proofs.Bridge.{awaits_iff}
use Rattle.blockcache.proofs.Forms.{PartsForm, WellFormed, reads_requests}
use Rattle.blockcache.proofs.Frames.{Complete, Exact, Sound}
use Rattle.blockcache.proofs.OpKinds.{loading_is, on_ready_iff}
use Rattle.blockcache.proofs.ReadAnswers.{awaits_read_is, table_not_node}
use Rattle.blockcache.proofs.Waiting.{reads_has, reads_remove}
use Rattle.blockcache.specs.Abstract.{ready_vars}
use Rattle.blockcache.specs.Form.{not_waiting}
use Rattle.blockcache.specs.LetGo.{LetNodeGo}
use Rattle.blockcache.specs.Next.{with_awaited, with_reads}
use Rattle.blockcache.specs.Ops.{dop_id}
use Rattle.blockcache.specs.Rows.{awaits_read}
use Rattle.blockcache.specs.Steps.{let_go_step}
use Rattle.blockcache.specs.Upstream.{set_reads}
use Rattle.blockcache.specs.declared.CacheState.{CacheState}
use Rattle.blockcache.specs.declared.Call.{Call}
use Rattle.blockcache.specs.declared.Settings.{Settings}
use Rattle.queue.specs.Queue.{remove_of}
use Rattle.queue.specs.declared.Requests.{Requests}

module _ (g : Settings) (c : CacheState) (q : Call) (w : WellFormed g c q) where
  abbrev f : PartsForm c
  f = w.form

  abbrev id : ℕ
  id = dop_id q.dop

  abbrev reading : Requests
  reading = c.outstanding.reads

  let_go_sound : Sound g c q let_go_step
  let_go_sound taken k =
      ⊎_elim
      (λ x. let after = with_reads c (remove_of reading id) in
      inl (
        x.0,
        x.1,
        rw x.0
            ((on_ready_iff after (λ y. LetNodeGo (ready_vars c) y id)).1 (
              x.1,
              record {
                awaited = reads_has reading id
                    ∙ x.2;
                next = ap (set_reads (ready_vars c)) (reads_remove reading (reads_requests c f) id x.2);
              },
            )),
      ))
      (λ x. inr (
        x.0,
        x.1,
        rw (table_not_node q.dop x.0) (record
            { awaited = (awaits_iff c.awaited id).0 x.2; next = loading_is (with_awaited c not_waiting) x.1 }),
      ))
      ((awaits_read_is c q.dop).0 ((not_iff (awaits_read c q.dop)).0 k.0))

  let_go_complete : Complete g c q let_go_step
  let_go_complete s' ns u =
      let a : awaits_read c q.dop ≡ true =
      (awaits_read_is c q.dop).1
      (⊎_elim (λ x. inl (x.0, x.1, sym (reads_has reading id) ∙ x.2.2.awaited))
      (λ x. inr (x.0, x.1, (awaits_iff c.awaited id).1 x.2.awaited)) u) in
      ((not_iff (awaits_read c q.dop)).1 a, tt)

  pub let_go_exact : Exact g c q let_go_step
  let_go_exact = record { sound = let_go_sound; complete = let_go_complete; free = λ k. refl }
