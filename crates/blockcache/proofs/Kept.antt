-- An accepted call keeps the cache in its written form, and upstream's Inv, widened as UpstreamInv says. Assumes nothing.
use Prim.Native.Nat.{ℕ}
use mathlib.Core.Bool.{true}
use mathlib.Core.Path.{◌≡◌, subst, sym}
use Rattle.base.specs.Refusals.{answer}
use Rattle.blockcache.proofs.Demand2.{store_allowed}
use Rattle.blockcache.proofs.EveryStep.{next_form, next_inv}
use Rattle.blockcache.proofs.MarkLaws.{renewed_form}
use Rattle.blockcache.proofs.MarkSteps.{next_last}
use Rattle.blockcache.proofs.Frames.{gate_iff}
use Rattle.blockcache.proofs.Numbers.{call_accepted_iff}
use Rattle.blockcache.specs.Abstract.{cache_vars, call_op}
use Rattle.blockcache.specs.Form.{cache_form}
use Rattle.blockcache.specs.Next.{step_next}
use Rattle.blockcache.specs.Rows.{own_rows, takes}
use Rattle.blockcache.specs.Step.{cache_next, cache_rows}
use Rattle.blockcache.specs.Upstream.{Init, Variables}
use Rattle.blockcache.specs.UpstreamInv.{Inv}
use Rattle.blockcache.specs.declared.CacheState.{CacheState}
use Rattle.blockcache.specs.declared.Call.{Call}
use Rattle.blockcache.specs.declared.Settings.{Settings}

pub cache_form_kept : (g : Settings) (c : CacheState) (n : ℕ) (q : Call) → answer (cache_rows g c n q) ≡ 0 →
    cache_form g.device (cache_next g.device c n q) ≡ true
cache_form_kept g c n q e =
    let x = (call_accepted_iff g c n q).0 e in
    let h = (gate_iff (takes c.phase q.vop q.dop x.step) (own_rows g c q x.step)).0 x.clear in
    rw x.is (renewed_form g.device (step_next c q x.step) (next_form g c q x.form x.step h.0 h.1) (next_last g c q x.form x.step))

-- an accepted call keeps it
pub inv_kept : (g : Settings) (c : CacheState) (n : ℕ) (q : Call) → Inv g.device (cache_vars c) → answer (cache_rows g c n q) ≡ 0 →
    Inv g.device (cache_vars (cache_next g.device c n q))
inv_kept g c n q i e =
    let a = store_allowed g c n q e in
    next_inv g.device (cache_vars c) (cache_vars (cache_next g.device c n q)) (call_op q) q.vop q.reference q.node a.0 a.2 i

-- Init
pub inv_init : (d : ℕ) (s : Variables) → Init s → Inv d s
inv_init d s e = subst (Inv d) (sym e) tt
