-- The theorems said of cache_step, which is what the code's contract equates: its answer is that of the rows, a refused call leaves the cache as it
-- was, and every call, accepted or refused, keeps the written form and upstream's Inv. Assumes nothing.
use Prim.Native.Nat.{ℕ}
use mathlib.Core.Bool.{cond, false, true}
use mathlib.Core.List.{List}
use mathlib.Core.Path.{◌∙◌, ◌≡◌, ap, subst, sym}
use borrow.Author.Tests.{eq-eqb, eqb-false, eqb-true, ne_eqb}
use lib.Dec.{eqb}
use Rattle.base.proofs.Tests.{cond_same, split}
use Rattle.base.specs.Refusals.{Row, answer}
use Rattle.blockcache.proofs.Kept.{cache_form_kept, inv_kept}
use Rattle.blockcache.proofs.Gate.{step_is}
use Rattle.blockcache.specs.Abstract.{cache_vars}
use Rattle.blockcache.specs.Form.{cache_form}
use Rattle.blockcache.specs.Step.{cache_next, cache_rows, cache_step, node_of}
use Rattle.blockcache.specs.Steps.{is_read}
use Rattle.blockcache.specs.UpstreamInv.{Inv}
use Rattle.blockcache.specs.declared.CacheState.{CacheState}
use Rattle.blockcache.specs.declared.Call.{Call}
use Rattle.blockcache.specs.declared.Settings.{Settings}
use Rattle.sectortype.specs.Form.{zero_node}

module _ (g : Settings) (c : CacheState) (n : ℕ) (q : Call) where
  abbrev rows : List Row
  rows = cache_rows g c n q

  abbrev next : CacheState
  next = cache_next g.device c n q

  pub step_answer : (cache_step g c n q).answer ≡ answer rows
  step_answer = ap (λ o. o.answer) (step_is g c n q)

  pub step_cache : (cache_step g c n q).cache ≡ cond (eqb (answer rows) 0) next c
  step_cache = ap (λ o. o.cache) (step_is g c n q)

  pub step_node : (cache_step g c n q).node ≡ cond (eqb (answer rows) 0) (node_of c n q) zero_node
  step_node = ap (λ o. o.node) (step_is g c n q)

  pub step_taken : answer rows ≡ 0 → (cache_step g c n q).cache ≡ next
  step_taken e = step_cache ∙ rw (eq-eqb (answer rows) 0 e)

  pub step_refused : (answer rows ≡ 0 → ⊥) → (cache_step g c n q).cache ≡ c
  step_refused h = step_cache ∙ rw (ne_eqb (answer rows) 0 h)

  -- what holds of the cache before and of the next one of an accepted call holds after the call
  step_keeps : (P : CacheState → Type 0) → P c → (answer rows ≡ 0 → P next) → P (cache_step g c n q).cache
  step_keeps P p k =
      split (eqb (answer rows) 0)
      (λ t. let e = eqb-true (answer rows) 0 t in subst P (sym (step_taken e)) (k e))
      (λ t. subst P (sym (step_refused (eqb-false (answer rows) 0 t))) p)

  pub step_form : cache_form g.device c ≡ true → cache_form g.device (cache_step g c n q).cache ≡ true
  step_form f = step_keeps (λ x. cache_form g.device x ≡ true) f (cache_form_kept g c n q)

  pub step_inv : Inv g.device (cache_vars c) → Inv g.device (cache_vars (cache_step g c n q).cache)
  step_inv i = step_keeps (λ x. Inv g.device (cache_vars x)) i (inv_kept g c n q i)

-- THE NODE

-- with an accepted read it is the cached node, the one that cache_read speaks of
pub cache_node : (g : Settings) (c : CacheState) (q : Call) → answer (cache_rows g c 17 q) ≡ 0 → (cache_step g c 17 q).node ≡ node_of c 17 q
cache_node g c q e = step_node g c 17 q ∙ rw (eq-eqb (answer (cache_rows g c 17 q)) 0 e)

-- with every other step it is zeros
pub cache_no_node : (g : Settings) (c : CacheState) (n : ℕ) (q : Call) → is_read n ≡ false → (cache_step g c n q).node ≡ zero_node
cache_no_node g c n q e = step_node g c n q ∙ rw (e, cond_same (eqb (answer (cache_rows g c n q)) 0) zero_node)
