-- What step 20 refuses comes before the length (`before_is`). Assumes nothing.
use Prim.Native.Nat.{ℕ}
use mathlib.Core.Bool.{◌&&◌, false, true}
use mathlib.Core.Path.{◌∙◌, ◌≡◌, ap, subst, sym}
use borrow.Author.Tests.{eqb-true}
use lib.Dec.{eqb, ltb}
use Rattle.base.proofs.Tests.{and_false_iff, and_iff, split}
use Rattle.base.specs.Refusals.{answer}
use Rattle.blockcache.proofs.Outcomes.{step_answer}
use Rattle.blockcache.proofs.Walk.{before_is}
use Rattle.blockcache.specs.Operations.{ended, operations_before}
use Rattle.blockcache.specs.Step.{cache_rows, cache_step}
use Rattle.blockcache.specs.Walk.{begun}
use Rattle.blockcache.specs.declared.CacheOutcome.{CacheOutcome}
use Rattle.blockcache.specs.declared.CacheState.{CacheState}
use Rattle.blockcache.specs.declared.Call.{Call}
use Rattle.blockcache.specs.declared.Settings.{Settings}
use Rattle.cache.proofs.Cache.begun.Goals as goal

module _ (g : Settings) (c : CacheState) (q : Call) (n : ℕ) where
  abbrev twenty : ℕ
  twenty = answer (cache_rows g c 20 q)

  too_long : (eqb twenty 0 && ltb 32 n) ≡ true → ended 24 0 c ≡ begun g c q n
  unfolding begun
  too_long t =
      let h = (and_iff (eqb twenty 0) (ltb 32 n)).0 t in
      let e : operations_before g c q n ≡ 24 = before_is g c q n ∙ rw (h.0, h.1) in
      sym (ap (λ k. ended k 0 c) e)

  within : (eqb twenty 0 && ltb 32 n) ≡ false → ended twenty 0 c ≡ begun g c q n
  unfolding begun
  within t =
      let e : operations_before g c q n ≡ twenty = before_is g c q n
      ∙ split (eqb twenty 0) (λ z. rw (z, (and_false_iff (eqb twenty 0) (ltb 32 n)).0 t z) (sym (eqb-true twenty 0 z))) (λ z. rw z) in
      sym (ap (λ k. ended k 0 c) e)

  -- the same of what the step's outcome x answers
  begun_long : (x : CacheOutcome) → x ≡ cache_step g c 20 q → (eqb x.answer 0 && ltb 32 n) ≡ true → ended 24 0 c ≡ begun g c q n
  begun_long x e t = too_long (subst (λ (k : ℕ). (eqb k 0 && ltb 32 n) ≡ true) (ap (λ o. o.answer) e ∙ step_answer g c 20 q) t)

  begun_within : (x : CacheOutcome) → x ≡ cache_step g c 20 q → (eqb x.answer 0 && ltb 32 n) ≡ false →
      ended x.answer 0 c ≡ begun g c q n
  begun_within x e t =
      let a : x.answer ≡ twenty = ap (λ o. o.answer) e ∙ step_answer g c 20 q in
      ap (λ k. ended k 0 c) a ∙ within (subst (λ (k : ℕ). (eqb k 0 && ltb 32 n) ≡ false) a t)

pub returns-then-long : goal.returns-then-long
returns-then-long c =
    let a = c.args in
    rw c.number-answer.ensures (begun_long a.self.settings a.self.state a.q a.length _ c.step-refused.ensures c.if-long.true)

pub returns-else-long : goal.returns-else-long
returns-else-long c =
    let a = c.args in
    begun_within a.self.settings a.self.state a.q a.length _ c.step-refused.ensures c.if-long.false
