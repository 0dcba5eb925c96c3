-- Not in its written form: 1. Else what V, D and phase refuse; past them, what the step does, with the marks of what it leaves. Assumes nothing.
use Prim.Native.Nat.{ℕ}
use mathlib.Core.Bool.{true}
use mathlib.Core.Path.{◌∙◌, ◌≡◌, ap, sym}
use borrow.Author.Tests.{eqb-false}
use Rattle.base.proofs.Tests.{and_left}
use Rattle.blockcache.proofs.Bounds.{read_reference}
use Rattle.blockcache.proofs.Arms.{arm_moved, arm_shut, arm_stays, arm_unformed, arm_unnamed}
use Rattle.blockcache.proofs.Refusals.{refused_not_0}
use Rattle.blockcache.specs.Step.{answered, renewed_outcome, test_number}
use Rattle.bitmap.specs.Bitmap.{marks_on}
use Rattle.blockcache.specs.Next.{with_marks}
use Rattle.blockcache.specs.declared.CacheOutcome.{CacheOutcome}
use Rattle.blockcache.specs.declared.Marks.{Marks}
use Rattle.disklayout.specs.Device.{made}
use Rattle.cache.proofs.Cache.step.Goals as goal

-- what is done, with the marks made anew on a device that is made
renewed_is : (d : ℕ) (o does : CacheOutcome) (m : Marks) → made d ≡ true → m ≡ marks_on d o.cache.tables o.cache.outstanding.writes → o ≡ does →
    record { answer = o.answer; node = o.node; cache = with_marks o.cache m } ≡ renewed_outcome d does
renewed_is d o does m t e s = rw (e, t, s)

pub returns-then-not-settings_form : goal.returns-then-not-settings_form
returns-then-not-settings_form c =
    c.refused.ensures ∙ arm_unnamed _ _ _ _ (sym c.settings_form.ensures ∙ c.if-not-settings_form.true)

pub returns-then-not-cache_form-call_form : goal.returns-then-not-cache_form-call_form
returns-then-not-cache_form-call_form c =
    let named = sym c.settings_form.ensures ∙ c.if-not-settings_form.false in
    let bad = rw (c.call_form.ensures, c.cache_form.ensures) at c.if-not-cache_form-call_form.true in
    c.refused-then-not-cache_form-call_form.ensures ∙ arm_unformed _ _ _ _ named (bad)

pub returns-in-Err : goal.returns-in-Err
returns-in-Err c =
    let s = c.args.self.state in
    let named = sym c.settings_form.ensures ∙ c.if-not-settings_form.false in
    let good = rw (c.call_form.ensures, c.cache_form.ensures) at c.if-not-cache_form-call_form.false in
    let shut = sym (ap (λ r. test_number r) c.in-Err.is) ∙ c.gate.ensures in
    c.refused-in-Err.ensures ∙ ap (λ n. answered n s) shut
    ∙ arm_shut _ _ _ _ named (good) (λ z. eqb-false _ 0 (refused_not_0 c.in-Err.refusal) (shut ∙ z))

pub dispatch-o-requires : goal.dispatch-o-requires
dispatch-o-requires c =
    let a = c.args in
    let good = rw (c.call_form.ensures, c.cache_form.ensures) at c.if-not-cache_form-call_form.false in
    read_reference a.self.settings a.self.state a.q (and_left _ _ (good))

pub returns-then-not-moved : goal.returns-then-not-moved
returns-then-not-moved c =
    let named = sym c.settings_form.ensures ∙ c.if-not-settings_form.false in
    let good = rw (c.call_form.ensures, c.cache_form.ensures) at c.if-not-cache_form-call_form.false in
    let past = sym c.gate.ensures ∙ ap (λ r. test_number r) c.in_default.is in
    let stays = rw (c.relocates.ensures, c.dispatch-o.ensures) at c.if-not-moved.true in
    c.dispatch-o.ensures ∙ arm_stays _ _ _ _ named (good) past stays

pub returns : goal.returns
returns c =
    let named = sym c.settings_form.ensures ∙ c.if-not-settings_form.false in
    let good = rw (c.call_form.ensures, c.cache_form.ensures) at c.if-not-cache_form-call_form.false in
    let past = sym c.gate.ensures ∙ ap (λ r. test_number r) c.in_default.is in
    let moved = rw (c.relocates.ensures, c.dispatch-o.ensures) at c.if-not-moved.false in
    let made_device = and_left _ _ named in
    renewed_is _ _ _ _ made_device c.marks_of-o.ensures c.dispatch-o.ensures ∙ arm_moved _ _ _ _ named (good) past moved
