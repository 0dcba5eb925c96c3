-- After a refusal the cache as it was; else with the marks that `marks_of` ensures, on a device that is made. Assumes nothing.
use mathlib.Core.Bool.{Bool, ◌&&◌, false, true}
use mathlib.Core.Path.{◌≡◌, subst}
use lib.Dec.{eqb}
use Rattle.base.proofs.Tests.{and_false_iff, and_iff, split}
use Rattle.blockcache.specs.Form.{settings_form}
use Rattle.bitmap.specs.Bitmap.{marks_on}
use Rattle.blockcache.specs.Next.{with_marks}
use Rattle.blockcache.specs.Operations.{ended, kept}
use Rattle.blockcache.specs.Walk.{finished}
use Rattle.blockcache.specs.declared.CacheState.{CacheState}
use Rattle.blockcache.specs.declared.Marks.{Marks}
use Rattle.blockcache.specs.declared.OperationsOutcome.{OperationsOutcome}
use Rattle.blockdisk.specs.Form.{is_rule}
use Rattle.disklayout.specs.Device.{made}
use Rattle.blockcache.specs.declared.Settings.{Settings}
use Rattle.cache.proofs.Cache.finished.Goals as goal

module _ (g : Settings) (c : CacheState) (w : OperationsOutcome) where
  refused : (settings_form g && eqb w.answer 0) ≡ false → ended w.answer w.place c ≡ finished g c w
  unfolding finished kept
  refused f = split (settings_form g) (λ s. rw (s, (and_false_iff (settings_form g) (eqb w.answer 0)).0 f s)) (λ s. rw s)

  taken : (m : Marks) → m ≡ marks_on g.device w.cache.tables w.cache.outstanding.writes → (settings_form g && eqb w.answer 0) ≡ true →
      ended 0 0 (with_marks w.cache m) ≡ finished g c w
  unfolding finished kept
  taken m e t =
      let h = (and_iff (settings_form g) (eqb w.answer 0)).0 t in
      let r = (and_iff (made g.device) (is_rule g.rule)).0 h.0 in
      rw (e, r.0, r.1, h.1)

pub returns-then-not-settings_form-w : goal.returns-then-not-settings_form-w
returns-then-not-settings_form-w c =
    let a = c.args in
    let bad = subst (λ (b : Bool). (b && eqb a.w.answer 0) ≡ false) c.settings_form.ensures c.if-not-settings_form-w.true in
    refused a.self.settings a.self.state a.w (bad)

pub returns : goal.returns
returns c =
    let a = c.args in
    let good = subst (λ (b : Bool). (b && eqb a.w.answer 0) ≡ true) c.settings_form.ensures c.if-not-settings_form-w.false in
    taken a.self.settings a.self.state a.w _ c.marks_of-cache.ensures (good)
