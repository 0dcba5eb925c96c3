-- A list of zeros by its count; else a scan with a flag, each place with its own test. Assumes nothing.
use mathlib.Core.Path.{◌∙◌, ◌≡◌, sym}
use borrow.Author.Rules.{rules}
use borrow.Author.Tests.{eq-eqb}
use lib.ListN.{length}
use Rattle.base.proofs.Scan.{all_end, all_none, all_turn}
use Rattle.sectortype.specs.Form.{succs_form}
use Rattle.sectortype.proofs.Forms.{zeros_form}
use Rattle.sector.proofs.form.succs_form.Goals as goal

pub returns-then-places_zero : goal.returns-then-places_zero
returns-then-places_zero c =
    let l : length c.args.s.now.at ≡ 8 = search rules in
    zeros_form _ l (sym c.places_zero.ensures ∙ c.if-places_zero.true)

pub loop-i-init : goal.loop-i-init
loop-i-init c = all_none _

pub loop-i-preserved : goal.loop-i-preserved
loop-i-preserved c = all_turn _ _ c.loop-i.invariant c.succ_ok-good.ensures

pub returns : goal.returns
unfolding succs_form
returns c =
    let l : length c.args.s.now.at ≡ 8 = search rules in
    simp (eq-eqb _ _ l, all_end _ c.loop-i.invariant c.loop-i.auto.i-end c.loop-i-test.false)
