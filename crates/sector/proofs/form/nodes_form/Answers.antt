-- The loop counts the places in use and judges each. Assumes nothing.
use mathlib.Core.Path.{◌∙◌, ◌≡◌}
use borrow.Author.Rules.{rules}
use borrow.Author.Tests.{eq-eqb}
use native.Mathlib.Omega.{arith}
use lib.ListN.{length}
use Rattle.base.proofs.Chains.{byte_is_bit}
use Rattle.base.proofs.Lists.{unmapped}
use Rattle.base.proofs.Scan.{all_end, all_none, all_turn, bit_le, count_le, count_none, count_turn, at_end}
use Rattle.base.specs.Scan.{count_below}
use Rattle.sectortype.specs.Form.{present_at}
use Rattle.sectortype.specs.Form.{nodes_form, slot_at}
use Rattle.sector.proofs.form.nodes_form.Goals as goal

pub loop-s-init : goal.loop-s-init
loop-s-init c = record { counted = count_none _; good = all_none _ }

pub overflow_add-n : goal.overflow_add-n
overflow_add-n c =
    let i = c.loop-s.s-index in
    omega (
      arith,
      count_le (present_at c.args.m.slots) i,
      c.loop-s.invariant.counted,
      bit_le (slot_at c.args.m i).present,
      byte_is_bit (slot_at c.args.m i).present,
    )

pub loop-s-preserved : goal.loop-s-preserved
loop-s-preserved c = record {
  counted = count_turn _ _ c.loop-s.invariant.counted (c.from-n.ensures ∙ byte_is_bit _);
  good = all_turn _ _ c.loop-s.invariant.good c.slot_form-good.ensures;
}

pub returns : goal.returns
unfolding nodes_form
returns c =
    let l : length c.args.m.slots ≡ 64 = search (rules, unmapped) in
    let n = at_end (count_below (present_at c.args.m.slots)) c.loop-s.invariant.counted c.loop-s.auto.s-index-end c.loop-s-test.false in
    simp (eq-eqb _ _ l, n, all_end _ c.loop-s.invariant.good c.loop-s.auto.s-index-end c.loop-s-test.false)
