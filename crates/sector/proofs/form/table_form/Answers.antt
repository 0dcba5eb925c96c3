-- The loop counts the places in use and judges each. Assumes nothing.
use mathlib.Core.Path.{◌∙◌, ◌≡◌}
use borrow.Author.Rules.{rules}
use borrow.Author.Tests.{eq-eqb}
use native.Mathlib.Omega.{arith}
use lib.ListN.{length}
use Rattle.base.proofs.Chains.{byte_is_bit}
use Rattle.base.proofs.Lists.{unmapped}
use Rattle.base.proofs.Scan.{all_end, all_none, all_turn, bit_le, count_le, count_none, count_turn, at_end}
use Rattle.base.specs.Scan.{count_below}
use Rattle.sectortype.specs.Form.{allocated_at, entry_at}
use Rattle.sectortype.specs.Form.{table_form}
use Rattle.sector.proofs.form.table_form.Goals as goal

pub loop-e-init : goal.loop-e-init
loop-e-init c = record { counted = count_none _; good = all_none _ }

pub overflow_add-n : goal.overflow_add-n
overflow_add-n c =
    let i = c.loop-e.e-index in
    omega (
      arith,
      count_le (allocated_at c.args.t.entries) i,
      c.loop-e.invariant.counted,
      bit_le (entry_at c.args.t i).allocated,
      byte_is_bit (entry_at c.args.t i).allocated,
    )

pub loop-e-preserved : goal.loop-e-preserved
loop-e-preserved c = record {
  counted = count_turn _ _ c.loop-e.invariant.counted (c.from-n.ensures ∙ byte_is_bit _);
  good = all_turn _ _ c.loop-e.invariant.good c.entry_form-good.ensures;
}

pub returns : goal.returns
unfolding table_form
returns c =
    let l : length c.args.t.entries ≡ 64 = search (rules, unmapped) in
    let n = at_end (count_below (allocated_at c.args.t.entries)) c.loop-e.invariant.counted c.loop-e.auto.e-index-end c.loop-e-test.false in
    simp (eq-eqb _ _ l, n, all_end _ c.loop-e.invariant.good c.loop-e.auto.e-index-end c.loop-e-test.false)
