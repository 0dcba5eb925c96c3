-- Three counts of the references passed. Assumes nothing.
use native.Mathlib.Omega.{arith}
use borrow.Author.Rules.{rules}
use Rattle.base.proofs.Scan.{count_none, count_turn}
use Rattle.blocksystem.proofs.Tallies.{count_end, count_fits, tally_fits}
use Rattle.blocksystem.specs.Audit.{counted, tally}
use Rattle.system.proofs.Store.audit.Goals as goal

pub loop-i-init : goal.loop-i-init
loop-i-init c = (count_none _, count_none _, count_none _)

pub overflow_add-a : goal.overflow_add-a
overflow_add-a c = omega (arith, count_fits _ _ c.loop-i.invariant.0, tally_fits _ c.lost-a.ensures)

pub overflow_add-b : goal.overflow_add-b
overflow_add-b c = omega (arith, count_fits _ _ c.loop-i.invariant.1, tally_fits _ c.added-b.ensures)

pub overflow_add-c : goal.overflow_add-c
overflow_add-c c = omega (arith, count_fits _ _ c.loop-i.invariant.2, tally_fits _ c.altered-c.ensures)

pub loop-i-preserved : goal.loop-i-preserved
unfolding tally
loop-i-preserved c = (
  count_turn _ _ c.loop-i.invariant.0 (rw (c.through_table-y.ensures, c.table_at-through.ensures) at c.lost-a.ensures),
  count_turn _ _ c.loop-i.invariant.1 (rw (c.through_table-y.ensures, c.table_at-through.ensures) at c.added-b.ensures),
  count_turn _ _ c.loop-i.invariant.2 (rw (c.through_table-y.ensures, c.table_at-through.ensures) at c.altered-c.ensures),
)

pub returns : goal.returns
unfolding counted
returns c =
    let l = count_end _ c.loop-i.invariant.0 c.loop-i.auto.i-end c.loop-i-test.false in
    let m = count_end _ c.loop-i.invariant.1 c.loop-i.auto.i-end c.loop-i-test.false in
    let n = count_end _ c.loop-i.invariant.2 c.loop-i.auto.i-end c.loop-i-test.false in
    simp (l, m, n)
