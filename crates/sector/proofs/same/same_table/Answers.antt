-- A scan with a flag. Assumes nothing.
use Rattle.base.proofs.Scan.{all_end, all_none, all_turn}
use Rattle.sectortype.specs.Same.{same_table}
use Rattle.sector.proofs.same.same_table.Goals as goal

pub loop-i-init : goal.loop-i-init
loop-i-init c = all_none _

pub loop-i-preserved : goal.loop-i-preserved
loop-i-preserved c = all_turn _ _ c.loop-i.invariant c.same_entry-good.ensures

pub returns : goal.returns
unfolding same_table
returns c = simp (all_end _ c.loop-i.invariant c.loop-i.auto.i-end c.loop-i-test.false)
