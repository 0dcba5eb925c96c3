-- Arm by arm, by what the function called there ensures. Assumes nothing.
use mathlib.Core.Path.{sym}
use Rattle.blockcache.specs.Steps.{step_of, steps}
use borrow.Author.Rules.{rules}
use Rattle.blocksystem.proofs.EveryStep.{pictures_same}
use Rattle.blocksystem.specs.Names.{pictures_after}
use Rattle.system.proofs.pictures.pictures_after.Goals as goal

pub returns-in-4 : goal.returns-in-4
unfolding pictures_after step_of steps
returns-in-4 c = simp c.in-4.is (rw c.vop_loc-l.ensures at c.frozen_named.ensures)

pub returns-in-5 : goal.returns-in-5
unfolding pictures_after step_of steps
returns-in-5 c = simp c.in-5.is c.removed.ensures

pub returns-in-10 : goal.returns-in-10
unfolding pictures_after step_of steps
returns-in-10 c = simp c.in-10.is (rw c.vop_loc-l.ensures at c.started_at.ensures)

pub returns-in-12 : goal.returns-in-12
unfolding pictures_after step_of steps
returns-in-12 c = simp c.in-12.is c.freeze.ensures

pub returns-in-13 : goal.returns-in-13
unfolding pictures_after step_of steps
returns-in-13 c = simp c.in-13.is c.clean_up.ensures

pub returns-in-15 : goal.returns-in-15
unfolding pictures_after step_of steps
returns-in-15 c = simp c.in-15.is c.set_node.ensures

pub returns-in-16 : goal.returns-in-16
unfolding pictures_after step_of steps
returns-in-16 c = simp c.in-16.is c.set_node-in-16.ensures

pub returns-in_default : goal.returns-in_default
returns-in_default c =
    sym (pictures_same c.args.number c.args.q c.args.t (search rules) (search rules) (search rules) (search rules) (search rules)
    (search rules) (search rules))
