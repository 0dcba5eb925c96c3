-- `numbering::listed_if` meets its contract. Assumes nothing.
use Rattle.smalltable.specs.Tables.{listed_if}
use Rattle.numbering.proofs.listed_if.Goals as goal

pub returns-then-on : goal.returns-then-on
unfolding listed_if
returns-then-on c = simp c.if-on.true

pub returns : goal.returns
unfolding listed_if
returns c = simp c.if-on.false
