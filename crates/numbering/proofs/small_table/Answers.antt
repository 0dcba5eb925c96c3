-- `numbering::small_table` meets its contract. Assumes nothing.
use borrow.Author.Tests.{leb-true}
use Rattle.base.proofs.Tests.{and_left}
use Rattle.smalltable.specs.Tables.{small_table}
use Rattle.numbering.proofs.small_table.Goals as goal

pub table_of-requires : goal.table_of-requires
table_of-requires c = leb-true _ 2 (and_left _ _ c.if-device-number.true)

pub returns-then-device-number : goal.returns-then-device-number
unfolding small_table
returns-then-device-number c = simp (c.table_of.ensures, c.small_sets.ensures, c.if-device-number.true)

pub returns : goal.returns
unfolding small_table
returns c = simp c.if-device-number.false
