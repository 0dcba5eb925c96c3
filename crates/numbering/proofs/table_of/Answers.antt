-- `numbering::table_of` meets its contract. Assumes nothing.
use Rattle.smalltable.specs.Tables.{table_of}
use Rattle.numbering.proofs.table_of.Goals as goal

pub returns : goal.returns
unfolding table_of
returns c =
    simp (
      c.with_entry.ensures,
      c.with_entry-u.ensures,
      c.with_entry-t.ensures,
      c.empty_table-none.ensures,
      c.small_entry-c.ensures,
      c.small_entry-b.ensures,
      c.small_entry-a.ensures,
      c.has-two.ensures,
      c.has-one.ensures,
      c.has-zero.ensures,
    )
