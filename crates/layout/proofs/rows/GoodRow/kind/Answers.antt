-- By the address first, then by what the callees ensure. Assumes nothing.
use mathlib.Core.Path.{sym, ◌∙◌}
use native.Mathlib.Omega.{arith}
use Rattle.disklayout.specs.Kinds.{kind_of}
use Rattle.disklayout.specs.Layout.{valid_superblock1_location, valid_superblock2_location, valid_node_location}
use Rattle.disklayout.proofs.PlaceKinds.{kind_low, kind_high, kind_at_node_lem, kind_between}
use Rattle.layout.proofs.rows.GoodRow.kind.Goals as goal

pub returns-then-eq : goal.returns-then-eq
unfolding valid_superblock1_location kind_of
returns-then-eq c = rw (sym c.eq.ensures ∙ c.if-eq.true)

pub returns-then-eq-2 : goal.returns-then-eq-2
unfolding valid_superblock1_location valid_superblock2_location kind_of
returns-then-eq-2 c = rw (sym c.eq.ensures ∙ c.if-eq.false, sym c.eq-else-eq.ensures ∙ c.if-eq-2.true)

pub returns-else-eq-2 : goal.returns-else-eq-2
unfolding valid_superblock1_location valid_superblock2_location
returns-else-eq-2 c =
    let low = kind_low _ c.args.self.good c.args.loc (omega (arith, c.if-loc-lt-JOURNAL_START.true)) in
    rw (low, sym c.eq.ensures ∙ c.if-eq.false, sym c.eq-else-eq.ensures ∙ c.if-eq-2.false)

pub returns-then-is_node_addr : goal.returns-then-is_node_addr
returns-then-is_node_addr c =
    rw (kind_at_node_lem _ c.args.self.good c.args.loc (sym c.is_node_addr.ensures ∙ c.if-is_node_addr.true), c.kind_at_node.ensures)

pub returns-else-is_node_addr : goal.returns-else-is_node_addr
unfolding valid_node_location
returns-else-is_node_addr c =
    rw (
      kind_high _ c.args.self.good c.args.loc (rw c.first_node.ensures at c.if-first_node-loc.true),
      sym c.is_node_addr.ensures ∙ c.if-is_node_addr.false,
    )

pub returns-then-is_journal : goal.returns-then-is_journal
returns-then-is_journal c =
    rw (
      kind_between _ c.args.self.good c.args.loc c.if-loc-lt-JOURNAL_START.false (rw c.first_node.ensures at c.if-first_node-loc.false),
      sym c.is_journal.ensures ∙ c.if-is_journal.true,
    )

pub returns-then-is_table : goal.returns-then-is_table
returns-then-is_table c =
    rw (
      kind_between _ c.args.self.good c.args.loc c.if-loc-lt-JOURNAL_START.false (rw c.first_node.ensures at c.if-first_node-loc.false),
      sym c.is_journal.ensures ∙ c.if-is_journal.false,
      sym c.is_table.ensures ∙ c.if-is_table.true,
    )

pub returns-else-is_table : goal.returns-else-is_table
returns-else-is_table c =
    rw (
      kind_between _ c.args.self.good c.args.loc c.if-loc-lt-JOURNAL_START.false (rw c.first_node.ensures at c.if-first_node-loc.false),
      sym c.is_journal.ensures ∙ c.if-is_journal.false,
      sym c.is_table.ensures ∙ c.if-is_table.false,
    )
