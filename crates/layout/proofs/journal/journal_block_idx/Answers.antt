-- On a device that is made by what the callee ensures on its row, on any other 1. Assumes nothing.
use mathlib.Core.Path.{sym, ◌∙◌}
use Rattle.disklayout.specs.Kinds.{kind_holds}
use Rattle.disklayout.proofs.Facts.{journal_iff}
use Rattle.disklayout.proofs.Results.{flag_yes_iff}
use Rattle.layout.proofs.journal.journal_block_idx.Goals as goal

pub block_idx-requires : goal.block_idx-requires
unfolding kind_holds
block_idx-requires c =
    let h = (flag_yes_iff c.args.device _).0 (sym c.is_kind.ensures ∙ c.if-is_kind.true) in ((journal_iff _ _).0 h.1).high

pub returns-then-is_kind : goal.returns-then-is_kind
unfolding kind_holds
returns-then-is_kind c = rw (sym c.is_kind.ensures ∙ c.if-is_kind.true, c.block_idx.ensures)

pub returns-else-is_kind : goal.returns-else-is_kind
unfolding kind_holds
returns-else-is_kind c = rw (sym c.is_kind.ensures ∙ c.if-is_kind.false)
