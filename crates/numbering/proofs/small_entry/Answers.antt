-- `numbering::small_entry` meets its contract. Assumes nothing.
use borrow.Author.Tests.{le-leb, lt-ltb}
use native.Mathlib.Omega.{arith}
use Rattle.smalltable.specs.Tables.{small_entry}
use Rattle.numbering.proofs.small_entry.Goals as goal

pub returns-then-used : goal.returns-then-used
unfolding small_entry
returns-then-used c =
    simp (
      c.list_of-succs.ensures,
      c.unwrap_or-addr.ensures,
      c.node_block_addr.ensures,
      c.if-used.true,
      le-leb _ _ c.requires.device_bound,
      lt-ltb c.args.r 128 (omega (arith, c.requires.r_bound)),
    )

pub returns : goal.returns
unfolding small_entry
returns c = simp (c.zero_entry.ensures, c.if-used.false)
