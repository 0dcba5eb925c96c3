-- `numbering::small_sets` meets its contract. Assumes nothing.
use borrow.Author.Tests.{le-ltb, lt-ltb}
use Rattle.smalltable.specs.Numbers.{small_sets}
use Rattle.numbering.proofs.small_sets.Goals as goal

pub returns-then-n-lt2 : goal.returns-then-n-lt2
unfolding small_sets
returns-then-n-lt2 c = simp (lt-ltb _ _ c.if-n-lt2.true)

pub returns-then-n-lt18 : goal.returns-then-n-lt18
unfolding small_sets
returns-then-n-lt18 c = simp (le-ltb _ _ c.if-n-lt2.false, lt-ltb _ _ c.if-n-lt18.true)

pub returns-then-n-lt34 : goal.returns-then-n-lt34
unfolding small_sets
returns-then-n-lt34 c =
    simp (
      c.zero_two-list2.ensures,
      c.zero_two-list0.ensures,
      le-ltb _ _ c.if-n-lt2.false,
      le-ltb _ _ c.if-n-lt18.false,
      lt-ltb _ _ c.if-n-lt34.true,
    )

pub returns : goal.returns
unfolding small_sets
returns c = simp (le-ltb _ _ c.if-n-lt2.false, le-ltb _ _ c.if-n-lt18.false, le-ltb _ _ c.if-n-lt34.false)
