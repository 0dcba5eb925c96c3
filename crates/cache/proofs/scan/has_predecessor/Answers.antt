-- Nested scans, left by the label at the first predecessor found. Assumes nothing.
use mathlib.Core.Path.{◌∙◌, refl, sym}
use Rattle.base.proofs.Scan.{some_at, some_end, some_none, some_turn}
use Rattle.blockcache.specs.Scan.{has_predecessor}
use Rattle.cache.proofs.scan.has_predecessor.Goals as goal

pub search-init : goal.search-init
search-init c = (refl, some_none _)

pub loop-j-init : goal.loop-j-init
loop-j-init c = (c.search.invariant.0, some_none _)

pub loop-j-preserved : goal.loop-j-preserved
loop-j-preserved c =
    (c.loop-j.invariant.0, some_turn _ _ c.loop-j.invariant.1 (sym (rw c.names_at.ensures at c.if-here.false)))

pub search-preserved : goal.search-preserved
search-preserved c = (
  c.loop-j.invariant.0,
  some_turn _ _ c.search.invariant.1 (some_end _ c.loop-j.invariant.1 c.loop-j.auto.j-end c.loop-j-test.false),
)

pub returns-after-search : goal.returns-after-search
unfolding has_predecessor
returns-after-search c = c.search.invariant.0 ∙ some_end _ c.search.invariant.1 c.search.auto.e-index-end c.search-test.false

pub returns-then-here : goal.returns-then-here
unfolding has_predecessor
returns-then-here c =
    sym (some_at _ 64 c.search.e-index c.search-test.true (some_at _ 8 c.loop-j.j c.loop-j-test.true (rw c.names_at.ensures at c.if-here.true)))
