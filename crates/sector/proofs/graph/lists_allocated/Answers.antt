-- A chain over the places in use. Assumes nothing.
use mathlib.Core.Path.{◌∙◌, ◌≡◌}
use borrow.Author.Rules.{rules}
use lib.ListN.{length}
use Rattle.std.proofs.lemmas.Iterator.{YieldsList-from_slice, YieldsList-from_take}
use Rattle.std.proofs.lemmas.Iterator.Search.{all_from_yields_List}
use Rattle.base.proofs.Chains.{all_front_is_all_of}
use Rattle.sectortype.specs.Graph.{allocated_in}
use Rattle.sectortype.specs.Graph.{within}
use Rattle.sector.proofs.graph.lists_allocated.Goals as goal

pub returns : goal.returns
unfolding within
returns c =
    let s = c.args.s.now in
    let l : length s.at ≡ 8 = search rules in
    all_from_yields_List (allocated_in c.args.t.now) _ _ _ c.all.ensures.ran
    (YieldsList-from_take s.count (YieldsList-from_slice s.at cc) cc) (λ x b q k. search rules)
    ∙ all_front_is_all_of (allocated_in c.args.t.now) 0 8 s.count s.at l
