-- A chain over the places in use. Assumes nothing.
use mathlib.Core.Path.{◌∙◌, ◌≡◌}
use borrow.Author.Rules.{rules}
use lib.Dec.{eqb}
use lib.ListN.{length}
use Rattle.std.proofs.lemmas.Iterator.{YieldsList-from_slice, YieldsList-from_take}
use Rattle.std.proofs.lemmas.Iterator.Search.{any_from_yields_List}
use Rattle.base.proofs.Chains.{any_front_is_some_of}
use Rattle.sectortype.specs.Graph.{has_succ}
use Rattle.sector.proofs.graph.has_succ.Goals as goal

pub returns : goal.returns
unfolding has_succ
returns c =
    let s = c.args.s in
    let l : length s.at ≡ 8 = search rules in
    any_from_yields_List (λ q. eqb q c.args.r) _ _ _ c.any.ensures.ran
    (YieldsList-from_take s.count (YieldsList-from_slice s.at cc) cc) (λ x b q k. search rules)
    ∙ any_front_is_some_of (λ q. eqb q c.args.r) 0 8 s.count s.at l
