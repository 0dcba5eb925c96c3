-- A chain over the entries. Assumes nothing.
use mathlib.Core.Path.{◌∙◌, ◌≡◌}
use mathlib.Core.Bool.{◌||◌, not}
use borrow.Author.Rules.{rules}
use lib.ListN.{length}
use Rattle.std.proofs.lemmas.Iterator.{YieldsList-from_slice}
use Rattle.std.proofs.lemmas.Iterator.Search.{all_from_yields_List}
use Rattle.base.proofs.Chains.{all_is_all_of}
use Rattle.base.proofs.Lists.{unmapped}
use Rattle.sectortype.specs.Form.{default_entry}
use Rattle.sectortype.specs.Graph.{graph_closed}
use Rattle.sectortype.specs.Graph.{within}
use Rattle.sector.proofs.graph.graph_closed.Goals as goal

pub returns : goal.returns
unfolding graph_closed
returns c =
    let l : length c.args.t.entries ≡ 64 = search (rules, unmapped) in
    all_from_yields_List (λ e. not e.allocated || within c.args.t e.succs) _ _ _ c.all.ensures.ran
    (YieldsList-from_slice c.args.t.entries cc) (λ x b q k. search rules)
    ∙ all_is_all_of (λ e. not e.allocated || within c.args.t e.succs) default_entry 64 c.args.t.entries l
