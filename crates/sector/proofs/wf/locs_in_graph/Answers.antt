-- A chain over the entries. Assumes nothing.
use mathlib.Core.Path.{◌∙◌, ◌≡◌}
use mathlib.Core.Bool.{◌||◌, not}
use borrow.Author.Rules.{rules}
use lib.ListN.{length}
use Rattle.std.proofs.lemmas.Iterator.{YieldsList-from_slice}
use Rattle.std.proofs.lemmas.Iterator.Search.{all_from_yields_List}
use Rattle.base.proofs.Chains.{all_is_all_of}
use Rattle.base.proofs.Lists.{unmapped}
use Rattle.sectortype.specs.Form.{default_entry}
use Rattle.sectortype.specs.Graph.{locs_in_graph}
use Rattle.sector.proofs.wf.locs_in_graph.Goals as goal

pub returns : goal.returns
unfolding locs_in_graph
returns c =
    let l : length c.args.t.entries ≡ 64 = search (rules, unmapped) in
    all_from_yields_List (λ e. not e.located || e.allocated) _ _ _ c.all.ensures.ran
    (YieldsList-from_slice c.args.t.entries cc) (λ x b q k. search rules)
    ∙ all_is_all_of (λ e. not e.located || e.allocated) default_entry 64 c.args.t.entries l
