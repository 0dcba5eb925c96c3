-- A chain over the entries. Assumes nothing.
use mathlib.Core.Path.{◌∙◌, ◌≡◌}
use borrow.Author.Rules.{rules}
use lib.ListN.{length}
use Rattle.std.proofs.lemmas.Iterator.{YieldsList-from_slice}
use Rattle.std.proofs.lemmas.Iterator.Search.{all_from_yields_List}
use Rattle.base.proofs.Chains.{all_is_all_of}
use Rattle.base.proofs.Lists.{unmapped}
use Rattle.sectortype.specs.Form.{default_entry}
use Rattle.blocksystem.specs.Start.{graph_stored, ref_agrees}
use Rattle.system.proofs.start.graph_stored.Goals as goal

pub returns : goal.returns
unfolding graph_stored
returns c =
    let a = c.args in
    let l : length a.t.entries ≡ 64 = search (rules, unmapped) in
    all_from_yields_List (ref_agrees a.device a.r a.t) _ _ _ c.all.ensures.ran (YieldsList-from_slice a.t.entries cc) (λ x b q k. search rules)
    ∙ all_is_all_of (ref_agrees a.device a.r a.t) default_entry 64 a.t.entries l
