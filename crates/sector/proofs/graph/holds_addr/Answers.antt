-- A chain over the entries. Assumes nothing.
use mathlib.Core.Path.{◌∙◌, ◌≡◌}
use mathlib.Core.Bool.{◌&&◌}
use borrow.Author.Rules.{rules}
use lib.Dec.{eqb}
use lib.ListN.{length}
use Rattle.std.proofs.lemmas.Iterator.{YieldsList-from_slice}
use Rattle.std.proofs.lemmas.Iterator.Search.{any_from_yields_List}
use Rattle.base.proofs.Chains.{any_is_some_of}
use Rattle.base.proofs.Lists.{unmapped}
use Rattle.sectortype.specs.Form.{default_entry}
use Rattle.sectortype.specs.Graph.{holds_addr}
use Rattle.sector.proofs.graph.holds_addr.Goals as goal

pub returns : goal.returns
unfolding holds_addr
returns c =
    let l : length c.args.t.entries ≡ 64 = search (rules, unmapped) in
    any_from_yields_List (λ e. e.located && eqb e.loc.addr c.args.addr) _ _ _ c.any.ensures.ran
    (YieldsList-from_slice c.args.t.entries cc) (λ x b q k. search rules)
    ∙ any_is_some_of (λ e. e.located && eqb e.loc.addr c.args.addr) default_entry 64 c.args.t.entries l
