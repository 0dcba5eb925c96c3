-- A chain over the entries, each with its place. Assumes nothing.
use mathlib.Core.Path.{◌∙◌, ◌≡◌}
use borrow.Author.Rules.{rules}
use Prim.Native.Nat.{ℕ}
use lib.ListN.{length}
use Rattle.std.proofs.lemmas.Iterator.{YieldsList-from_slice}
use Rattle.std.proofs.lemmas.Iterator.Consumers.{YieldsList-from_enumerate}
use Rattle.std.proofs.lemmas.Iterator.Search.{all_from_yields_List}
use Rattle.base.proofs.Chains.{all_placed_is_all_of}
use Rattle.base.proofs.Lists.{unmapped}
use Rattle.sectortype.specs.Form.{default_entry}
use Rattle.sectortype.specs.Graph.{apart_from, distinct_addrs}
use Rattle.sectortype.specs.declared.Entry.{Entry}
use Rattle.sector.proofs.graph.distinct_addrs.Goals as goal

pub returns : goal.returns
unfolding distinct_addrs
returns c =
    let l : length c.args.t.entries ≡ 64 = search (rules, unmapped) in
    let xs = c.args.t.entries in
    all_from_yields_List (λ (p : ℕ × Entry). apart_from c.args.t p.0 p.1) _ _ _ c.all.ensures.ran
    (YieldsList-from_enumerate (YieldsList-from_slice xs cc) cc) (λ x b q k. search rules)
    ∙ all_placed_is_all_of (apart_from c.args.t) default_entry 64 xs l
