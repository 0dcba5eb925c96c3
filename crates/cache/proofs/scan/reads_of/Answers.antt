-- A chain over the requests in use. Assumes nothing.
use mathlib.Core.Path.{◌∙◌, ◌≡◌}
use borrow.Author.Rules.{rules}
use lib.Dec.{eqb}
use lib.ListN.{length}
use Rattle.std.proofs.lemmas.Iterator.{YieldsList-from_slice, YieldsList-from_take}
use Rattle.std.proofs.lemmas.Iterator.Search.{any_from_yields_List}
use Rattle.blockcache.specs.Scan.{reads}
use Rattle.queue.proofs.Scans.{used_any}
use Rattle.cache.proofs.scan.reads_of.Goals as goal

pub returns : goal.returns
unfolding reads
returns c =
    let q = c.args.q in
    let l : length q.at ≡ 16 = search rules in
    let e =
    any_from_yields_List (λ w. eqb w.reference c.args.r) _ _ _ c.any.ensures.ran
    (YieldsList-from_take q.count (YieldsList-from_slice q.at cc) cc) (λ x b q k. search rules) in
    e ∙ used_any _ q l
