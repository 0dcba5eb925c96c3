-- A chain over the requests in use. Assumes nothing.
use mathlib.Core.Bool.{◌&&◌}
use mathlib.Core.Path.{◌∙◌, ◌≡◌, sym}
use borrow.Author.Rules.{rules}
use lib.Dec.{eqb, ltb}
use lib.ListN.{length}
use Rattle.std.proofs.lemmas.Iterator.{YieldsList-from_slice, YieldsList-from_take}
use Rattle.std.proofs.lemmas.Iterator.Search.{any_from_yields_List}
use Rattle.disklayout.specs.Layout.{same_loc}
use Rattle.base.proofs.Chains.{and_assoc}
use Rattle.base.proofs.Scan.{some_same}
use Rattle.blockcache.specs.Scan.{writes_to}
use Rattle.queue.proofs.Scans.{used_any}
use Rattle.cache.proofs.scan.writes_to.Goals as goal

pub returns : goal.returns
unfolding writes_to
returns c =
    let q = c.args.q in
    let l : length q.at ≡ 16 = search rules in
    let e =
    any_from_yields_List (λ w. eqb w.reference c.args.r && same_loc w.loc c.args.l) _ _ _ c.any.ensures.ran
    (YieldsList-from_take q.count (YieldsList-from_slice q.at cc) cc) (λ x b q k. search rules) in
    e ∙ used_any _ q l ∙ sym (some_same _ _ 16 (λ k b. and_assoc (ltb k q.count) _ _))
