-- A chain over the requests in use, after the queue's own form. Assumes nothing.
use mathlib.Core.Path.{◌∙◌, ◌≡◌}
use borrow.Author.Rules.{rules}
use lib.ListN.{length}
use Rattle.std.proofs.lemmas.Iterator.{YieldsList-from_slice, YieldsList-from_take}
use Rattle.std.proofs.lemmas.Iterator.Search.{all_from_yields_List}
use Rattle.blockcache.specs.Form.{read_ok, reads_form}
use Rattle.queue.proofs.Scans.{used_all}
use Rattle.cache.proofs.form.reads_form.Goals as goal

pub returns : goal.returns
unfolding reads_form
returns c =
    let q = c.args.q in
    let l : length q.at ≡ 16 = search rules in
    let e =
    all_from_yields_List read_ok _ _ _ c.all-good.ensures.ran
    (YieldsList-from_take q.count (YieldsList-from_slice q.at cc) cc) (λ x b q k. search rules) in
    rw (c.form.ensures, e ∙ used_all _ q l)
