-- The first of the requests in use with no smaller id, or none. Assumes nothing.
use mathlib.Core.Path.{◌∙◌, ◌≡◌, ap}
use Prim.Native.Nat.{min}
use borrow.Author.Rules.{rules}
use lib.Dec.{leb}
use lib.ListN.{length}
use Rattle.std.proofs.lemmas.Iterator.{YieldsList-from_slice, YieldsList-from_take}
use Rattle.std.proofs.lemmas.Iterator.Search.{position_from_yields_List}
use Rattle.std.specs.Prelude.{unwrap_or}
use Rattle.queue.proofs.Scans.{chain_place}
use Rattle.queue.proofs.place.Goals as goal

pub returns : goal.returns
returns c =
    let q = c.args.q in
    let l : length q.at ≡ 16 = search rules in
    let f = position_from_yields_List (λ w. leb c.args.id w.id) _ _ _ c.position.ensures.ran
    (YieldsList-from_take q.count (YieldsList-from_slice q.at cc) cc) (λ x b q k. search rules) in
    rw (c.unwrap_or.ensures, c.min.ensures, c.from-n.ensures) (ap (λ o. unwrap_or o (min q.count 16)) f ∙ chain_place q c.args.id l)
