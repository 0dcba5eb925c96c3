-- An operation more by what `advanced` ensures; after the last, by `walk_is`. Assumes nothing.
use mathlib.Core.Path.{◌∙◌, ◌≡◌}
use Prim.Native.Nat.{ℕ, ◌≤◌}
use native.Mathlib.Nat.{le_antisymm}
use native.Mathlib.Omega.{arith}
use lib.Dec.{ltb}
use lib.ListN.{length, take}
use lib.Seq.{get_or-take, length-take-le}
use Rattle.base.proofs.Tests.{split}
use Rattle.blockcache.proofs.Walk.{walk_is, walked_more, walked_none}
use Rattle.blockcache.specs.Walk.{limit, no_operation}
use Rattle.cache.proofs.Cache.operations.Goals as goal

limit_le : (n : ℕ) → limit n ≤ n
limit_le n = split (ltb 32 n) (λ t. rw t (omega arith)) (λ t. rw t (omega arith))

pub loop-i-init : goal.loop-i-init
loop-i-init c = walked_none _ _ _

pub loop-i-preserved : goal.loop-i-preserved
loop-i-preserved c =
    let l = c.args.list.now in
    let e = length-take-le c.limit-n.result l (rw c.limit-n.ensures (limit_le (length l))) in
    rw (
      c.advanced-w.ensures,
      c.settings_of-g.ensures,
      c.loop-i.invariant,
      get_or-take c.limit-n.result l c.loop-i.i no_operation (rw e at c.loop-i-test.true),
    ) (walked_more c.args.self.settings c.begun-w.result l c.loop-i.i)

pub returns : goal.returns
returns c =
    let l = c.args.list.now in
    let e : length (take c.limit-n.result l) ≡ limit (length l) =
    length-take-le _ l (rw c.limit-n.ensures (limit_le (length l))) ∙ c.limit-n.ensures in
    let last : c.loop-i.i ≡ limit (length l) = le_antisymm (rw e at c.loop-i.auto.i-end) (rw e at c.loop-i-test.false) in
    rw (c.finished.ensures, c.loop-i.invariant, last, c.begun-w.ensures)
    (walk_is c.args.self.settings c.args.self.state c.args.q l)
