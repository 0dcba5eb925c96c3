-- At each try the running address is the first node address plus block number times block size (`running_addr`, `running_addr_lem`), and no block
-- before has the address asked for. Assumes nothing.
use Prim.Native.Nat.{◌+◌, ◌<◌}
use mathlib.Core.Path.{◌≡◌, ◌∙◌}
use native.Mathlib.Omega.{arith}
use borrow.Author.Rules.{rules}
use Rattle.disklayout.specs.Blocks.{running_addr}
use Rattle.disklayout.proofs.RunningAddr.{missed_none, missed_turn, missed_past, running_first, running_next, running_fits, walk_found}
use Rattle.disklayout.proofs.RunningAddr.{walk_none}
use Rattle.layout.proofs.rows.GoodRow.walk_to_block.Goals as goal

pub loop-k-init : goal.loop-k-init
loop-k-init c = (c.first_node-at.ensures ∙ running_first _, missed_none _ _)

pub returns-then-addr-at : goal.returns-then-addr-at
returns-then-addr-at c =
    let here : c.args.addr ≡ c.loop-k.at = omega (arith, c.if-addr-at.true, c.if-addr-at-2.false) in
    walk_found _ c.args.self.good _ _ (search rules) (here ∙ c.loop-k.invariant.0)

pub next_addr-at-requires : goal.next_addr-at-requires
next_addr-at-requires c =
    rw (c.loop-k.invariant.0, running_next c.args.self.numbers c.loop-k.k)
    (running_fits _ c.args.self.good _ (search rules))

pub loop-k-preserved : goal.loop-k-preserved
loop-k-preserved c =
    let w = c.args.self.numbers in
    let v = c.loop-k.invariant in
    let below : c.loop-k.at < c.args.addr = c.if-addr-at.false in
    let next : c.next_addr-at.result ≡ running_addr w (c.loop-k.k + 1) = omega (arith, v.0, running_next w c.loop-k.k) in
    (next, missed_turn _ _ _ v.1 v.0 (λ e. omega (arith, below)))

pub returns-after-loop-k : goal.returns-after-loop-k
returns-after-loop-k c =
    walk_none _ c.args.self.good _ (λ j b. c.loop-k.invariant.1 j (omega (arith, c.loop-k-test.false)))

pub returns-then-addr-at-2 : goal.returns-then-addr-at-2
returns-then-addr-at-2 c =
    let v = c.loop-k.invariant in
    let past : c.args.addr < c.loop-k.at = omega (arith, c.if-addr-at-2.true) in
    walk_none _ c.args.self.good _ (missed_past _ _ _ v.1 (rw v.0 at past))
