-- What the bytes passed are worth. Assumes nothing.
use Rattle.std.proofs.Common.{rules, arith, ◌≡◌, ◌<◌, get_or, length}
use Rattle.base.proofs.Scan.{all_none}
use Rattle.words.proofs.Numbers.{number_empty, number_good, number_led, number_stop, number_turn, value_none}
use Rattle.words.proofs.digits.number.Goals as goal
use Rattle.words.proofs.digits.number.Goals.{else-w-gt1-via-then-w-gt1+else-w-eq48, else-w-gt1-via-else-w-gt1}

pub returns-then-is_empty : goal.returns-then-is_empty
returns-then-is_empty c = number_empty c.args.w.now (search rules)

pub returns-then-w-eq48 : goal.returns-then-w-eq48
returns-then-w-eq48 c = number_led c.args.w.now c.if-w-gt1.true c.if-w-eq48.true

pub loop-b-init : goal.loop-b-init
loop-b-init c = (value_none _, omega arith, all_none _)

pub returns-in_err-n : goal.returns-in_err-n
returns-in_err-n c =
    search (rules, number_stop c.args.w.now c.loop-b.b-index c.loop-b.n c.loop-b-test.true c.loop-b.invariant.0)

pub loop-b-preserved : goal.loop-b-preserved
loop-b-preserved c =
    number_turn c.args.w.now c.loop-b.b-index c.loop-b.n c.in_ok-n.n c.loop-b.invariant.0 c.loop-b.invariant.2 (search rules)

pub returns : goal.returns
returns c =
    let w = c.args.w.now in
    let end : c.loop-b.b-index ≡ length w = omega (arith, c.loop-b-test.false, c.loop-b.auto.b-index-end) in
    let some : length w ≡ 0 → ⊥ = search rules in
    let led : 1 < length w → get_or w 0 0 ≡ 48 → ⊥ = λ a b. elim c.else-w-gt1.branch
    [ else-w-gt1-via-then-w-gt1+else-w-eq48 v ↦ v.if-w-eq48.false b | else-w-gt1-via-else-w-gt1 v ↦ omega (arith, v.if-w-gt1.false, a) ] in
    number_good w c.loop-b.n (rw end at c.loop-b.invariant.0) c.loop-b.invariant.1 (rw end at c.loop-b.invariant.2) some led
