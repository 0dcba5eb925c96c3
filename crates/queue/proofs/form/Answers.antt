-- The loop keeps a flag for the places passed and the request before; each place has its own test. Assumes nothing.
use mathlib.Core.Path.{◌≡◌, ap, refl}
use native.Mathlib.Omega.{arith}
use borrow.Author.Rules.{rules}
use borrow.Author.Tests.{eq-eqb}
use Prim.Native.Nat.{◌+◌, ◌-◌}
use lib.ListN.{length}
use Rattle.base.proofs.Scan.{all_end, all_none, all_turn}
use Rattle.queue.specs.Queue.{request_at, requests_form}
use Rattle.queue.proofs.form.Goals as goal

pub loop-i-init : goal.loop-i-init
loop-i-init c = record { before = refl; good = all_none _ }

pub loop-i-preserved : goal.loop-i-preserved
loop-i-preserved c =
    let e : c.loop-i.i ≡ c.loop-i.i + 1 - 1 = omega arith in
    record {
      before = ap (request_at c.args.q) e;
      good = all_turn _ _ c.loop-i.invariant.good (rw (← c.loop-i.invariant.before) c.request_form-good.ensures);
    }

pub returns : goal.returns
unfolding requests_form
returns c =
    let l : length c.args.q.at ≡ 16 = search rules in
    simp (eq-eqb _ _ l, all_end _ c.loop-i.invariant.good c.loop-i.auto.i-end c.loop-i-test.false)
