-- A scan with a flag, which keeps the request before. Assumes nothing.
use Prim.Native.Nat.{◌-◌}
use mathlib.Core.Path.{◌≡◌}
use Rattle.base.specs.Scan.{all_below}
use Rattle.queue.specs.Queue.{request_at, request_form}
use Rattle.queue.proofs.form.Given as goal

abbrev pub invariant-loop-i : goal.invariant-loop-i
invariant-loop-i l = record {
  before : l.before ≡ request_at l.fn.q (l.i - 1);
  good : l.good ≡ all_below (λ k. request_form l.fn.q.count k (request_at l.fn.q (k - 1)) (request_at l.fn.q k)) l.i;
}
