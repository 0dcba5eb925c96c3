-- A scan with a flag. Assumes nothing.
use mathlib.Core.Path.{◌≡◌}
use Rattle.base.specs.Scan.{all_below}
use Rattle.sectortype.specs.Form.{succ_at, succ_ok}
use Rattle.sector.proofs.form.succs_form.Given as goal

abbrev pub invariant-loop-i : goal.invariant-loop-i
invariant-loop-i l = l.good ≡ all_below (λ k. succ_ok l.fn.s.count k (succ_at l.fn.s k)) l.i
