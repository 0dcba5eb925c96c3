-- A scan with a flag. Assumes nothing.
use mathlib.Core.Path.{◌≡◌}
use Rattle.base.specs.Scan.{all_below}
use Rattle.sectortype.specs.Form.{entry_at}
use Rattle.sectortype.specs.Same.{same_entry}
use Rattle.sector.proofs.same.same_table.Given as goal

abbrev pub invariant-loop-i : goal.invariant-loop-i
invariant-loop-i l = l.good ≡ all_below (λ r. same_entry (entry_at l.fn.a r) (entry_at l.fn.b r)) l.i
