-- The loop counts the places in use and judges each. Assumes nothing.
use mathlib.Core.Path.{◌≡◌}
use Rattle.base.specs.Scan.{all_below, count_below}
use Rattle.sectortype.specs.Form.{allocated_at, entry_at, entry_form}
use Rattle.sector.proofs.form.table_form.Given as goal

abbrev pub invariant-loop-e : goal.invariant-loop-e
invariant-loop-e l = record {
  counted : l.n ≡ count_below (allocated_at l.fn.t.entries) l.e-index;
  good : l.good ≡ all_below (λ r. entry_form (entry_at l.fn.t r)) l.e-index;
}
