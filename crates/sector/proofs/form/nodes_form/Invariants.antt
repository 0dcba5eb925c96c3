-- The loop counts the places in use and judges each. Assumes nothing.
use mathlib.Core.Path.{◌≡◌}
use Rattle.base.specs.Scan.{all_below, count_below}
use Rattle.sectortype.specs.Form.{present_at}
use Rattle.sectortype.specs.Form.{slot_at, slot_form}
use Rattle.sector.proofs.form.nodes_form.Given as goal

abbrev pub invariant-loop-s : goal.invariant-loop-s
invariant-loop-s l = record {
  counted : l.n ≡ count_below (present_at l.fn.m.slots) l.s-index;
  good : l.good ≡ all_below (λ r. slot_form (slot_at l.fn.m r)) l.s-index;
}
