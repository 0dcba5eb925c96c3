use mathlib.Core.Path.{◌≡◌}
use lib.ListN.{get_or}
use Rattle.base.specs.Scan.{all_below}
use Rattle.blockdisk.specs.Form.{node_record_checked}
use Rattle.blockdisk.specs.Records.{default_node_record}
use Rattle.disklayout.specs.Calls.{running_on}
use Rattle.disk.proofs.form.nodes_ok.Given as goal

abbrev pub invariant-loop-r : goal.invariant-loop-r
invariant-loop-r l =
    (l.at ≡ running_on l.device l.r-index) ×
    (l.form ≡ all_below (λ k. (node_record_checked l.device k (get_or l.fn.nodes k default_node_record)).form) l.r-index) ×
    (l.placed ≡ all_below (λ k. (node_record_checked l.device k (get_or l.fn.nodes k default_node_record)).placed) l.r-index)
