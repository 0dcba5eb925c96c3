-- The disk's scans, as the chains that its functions are. Assumes nothing.
use mathlib.Core.List.{List}
use mathlib.Core.Path.{◌≡◌, ◌∙◌, sym}
use lib.ListN.{length}
use Rattle.std.specs.List.{list_all, zip}
use Rattle.base.proofs.Chains.{all_zip_is_all}
use Rattle.queue.specs.declared.Requests.{Requests}
use Rattle.blockdisk.specs.declared.Record.{Record}
use Rattle.sectortype.specs.declared.Node.{Node}
use Rattle.blockdisk.specs.Crash.{kept_node, nodes_kept}
use Rattle.blockdisk.specs.Records.{default_node_record}

pub nodes_kept_all : (q : Requests) (old new : List (Record Node)) → length old ≡ 128 → length new ≡ 128 →
    list_all (λ w. kept_node q w.0 w.1) (zip old new) ≡ nodes_kept q old new
unfolding nodes_kept
nodes_kept_all q old new a b = all_zip_is_all (λ w. kept_node q w.0 w.1) default_node_record default_node_record old new (a ∙ sym b) ∙ rw a
