-- 20: whether a whole graph is stored at a place (upstream's WFSuccs).
use Rattle.std.specs.Prelude.{ℕ, Bool, ◌&&◌, ◌||◌, not}
use Rattle.base.specs.Scan.{all_below}
use Rattle.blockdisk.specs.Records.{read_node, read_table}
use Rattle.blockdisk.specs.declared.Record.{Record}
use Rattle.sectortype.specs.declared.Node.{Node}
use Rattle.blockdisk.specs.declared.Records.{Records}
use Rattle.disklayout.specs.declared.Location.{Location}
use Rattle.sectortype.specs.Form.{entry_at}
use Rattle.sectortype.specs.Graph.{wf_complete_indirection_table, same_set, within}
use Rattle.sectortype.specs.declared.Entry.{Entry}
use Rattle.sectortype.specs.declared.Table.{Table}

-- the node of entry e is stored at exactly its location, and its successors are the graph's list as a set, all of them in the graph
abbrev pub node_agrees : Table → Entry → Record Node → Bool
node_agrees t e x = x.present && same_set e.succs x.held.succs && within t x.held.succs

abbrev pub ref_agrees : ℕ → Records → Table → Entry → Bool
ref_agrees d r t e = not e.allocated || node_agrees t e (read_node d r e.loc)

unfoldable pub graph_stored : ℕ → Records → Table → Bool
graph_stored d r t = all_below (λ k. ref_agrees d r t (entry_at t k)) 64

unfoldable pub wf_succs : ℕ → Records → Location → Bool
wf_succs d r l =
    (read_table d r l).present && wf_complete_indirection_table d (read_table d r l).held && graph_stored d r (read_table d r l).held
