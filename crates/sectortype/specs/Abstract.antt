-- The values that upstream speaks of: a table's locations and its graph, and the nodes of a map, each under its reference.
use Rattle.base.specs.Maps.{Map, flagged}
use Rattle.disklayout.specs.declared.Location.{Location}
use Rattle.sectortype.specs.Form.{entry_at, slot_at}
use Rattle.sectortype.specs.declared.Node.{Node}
use Rattle.sectortype.specs.declared.Nodes.{Nodes}
use Rattle.sectortype.specs.declared.Succs.{Succs}
use Rattle.sectortype.specs.declared.Table.{Table}

-- IndirectionTable(locs, graph): the locations
unfoldable pub locs_of : Table → Map Location
locs_of t = λ r. flagged (entry_at t r).located (entry_at t r).loc

-- IndirectionTable(locs, graph): the lists
unfoldable pub graph_of : Table → Map Succs
graph_of t = λ r. flagged (entry_at t r).allocated (entry_at t r).succs

-- map<Reference, Node>
unfoldable pub nodes_map : Nodes → Map Node
nodes_map m = λ r. flagged (slot_at m r).present (slot_at m r).node

-- IndirectionTable(locs, graph)
pub record IndirectionTable : Type 0 where
  pub locs : Map Location
  pub graph : Map Succs

abbrev pub indirection_table : Table → IndirectionTable
indirection_table t = record { locs = locs_of t; graph = graph_of t }
