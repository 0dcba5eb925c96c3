-- The call that a request makes: what the words `none`, `stored`, `cached`, `frozen` and so on stand for now.
use Rattle.std.specs.Prelude.{ℕ, Bool, true, false, ◌&&◌, cond, Option, Some, None, is_some, unwrap_or}
use Rattle.sectortype.specs.Form.{zero_node, empty_table, slot_at}
use Rattle.sectortype.specs.declared.Node.{Node}
use Rattle.sectortype.specs.declared.Nodes.{Nodes}
use Rattle.sectortype.specs.declared.Table.{Table}
use Rattle.queue.specs.Queue.{has_of, entry_of}
use Rattle.blockdisk.specs.Records.{read_node, read_table}
use Rattle.blockdisk.specs.declared.DiskState.{DiskState}
use Rattle.blockdisk.specs.declared.Brought.{Brought}
use Rattle.blockdisk.specs.declared.Brought.TheVariants as brought
use Rattle.blockdisk.specs.declared.DiskOp.{DiskOp}
use Rattle.blockdisk.specs.declared.DiskOp.TheVariants.{NoDiskOp, ReqReadIndirectionTableOp, ReqReadNodeOp, ReqWriteIndirectionTableOp}
use Rattle.blockdisk.specs.declared.DiskOp.TheVariants.{ReqWriteNodeOp, RespReadIndirectionTableOp, RespReadNodeOp}
use Rattle.blockdisk.specs.declared.DiskOp.TheVariants.{RespWriteIndirectionTableOp, RespWriteNodeOp}
use Rattle.blockcache.specs.Form.{is_ready}
use Rattle.blockcache.specs.declared.CacheState.{CacheState}
use Rattle.blockcache.specs.declared.Call.{Call}
use Rattle.smalltable.specs.Tables.{numbered_table}
use Rattle.script.specs.declared.request.NodeSource.{NodeSource}
use Rattle.script.specs.declared.request.TableSource.{TableSource}
use Rattle.script.specs.declared.request.Request.{Request}
use Rattle.script.specs.declared.request.NodeSource.TheVariants as node
use Rattle.script.specs.declared.request.TableSource.TheVariants as table

-- A NODE

-- stored: what the disk holds at exactly the place queued as a node read under this id, none if nothing
unfoldable pub stored_node : ℕ → DiskState → ℕ → Option Node
stored_node d s id =
    cond (has_of s.queues.nodereads id && (read_node d s.records (entry_of s.queues.nodereads id).loc).present)
    (Some (read_node d s.records (entry_of s.queues.nodereads id).loc).held)
    None

-- cached: the cached node of the reference, zeros if none
unfoldable pub cached_node : Nodes → ℕ → Node
cached_node m r = cond (slot_at m r).present (slot_at m r).node zero_node

-- by where the node comes from, none if nothing is brought: r is the reference, id the disk operation's id
abbrev pub node_value : NodeSource → ℕ → ℕ → ℕ → CacheState → DiskState → Option Node
node_value node.Nothing r id d c s = None
node_value (node.Written n) r id d c s = Some n
node_value node.Stored r id d c s = stored_node d s id
node_value node.Cached r id d c s = Some (cached_node c.nodes r)

-- A TABLE

-- stored: what the disk holds at exactly the place queued as a table read under this id, none if nothing
unfoldable pub stored_table : ℕ → DiskState → ℕ → Option Table
stored_table d s id =
    cond (has_of s.queues.tablereads id && (read_table d s.records (entry_of s.queues.tablereads id).loc).present)
    (Some (read_table d s.records (entry_of s.queues.tablereads id).loc).held)
    None

-- one of the cache's, the empty table if absent
abbrev pub cache_table : Bool → Table → Table
cache_table present t = cond present t empty_table

-- by where the table comes from, none if nothing is brought; a cache that is not Ready has no tables; past 545 a small table is the
-- empty one
abbrev pub table_value : TableSource → ℕ → ℕ → CacheState → DiskState → Option Table
table_value table.Nothing id d c s = None
table_value (table.Written t) id d c s = Some t
table_value table.Stored id d c s = stored_table d s id
table_value table.Frozen id d c s = Some (cache_table (is_ready c && c.tables.isfrozen) c.tables.frozen)
table_value table.Ephemeral id d c s = Some (cache_table (is_ready c) c.tables.ephemeral)
table_value table.Persistent id d c s = Some (cache_table (is_ready c) c.tables.persistent)
table_value (table.Small k) id d c s = Some (numbered_table d k)

-- THE CALL

abbrev pub brought_of : Bool → Brought
brought_of true = brought.Something
brought_of false = brought.Nothing

-- the two read answers bring what the words node= and table= stand for; no other operation brings anything
abbrev pub bringing_of : DiskOp → Brought → Brought → DiskOp
bringing_of (ReqReadIndirectionTableOp id l) n t = ReqReadIndirectionTableOp id l
bringing_of (ReqReadNodeOp id l) n t = ReqReadNodeOp id l
bringing_of (ReqWriteIndirectionTableOp id l) n t = ReqWriteIndirectionTableOp id l
bringing_of (ReqWriteNodeOp id l) n t = ReqWriteNodeOp id l
bringing_of (RespReadIndirectionTableOp id b) n t = RespReadIndirectionTableOp id t
bringing_of (RespReadNodeOp id b) n t = RespReadNodeOp id n
bringing_of (RespWriteIndirectionTableOp id) n t = RespWriteIndirectionTableOp id
bringing_of (RespWriteNodeOp id) n t = RespWriteNodeOp id
bringing_of NoDiskOp n t = NoDiskOp

-- a request with its node and its table; where nothing is brought, a node of zeros and the empty table
abbrev pub call_from : Request → Option Node → Option Table → Call
call_from q n t =
    record {
      reference = q.reference;
      vop = q.vop;
      dop = bringing_of q.dop (brought_of (is_some n)) (brought_of (is_some t));
      node = unwrap_or n zero_node;
      table = unwrap_or t empty_table;
    }

-- the request's own reference and operations, with the node and the table that its words stand for on this cache and this disk
unfoldable pub call_of : Request → ℕ → CacheState → DiskState → Call
call_of q d c s = call_from q (node_value q.node q.reference q.id d c s) (table_value q.table q.id d c s)
