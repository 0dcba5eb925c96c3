-- Upstream's BlockDisk under its names, over abstract states, and the abstract state that a disk stands for.
-- A two-state predicate is a record with a field for each conjunct; what it says of the kind of its operation (`dop.ReqReadNodeOp?`) is the
-- case of Next in which it stands, and the parts of the operation are its last arguments.
use Rattle.std.specs.Prelude.{ℕ, false, true, ◌≡◌}
use Rattle.std.proofs.Math.Option.{Option, map, some}
use Rattle.base.specs.Maps.{Map, del, empty, flagged, is_some, put}
use Rattle.blockdisk.specs.Ops.{something_in}
use Rattle.blockdisk.specs.Records.{read_node, read_table}
use Rattle.blockdisk.specs.declared.DiskState.{DiskState}
use Rattle.blockdisk.specs.declared.DiskCall.{DiskCall}
use Rattle.blockdisk.specs.declared.DiskOp.{DiskOp}
use Rattle.blockdisk.specs.declared.DiskOp.TheVariants.{NoDiskOp, ReqReadIndirectionTableOp, ReqReadNodeOp, ReqWriteIndirectionTableOp}
use Rattle.blockdisk.specs.declared.DiskOp.TheVariants.{ReqWriteNodeOp, RespReadIndirectionTableOp, RespReadNodeOp}
use Rattle.blockdisk.specs.declared.DiskOp.TheVariants.{RespWriteIndirectionTableOp, RespWriteNodeOp}
use Rattle.blockdisk.specs.declared.Records.{Records}
use Rattle.disklayout.specs.Layout.{overlap}
use Rattle.disklayout.specs.declared.Location.{Location}
use Rattle.queue.specs.Queue.{mapped}
use Rattle.queue.specs.declared.Requests.{Requests}
use Rattle.sectortype.specs.Abstract.{IndirectionTable, indirection_table}
use Rattle.sectortype.specs.declared.Node.{Node}
use Rattle.sectortype.specs.declared.Table.{Table}

abbrev pub Imap : Type 0 → Type 0
Imap A = Location → Option A

pub record Variables : Type 0 where
  pub req_read_indirection_tables : Map Location
  pub req_read_nodes : Map Location
  pub req_write_indirection_tables : Map Location
  pub req_write_nodes : Map Location
  pub indirection_tables : Imap IndirectionTable
  pub nodes : Imap Node

-- DiskOp
pub data Dop : Type 0 where
  req_read_indirection_table : ℕ → Location → Dop
  req_read_node : ℕ → Location → Dop
  req_write_indirection_table : ℕ → Location → IndirectionTable → Dop
  req_write_node : ℕ → Location → Node → Dop
  resp_read_indirection_table : ℕ → Option IndirectionTable → Dop
  resp_read_node : ℕ → Option Node → Dop
  resp_write_indirection_table : ℕ → Dop
  resp_write_node : ℕ → Dop
  no_disk_op : Dop

pub record Init (s : Variables) : Type 0 where
  pub no_table_reads : s.req_read_indirection_tables ≡ empty
  pub no_node_reads : s.req_read_nodes ≡ empty
  pub no_table_writes : s.req_write_indirection_tables ≡ empty
  pub no_node_writes : s.req_write_nodes ≡ empty

-- s.(field := value)

abbrev pub set_read_tables : Variables → Map Location → Variables
set_read_tables s m =
    record {
      req_read_indirection_tables = m;
      req_read_nodes = s.req_read_nodes;
      req_write_indirection_tables = s.req_write_indirection_tables;
      req_write_nodes = s.req_write_nodes;
      indirection_tables = s.indirection_tables;
      nodes = s.nodes;
    }

abbrev pub set_read_nodes : Variables → Map Location → Variables
set_read_nodes s m =
    record {
      req_read_indirection_tables = s.req_read_indirection_tables;
      req_read_nodes = m;
      req_write_indirection_tables = s.req_write_indirection_tables;
      req_write_nodes = s.req_write_nodes;
      indirection_tables = s.indirection_tables;
      nodes = s.nodes;
    }

abbrev pub set_write_tables : Variables → Map Location → Variables
set_write_tables s m =
    record {
      req_read_indirection_tables = s.req_read_indirection_tables;
      req_read_nodes = s.req_read_nodes;
      req_write_indirection_tables = m;
      req_write_nodes = s.req_write_nodes;
      indirection_tables = s.indirection_tables;
      nodes = s.nodes;
    }

abbrev pub set_write_nodes : Variables → Map Location → Variables
set_write_nodes s m =
    record {
      req_read_indirection_tables = s.req_read_indirection_tables;
      req_read_nodes = s.req_read_nodes;
      req_write_indirection_tables = s.req_write_indirection_tables;
      req_write_nodes = m;
      indirection_tables = s.indirection_tables;
      nodes = s.nodes;
    }

abbrev pub set_tables : Variables → Imap IndirectionTable → Variables
set_tables s m =
    record {
      req_read_indirection_tables = s.req_read_indirection_tables;
      req_read_nodes = s.req_read_nodes;
      req_write_indirection_tables = s.req_write_indirection_tables;
      req_write_nodes = s.req_write_nodes;
      indirection_tables = m;
      nodes = s.nodes;
    }

abbrev pub set_nodes : Variables → Imap Node → Variables
set_nodes s m =
    record {
      req_read_indirection_tables = s.req_read_indirection_tables;
      req_read_nodes = s.req_read_nodes;
      req_write_indirection_tables = s.req_write_indirection_tables;
      req_write_nodes = s.req_write_nodes;
      indirection_tables = s.indirection_tables;
      nodes = m;
    }

-- RecvRead

pub record RecvReadIndirectionTable (s s' : Variables) (id : ℕ) (loc : Location) : Type 0 where
  pub fresh : is_some (s.req_read_indirection_tables id) ≡ false
  pub next : s' ≡ set_read_tables s (put s.req_read_indirection_tables id loc)

pub record RecvReadNode (s s' : Variables) (id : ℕ) (loc : Location) : Type 0 where
  pub fresh : is_some (s.req_read_nodes id) ≡ false
  pub next : s' ≡ set_read_nodes s (put s.req_read_nodes id loc)

-- RecvWrite

-- `loc in m && m[loc] == t` is m loc ≡ some t
pub record DiskMapUpdate {A : Type 0} (disk disk' : Imap A) (update_loc : Location) (t : A) : Type 0 where
  pub updated : disk' update_loc ≡ some t
  pub others : (loc : Location) (x : A) → disk loc ≡ some x → overlap loc update_loc ≡ false → disk' loc ≡ some x

pub record RecvWriteIndirectionTable (s s' : Variables) (id : ℕ) (loc : Location) (t : IndirectionTable) : Type 0 where
  pub fresh : is_some (s.req_write_indirection_tables id) ≡ false
  pub update : DiskMapUpdate s.indirection_tables s'.indirection_tables loc t
  pub next : s' ≡ set_tables (set_write_tables s (put s.req_write_indirection_tables id loc)) s'.indirection_tables

pub record RecvWriteNode (s s' : Variables) (id : ℕ) (loc : Location) (n : Node) : Type 0 where
  pub fresh : is_some (s.req_write_nodes id) ≡ false
  pub update : DiskMapUpdate s.nodes s'.nodes loc n
  pub next : s' ≡ set_nodes (set_write_nodes s (put s.req_write_nodes id loc)) s'.nodes

-- AckRead: what is brought, if anything, is what is stored at the place asked for

pub record AckReadIndirectionTable (s s' : Variables) (id : ℕ) (t : Option IndirectionTable) : Type 0 where
  pub there : is_some (s.req_read_indirection_tables id) ≡ true
  pub brought : (loc : Location) → s.req_read_indirection_tables id ≡ some loc → is_some t ≡ true → t ≡ s.indirection_tables loc
  pub next : s' ≡ set_read_tables s (del s.req_read_indirection_tables id)

pub record AckReadNode (s s' : Variables) (id : ℕ) (n : Option Node) : Type 0 where
  pub there : is_some (s.req_read_nodes id) ≡ true
  pub brought : (loc : Location) → s.req_read_nodes id ≡ some loc → is_some n ≡ true → n ≡ s.nodes loc
  pub next : s' ≡ set_read_nodes s (del s.req_read_nodes id)

-- AckWrite

pub record AckWriteIndirectionTable (s s' : Variables) (id : ℕ) : Type 0 where
  pub there : is_some (s.req_write_indirection_tables id) ≡ true
  pub next : s' ≡ set_write_tables s (del s.req_write_indirection_tables id)

pub record AckWriteNode (s s' : Variables) (id : ℕ) : Type 0 where
  pub there : is_some (s.req_write_nodes id) ≡ true
  pub next : s' ≡ set_write_nodes s (del s.req_write_nodes id)

pub record Stutter (s s' : Variables) : Type 0 where
  pub next : s' ≡ s

abbrev pub Next : Variables → Variables → Dop → Type 0
Next s s' (req_read_indirection_table id loc) = RecvReadIndirectionTable s s' id loc
Next s s' (req_read_node id loc) = RecvReadNode s s' id loc
Next s s' (req_write_indirection_table id loc t) = RecvWriteIndirectionTable s s' id loc t
Next s s' (req_write_node id loc n) = RecvWriteNode s s' id loc n
Next s s' (resp_read_indirection_table id t) = AckReadIndirectionTable s s' id t
Next s s' (resp_read_node id n) = AckReadNode s s' id n
Next s s' (resp_write_indirection_table id) = AckWriteIndirectionTable s s' id
Next s s' (resp_write_node id) = AckWriteNode s s' id
Next s s' no_disk_op = Stutter s s'

-- CRASH

abbrev pub UntouchedLoc : Location → Map Location → Type 0
UntouchedLoc loc reqs = (id : ℕ) (l : Location) → reqs id ≡ some l → overlap loc l ≡ false

abbrev pub HavocMap : {A : Type 0} → Imap A → Imap A → Map Location → Type 0
HavocMap {A} m m' reqs = (loc : Location) (x : A) → m loc ≡ some x → UntouchedLoc loc reqs → m' loc ≡ some x

pub record Crash (s s' : Variables) : Type 0 where
  pub no_table_reads : s'.req_read_indirection_tables ≡ empty
  pub no_node_reads : s'.req_read_nodes ≡ empty
  pub no_table_writes : s'.req_write_indirection_tables ≡ empty
  pub no_node_writes : s'.req_write_nodes ≡ empty
  pub havoc_tables : HavocMap s.indirection_tables s'.indirection_tables s.req_write_indirection_tables
  pub havoc_nodes : HavocMap s.nodes s'.nodes s.req_write_nodes

-- WHAT A DISK STANDS FOR

-- map<ReqId, Location>
unfoldable pub places : Requests → Map Location
places = mapped (λ w. w.loc)

unfoldable pub tables_stored : ℕ → Records → Imap Table
tables_stored d r = λ l. flagged (read_table d r l).present (read_table d r l).held

unfoldable pub nodes_stored : ℕ → Records → Imap Node
nodes_stored d r = λ l. flagged (read_node d r l).present (read_node d r l).held

-- each table as upstream's
unfoldable pub upstream_tables : ℕ → Records → Imap IndirectionTable
upstream_tables d r = λ l. map indirection_table (tables_stored d r l)

abbrev pub disk_vars : ℕ → DiskState → Variables
disk_vars d s =
    record {
      req_read_indirection_tables = places s.queues.tablereads;
      req_read_nodes = places s.queues.nodereads;
      req_write_indirection_tables = places s.queues.tablewrites;
      req_write_nodes = places s.queues.nodewrites;
      indirection_tables = upstream_tables d s.records;
      nodes = nodes_stored d s.records;
    }

-- an operation with the node and the table beside it
abbrev pub op_of : DiskOp → Node → Table → Dop
op_of (ReqReadIndirectionTableOp id l) n t = req_read_indirection_table id l
op_of (ReqReadNodeOp id l) n t = req_read_node id l
op_of (ReqWriteIndirectionTableOp id l) n t = req_write_indirection_table id l (indirection_table t)
op_of (ReqWriteNodeOp id l) n t = req_write_node id l n
op_of (RespReadIndirectionTableOp id b) n t = resp_read_indirection_table id (flagged (something_in b) (indirection_table t))
op_of (RespReadNodeOp id b) n t = resp_read_node id (flagged (something_in b) n)
op_of (RespWriteIndirectionTableOp id) n t = resp_write_indirection_table id
op_of (RespWriteNodeOp id) n t = resp_write_node id
op_of NoDiskOp n t = no_disk_op

abbrev pub dop_of : DiskCall → Dop
dop_of c = op_of c.op c.node c.table
