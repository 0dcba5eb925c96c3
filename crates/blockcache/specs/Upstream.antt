-- Upstream's BlockCache under its names, over abstract states. A two-state predicate is a record with a field for each conjunct. What it says
-- of the kinds of its states and operations (`s.Ready?`, `dop.ReqWriteNodeOp?`, `vop.FreezeOp?`) stands in NextStep, and the parts that these
-- have are the record's arguments.
use Rattle.std.specs.Prelude.{ℕ, ◌&&◌, cond, false, not, true, ◌≡◌}
use Rattle.std.proofs.Math.Option.{Option, none, some}
use Rattle.base.specs.Maps.{Map, del, empty, is_some, put}
use Rattle.blockdisk.specs.Upstream.{Dop, no_disk_op, req_read_indirection_table, req_read_node, req_write_indirection_table}
use Rattle.blockdisk.specs.Upstream.{req_write_node, resp_read_indirection_table, resp_read_node, resp_write_indirection_table}
use Rattle.blockdisk.specs.Upstream.{resp_write_node}
use Rattle.disklayout.specs.Device.{device_of}
use Rattle.disklayout.specs.Layout.{valid_indirection_table_location, valid_node_location, overlap}
use Rattle.disklayout.specs.declared.Location.{Location}
use Rattle.sectortype.specs.Abstract.{IndirectionTable}
use Rattle.sectortype.specs.Graph.{has_succ}
use Rattle.sectortype.specs.declared.Node.{Node}
use Rattle.sectortype.specs.declared.Succs.{Succs}

pub record OutstandingWrite : Type 0 where
  pub ref : ℕ
  pub loc : Location

-- an OutstandingRead is its reference
pub record Ready : Type 0 where
  pub persistent_indirection_table : IndirectionTable
  pub frozen_indirection_table : Option IndirectionTable
  pub ephemeral_indirection_table : IndirectionTable
  pub persistent_indirection_table_loc : Location
  pub frozen_indirection_table_loc : Option Location
  pub outstanding_indirection_table_write : Option ℕ
  pub outstanding_block_writes : Map OutstandingWrite
  pub outstanding_block_reads : Map ℕ
  pub cache : Map Node

pub data Variables : Type 0 where
  ready : Ready → Variables
  loading_indirection_table : Location → Option ℕ → Variables
  unready : Variables

-- s.(field := value)

abbrev pub set_tables : Ready → IndirectionTable → Option IndirectionTable → Ready
set_tables s p f =
    record {
      persistent_indirection_table = p;
      frozen_indirection_table = f;
      ephemeral_indirection_table = s.ephemeral_indirection_table;
      persistent_indirection_table_loc = s.persistent_indirection_table_loc;
      frozen_indirection_table_loc = s.frozen_indirection_table_loc;
      outstanding_indirection_table_write = s.outstanding_indirection_table_write;
      outstanding_block_writes = s.outstanding_block_writes;
      outstanding_block_reads = s.outstanding_block_reads;
      cache = s.cache;
    }

abbrev pub set_locs : Ready → Location → Option Location → Ready
set_locs s p f =
    record {
      persistent_indirection_table = s.persistent_indirection_table;
      frozen_indirection_table = s.frozen_indirection_table;
      ephemeral_indirection_table = s.ephemeral_indirection_table;
      persistent_indirection_table_loc = p;
      frozen_indirection_table_loc = f;
      outstanding_indirection_table_write = s.outstanding_indirection_table_write;
      outstanding_block_writes = s.outstanding_block_writes;
      outstanding_block_reads = s.outstanding_block_reads;
      cache = s.cache;
    }

abbrev pub set_table_write : Ready → Option ℕ → Ready
set_table_write s w =
    record {
      persistent_indirection_table = s.persistent_indirection_table;
      frozen_indirection_table = s.frozen_indirection_table;
      ephemeral_indirection_table = s.ephemeral_indirection_table;
      persistent_indirection_table_loc = s.persistent_indirection_table_loc;
      frozen_indirection_table_loc = s.frozen_indirection_table_loc;
      outstanding_indirection_table_write = w;
      outstanding_block_writes = s.outstanding_block_writes;
      outstanding_block_reads = s.outstanding_block_reads;
      cache = s.cache;
    }

abbrev pub set_writes : Ready → Map OutstandingWrite → Ready
set_writes s w =
    record {
      persistent_indirection_table = s.persistent_indirection_table;
      frozen_indirection_table = s.frozen_indirection_table;
      ephemeral_indirection_table = s.ephemeral_indirection_table;
      persistent_indirection_table_loc = s.persistent_indirection_table_loc;
      frozen_indirection_table_loc = s.frozen_indirection_table_loc;
      outstanding_indirection_table_write = s.outstanding_indirection_table_write;
      outstanding_block_writes = w;
      outstanding_block_reads = s.outstanding_block_reads;
      cache = s.cache;
    }

abbrev pub set_reads : Ready → Map ℕ → Ready
set_reads s r =
    record {
      persistent_indirection_table = s.persistent_indirection_table;
      frozen_indirection_table = s.frozen_indirection_table;
      ephemeral_indirection_table = s.ephemeral_indirection_table;
      persistent_indirection_table_loc = s.persistent_indirection_table_loc;
      frozen_indirection_table_loc = s.frozen_indirection_table_loc;
      outstanding_indirection_table_write = s.outstanding_indirection_table_write;
      outstanding_block_writes = s.outstanding_block_writes;
      outstanding_block_reads = r;
      cache = s.cache;
    }

abbrev pub set_cache : Ready → Map Node → Ready
set_cache s m =
    record {
      persistent_indirection_table = s.persistent_indirection_table;
      frozen_indirection_table = s.frozen_indirection_table;
      ephemeral_indirection_table = s.ephemeral_indirection_table;
      persistent_indirection_table_loc = s.persistent_indirection_table_loc;
      frozen_indirection_table_loc = s.frozen_indirection_table_loc;
      outstanding_indirection_table_write = s.outstanding_indirection_table_write;
      outstanding_block_writes = s.outstanding_block_writes;
      outstanding_block_reads = s.outstanding_block_reads;
      cache = m;
    }

-- TABLES

-- k in m
abbrev pub In : {A : Type 0} → ℕ → Map A → Type 0
In k m = is_some (m k) ≡ true

-- (iset r | r in list) == Successors(node)
abbrev pub SameSuccs : Succs → Node → Type 0
SameSuccs list node = (r : ℕ) → has_succ list r ≡ has_succ node.succs r

abbrev pub IsAllocated : Ready → ℕ → Type 0
IsAllocated s ref = In ref s.ephemeral_indirection_table.graph

abbrev pub GraphClosed : Map Succs → Type 0
GraphClosed graph = (ref : ℕ) (list : Succs) → graph ref ≡ some list → (succ : ℕ) → has_succ list succ ≡ true → In succ graph

-- forall loc | loc in locs.Values :: ValidNodeLocation(loc)
abbrev pub LocsValid : ℕ → Map Location → Type 0
LocsValid d locs = (ref : ℕ) (loc : Location) → locs ref ≡ some loc → valid_node_location (device_of d) loc ≡ true

pub record WFCompleteIndirectionTable (d : ℕ) (t : IndirectionTable) : Type 0 where
  pub valid : LocsValid d t.locs
  -- graph.Keys == locs.Keys
  pub keys : (ref : ℕ) → is_some (t.graph ref) ≡ is_some (t.locs ref)
  pub root : In 0 t.graph
  pub graph_closed : GraphClosed t.graph

pub record WFIndirectionTable (d : ℕ) (t : IndirectionTable) : Type 0 where
  pub valid : LocsValid d t.locs
  -- locs.Keys <= graph.Keys
  pub keys : (ref : ℕ) → In ref t.locs → In ref t.graph
  pub root : In 0 t.graph
  pub graph_closed : GraphClosed t.graph

-- no location of the map has the address
abbrev pub NoAddr : Map Location → ℕ → Type 0
NoAddr locs a = (ref : ℕ) (l : Location) → locs ref ≡ some l → l.addr ≡ a → ⊥

pub record ValidAllocation (s : Ready) (loc : Location) : Type 0 where
  pub persistent : NoAddr s.persistent_indirection_table.locs loc.addr
  pub ephemeral : NoAddr s.ephemeral_indirection_table.locs loc.addr
  pub frozen : (t : IndirectionTable) → s.frozen_indirection_table ≡ some t → NoAddr t.locs loc.addr
  pub writes : (id : ℕ) (w : OutstandingWrite) → s.outstanding_block_writes id ≡ some w → w.loc.addr ≡ loc.addr → ⊥

-- locs[ref := loc] if ref in graph && ref !in locs
unfoldable pub assign_ref_to_location : IndirectionTable → ℕ → Location → IndirectionTable
assign_ref_to_location t ref loc =
    record { locs = cond (is_some (t.graph ref) && not (is_some (t.locs ref))) (put t.locs ref loc) t.locs; graph = t.graph }

abbrev pub OutstandingBlockReadsDoesNotHaveRef : Map ℕ → ℕ → Type 0
OutstandingBlockReadsDoesNotHaveRef reads ref = (id r : ℕ) → reads id ≡ some r → r ≡ ref → ⊥

abbrev pub NoPredecessors : Map Succs → ℕ → Type 0
NoPredecessors graph ref = (r : ℕ) (list : Succs) → graph r ≡ some list → has_succ list ref ≡ false

abbrev pub BlockPointsToValidReferences : Node → Map Succs → Type 0
BlockPointsToValidReferences block graph = (ref : ℕ) → has_succ block.succs ref ≡ true → In ref graph

abbrev pub LocationsForDifferentRefsDontOverlap : IndirectionTable → ℕ → ℕ → Type 0
LocationsForDifferentRefsDontOverlap t r1 r2 = (l1 l2 : Location) → t.locs r1 ≡ some l1 → t.locs r2 ≡ some l2 → l1.addr ≡ l2.addr → r1 ≡ r2

abbrev pub AllLocationsForDifferentRefsDontOverlap : IndirectionTable → Type 0
AllLocationsForDifferentRefsDontOverlap t = (r1 r2 : ℕ) → LocationsForDifferentRefsDontOverlap t r1 r2

-- frozen.Some? && ref in frozen.graph ==> ref in frozen.locs
abbrev pub FrozenLocated : Option IndirectionTable → ℕ → Type 0
FrozenLocated frozen ref = (t : IndirectionTable) → frozen ≡ some t → In ref t.graph → In ref t.locs

-- THE STEPS

pub record WriteBackNodeReq (d : ℕ) (s s' : Ready) (id : ℕ) (loc : Location) (node : Node) (ref : ℕ) : Type 0 where
  -- ref in s.cache, and node == s.cache[ref]
  pub cached : s.cache ref ≡ some node
  pub valid : valid_node_location (device_of d) loc ≡ true
  pub persistent_indirection_table' : s'.persistent_indirection_table ≡ s.persistent_indirection_table
  pub no_table_write : s.outstanding_indirection_table_write ≡ none
  pub free : ValidAllocation s loc
  pub ephemeral_indirection_table' : s'.ephemeral_indirection_table ≡ assign_ref_to_location s.ephemeral_indirection_table ref loc
  pub frozen_some : (t : IndirectionTable) → s.frozen_indirection_table ≡ some t →
      s'.frozen_indirection_table ≡ some (assign_ref_to_location t ref loc)
  pub frozen_none : s.frozen_indirection_table ≡ none → s'.frozen_indirection_table ≡ none
  pub cache' : s'.cache ≡ s.cache
  pub outstanding_block_writes' : s'.outstanding_block_writes ≡ put s.outstanding_block_writes id (record { ref = ref; loc = loc })
  pub outstanding_block_reads' : s'.outstanding_block_reads ≡ s.outstanding_block_reads
  pub outstanding_indirection_table_write' : s'.outstanding_indirection_table_write ≡ s.outstanding_indirection_table_write
  pub frozen_indirection_table_loc' : s'.frozen_indirection_table_loc ≡ s.frozen_indirection_table_loc
  pub persistent_indirection_table_loc' : s'.persistent_indirection_table_loc ≡ s.persistent_indirection_table_loc

pub record WriteBackNodeResp (s s' : Ready) (id : ℕ) : Type 0 where
  pub there : In id s.outstanding_block_writes
  pub next : s' ≡ set_writes s (del s.outstanding_block_writes id)

pub record WriteBackIndirectionTableReq (d : ℕ) (s s' : Ready) (id : ℕ) (loc : Location) (t : IndirectionTable) : Type 0 where
  pub valid : valid_indirection_table_location (device_of d) loc ≡ true
  -- frozen_indirection_table.Some?, and the table == frozen_indirection_table.value
  pub frozen : s.frozen_indirection_table ≡ some t
  -- graph.Keys <= locs.Keys
  pub complete : (ref : ℕ) → In ref t.graph → In ref t.locs
  pub no_writes : s.outstanding_block_writes ≡ empty
  pub no_loc : s.frozen_indirection_table_loc ≡ none
  pub apart : overlap loc s.persistent_indirection_table_loc ≡ false
  pub next : s' ≡ set_locs (set_table_write s (some id)) s.persistent_indirection_table_loc (some loc)

pub record WriteBackIndirectionTableResp (s s' : Ready) (id : ℕ) (vloc : Location) : Type 0 where
  pub frozen_loc : some vloc ≡ s.frozen_indirection_table_loc
  pub awaited : s.outstanding_indirection_table_write ≡ some id
  pub next : s' ≡ set_table_write s none

pub record Unalloc (s s' : Ready) (ref : ℕ) : Type 0 where
  pub allocated : IsAllocated s ref
  pub not_root : ref ≡ 0 → ⊥
  pub no_predecessors : NoPredecessors s.ephemeral_indirection_table.graph ref
  pub frozen_located : FrozenLocated s.frozen_indirection_table ref
  pub persistent_indirection_table' : s'.persistent_indirection_table ≡ s.persistent_indirection_table
  pub locs' : s'.ephemeral_indirection_table.locs ≡ del s.ephemeral_indirection_table.locs ref
  pub cache' : s'.cache ≡ del s.cache ref
  pub graph' : s'.ephemeral_indirection_table.graph ≡ del s.ephemeral_indirection_table.graph ref
  pub outstanding_indirection_table_write' : s'.outstanding_indirection_table_write ≡ s.outstanding_indirection_table_write
  pub outstanding_block_writes' : s'.outstanding_block_writes ≡ s.outstanding_block_writes
  pub not_read : OutstandingBlockReadsDoesNotHaveRef s.outstanding_block_reads ref
  pub outstanding_block_reads' : s'.outstanding_block_reads ≡ s.outstanding_block_reads
  pub frozen_indirection_table' : s'.frozen_indirection_table ≡ s.frozen_indirection_table
  pub frozen_indirection_table_loc' : s'.frozen_indirection_table_loc ≡ s.frozen_indirection_table_loc
  pub persistent_indirection_table_loc' : s'.persistent_indirection_table_loc ≡ s.persistent_indirection_table_loc

pub record PageInNodeReq (s s' : Ready) (id : ℕ) (loc : Location) (ref : ℕ) : Type 0 where
  pub allocated : IsAllocated s ref
  -- ref in locs, and locs[ref] == loc
  pub located : s.ephemeral_indirection_table.locs ref ≡ some loc
  pub not_cached : s.cache ref ≡ none
  -- OutstandingRead(ref) !in outstanding_block_reads.Values
  pub not_read : (j : ℕ) → s.outstanding_block_reads j ≡ some ref → ⊥
  pub next : s' ≡ set_reads s (put s.outstanding_block_reads id ref)

pub record PageInNodeResp (s s' : Ready) (id : ℕ) (node : Option Node) : Type 0 where
  -- id in outstanding_block_reads, and its ref
  pub ref : ℕ
  pub there : s.outstanding_block_reads id ≡ some ref
  pub not_cached : s.cache ref ≡ none
  -- node.Some?, and its value
  pub block : Node
  pub brought : node ≡ some block
  -- ref in graph, and its list
  pub list : Succs
  pub allocated : s.ephemeral_indirection_table.graph ref ≡ some list
  pub succs : SameSuccs list block
  pub next : s' ≡ set_reads (set_cache s (put s.cache ref block)) (del s.outstanding_block_reads id)

pub record PageInIndirectionTableReq (at : Location) (read : Option ℕ) (s' : Variables) (id : ℕ) (loc : Location) : Type 0 where
  pub no_read : read ≡ none
  pub place : loc ≡ at
  pub next : s' ≡ loading_indirection_table at (some id)

pub record PageInIndirectionTableResp (d : ℕ) (at : Location) (read : Option ℕ) (s' : Ready) (id : ℕ)
    (brought : Option IndirectionTable) : Type 0 where
  -- indirection_table.Some?, and its value
  pub t : IndirectionTable
  pub table : brought ≡ some t
  pub wf : WFCompleteIndirectionTable d t
  pub distinct : AllLocationsForDifferentRefsDontOverlap t
  pub awaited : read ≡ some id
  pub persistent_indirection_table' : s'.persistent_indirection_table ≡ t
  pub frozen_indirection_table' : s'.frozen_indirection_table ≡ none
  pub ephemeral_indirection_table' : s'.ephemeral_indirection_table ≡ t
  pub persistent_indirection_table_loc' : s'.persistent_indirection_table_loc ≡ at
  pub frozen_indirection_table_loc' : s'.frozen_indirection_table_loc ≡ none
  pub outstanding_indirection_table_write' : s'.outstanding_indirection_table_write ≡ none
  pub outstanding_block_writes' : s'.outstanding_block_writes ≡ empty
  pub outstanding_block_reads' : s'.outstanding_block_reads ≡ empty
  pub cache' : s'.cache ≡ empty

pub record ReceiveLoc (d : ℕ) (s s' : Variables) (vloc : Location) : Type 0 where
  pub valid : valid_indirection_table_location (device_of d) vloc ≡ true
  pub before : s ≡ unready
  -- LoadingIndirectionTable?, nothing read yet, the place given
  pub next : s' ≡ loading_indirection_table vloc none

pub record Evict (s s' : Ready) (ref : ℕ) : Type 0 where
  pub cached : In ref s.cache
  pub located : IsAllocated s ref → In ref s.ephemeral_indirection_table.locs
  -- OutstandingWrite(ref, locs[ref]) !in outstanding_block_writes.Values
  pub not_written : IsAllocated s ref → (loc : Location) → s.ephemeral_indirection_table.locs ref ≡ some loc →
      (id : ℕ) → s.outstanding_block_writes id ≡ some (record { ref = ref; loc = loc }) → ⊥
  pub frozen_located : FrozenLocated s.frozen_indirection_table ref
  pub next : s' ≡ set_cache s (del s.cache ref)

pub record Freeze (s s' : Ready) : Type 0 where
  pub no_table_write : s.outstanding_indirection_table_write ≡ none
  pub next : s' ≡ set_locs (set_tables s s.persistent_indirection_table
      (some s.ephemeral_indirection_table)) s.persistent_indirection_table_loc none

pub record CleanUp (s s' : Ready) : Type 0 where
  pub no_table_write : s.outstanding_indirection_table_write ≡ none
  -- frozen_indirection_table_loc.Some?, frozen_indirection_table.Some?, and their values
  pub loc : Location
  pub frozen_loc : s.frozen_indirection_table_loc ≡ some loc
  pub table : IndirectionTable
  pub frozen : s.frozen_indirection_table ≡ some table
  pub next : s' ≡ set_locs (set_tables s table none) loc none

-- a write answer that the cache awaits
abbrev pub AwaitsTableWrite : Variables → ℕ → Type 0
AwaitsTableWrite s id = (x : Ready) × (s ≡ ready x) × (x.outstanding_indirection_table_write ≡ some id)

abbrev pub AwaitsNodeWrite : Variables → ℕ → Type 0
AwaitsNodeWrite s id = (x : Ready) × (s ≡ ready x) × In id x.outstanding_block_writes

-- the operations of NoOp
abbrev pub IdleOp : Variables → Dop → Type 0
IdleOp s (req_read_indirection_table id loc) = ⊥
IdleOp s (req_read_node id loc) = ⊥
IdleOp s (req_write_indirection_table id loc t) = ⊥
IdleOp s (req_write_node id loc n) = ⊥
IdleOp s (resp_read_indirection_table id t) = Unit {0}
IdleOp s (resp_read_node id n) = Unit {0}
IdleOp s (resp_write_indirection_table id) = AwaitsTableWrite s id → ⊥
IdleOp s (resp_write_node id) = AwaitsNodeWrite s id → ⊥
IdleOp s no_disk_op = Unit {0}

pub record NoOp (s s' : Variables) (dop : Dop) : Type 0 where
  pub op : IdleOp s dop
  pub next : s' ≡ s

pub record Dirty (s s' : Ready) (ref : ℕ) (block : Node) : Type 0 where
  pub cached : In ref s.cache
  pub allocated : IsAllocated s ref
  pub cache' : s'.cache ≡ put s.cache ref block
  pub persistent_indirection_table' : s'.persistent_indirection_table ≡ s.persistent_indirection_table
  pub locs' : s'.ephemeral_indirection_table.locs ≡ del s.ephemeral_indirection_table.locs ref
  pub points : BlockPointsToValidReferences block s.ephemeral_indirection_table.graph
  pub frozen_located : FrozenLocated s.frozen_indirection_table ref
  -- ref in s'.graph, and its list, which is fixed only as a set
  pub list : Succs
  pub allocated' : s'.ephemeral_indirection_table.graph ref ≡ some list
  pub graph' : s'.ephemeral_indirection_table.graph ≡ put s.ephemeral_indirection_table.graph ref list
  pub succs : SameSuccs list block
  pub outstanding_indirection_table_write' : s'.outstanding_indirection_table_write ≡ s.outstanding_indirection_table_write
  pub outstanding_block_writes' : s'.outstanding_block_writes ≡ s.outstanding_block_writes
  pub outstanding_block_reads' : s'.outstanding_block_reads ≡ s.outstanding_block_reads
  pub frozen_indirection_table' : s'.frozen_indirection_table ≡ s.frozen_indirection_table
  pub frozen_indirection_table_loc' : s'.frozen_indirection_table_loc ≡ s.frozen_indirection_table_loc
  pub persistent_indirection_table_loc' : s'.persistent_indirection_table_loc ≡ s.persistent_indirection_table_loc

pub record Alloc (s s' : Ready) (ref : ℕ) (block : Node) : Type 0 where
  pub not_cached : s.cache ref ≡ none
  pub not_allocated : s.ephemeral_indirection_table.graph ref ≡ none
  pub cache' : s'.cache ≡ put s.cache ref block
  pub persistent_indirection_table' : s'.persistent_indirection_table ≡ s.persistent_indirection_table
  pub locs' : s'.ephemeral_indirection_table.locs ≡ s.ephemeral_indirection_table.locs
  pub points : BlockPointsToValidReferences block s.ephemeral_indirection_table.graph
  pub list : Succs
  pub allocated' : s'.ephemeral_indirection_table.graph ref ≡ some list
  pub graph' : s'.ephemeral_indirection_table.graph ≡ put s.ephemeral_indirection_table.graph ref list
  pub succs : SameSuccs list block
  pub outstanding_indirection_table_write' : s'.outstanding_indirection_table_write ≡ s.outstanding_indirection_table_write
  pub outstanding_block_writes' : s'.outstanding_block_writes ≡ s.outstanding_block_writes
  pub outstanding_block_reads' : s'.outstanding_block_reads ≡ s.outstanding_block_reads
  pub frozen_indirection_table' : s'.frozen_indirection_table ≡ s.frozen_indirection_table
  pub frozen_indirection_table_loc' : s'.frozen_indirection_table_loc ≡ s.frozen_indirection_table_loc
  pub persistent_indirection_table_loc' : s'.persistent_indirection_table_loc ≡ s.persistent_indirection_table_loc

pub record ReadStep (s : Ready) (ref : ℕ) (node : Node) : Type 0 where
  pub allocated : IsAllocated s ref
  -- MapsTo(s.cache, ref, node)
  pub cached : s.cache ref ≡ some node

abbrev pub Init : Variables → Type 0
Init s = s ≡ unready
