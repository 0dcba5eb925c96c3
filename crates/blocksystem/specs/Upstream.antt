-- Upstream's BlockSystem under its names, up to Next, over the abstract states of cache and disk. A function that upstream gives only for some
-- arguments is a map to Option, none elsewhere; one whose domain is a predicate that no test decides is a relation.
use Rattle.std.specs.Prelude.{ℕ, cond, false, true, ◌⊎◌, ◌≡◌}
use Rattle.std.proofs.Math.Option.{Option, none, some}
use Rattle.base.specs.Maps.{Map, empty, is_some}
use Rattle.blockcache.specs.Abstract.{cache_vars}
use Rattle.blockcache.specs.NextStep.{NextStep as MNextStep}
use Rattle.blockcache.specs.Steps.{Step as MStep}
use Rattle.blockcache.specs.Upstream.{In, Init as MInit, OutstandingWrite, Ready, SameSuccs, Variables as MVariables}
use Rattle.blockcache.specs.Upstream.{WFCompleteIndirectionTable, loading_indirection_table, ready, unready}
use Rattle.blockcache.specs.declared.CacheState.{CacheState}
use Rattle.blockcache.specs.declared.VersionOp.{VersionOp}
use Rattle.blockcache.specs.declared.VersionOp.TheVariants.{CrashOp, SendPersistentLocOp}
use Rattle.blockdisk.specs.Upstream.{Crash as DCrash, Dop, Imap, Init as DInit, Next as DNext, Variables as DVariables, disk_vars}
use Rattle.blockdisk.specs.declared.DiskState.{DiskState}
use Rattle.disklayout.specs.Device.{device_of}
use Rattle.disklayout.specs.Layout.{valid_indirection_table_location}
use Rattle.disklayout.specs.declared.Location.{Location}
use Rattle.sectortype.specs.Abstract.{IndirectionTable}
use Rattle.sectortype.specs.Graph.{has_succ}
use Rattle.sectortype.specs.declared.Node.{Node}
use Rattle.sectortype.specs.declared.Succs.{Succs}

-- AsyncSectorDiskModelVariables
pub record Variables : Type 0 where
  pub machine : MVariables
  pub disk : DVariables

-- what is stored at a location, if there is one
abbrev pub at : Imap Node → Option Location → Option Node
at blocks none = none
at blocks (some loc) = blocks loc

-- TABLES AGAINST THE DISK

-- ref in locs ==> locs[ref] in blocks
abbrev pub WFIndirectionTableRefWrtDisk : IndirectionTable → Imap Node → ℕ → Type 0
WFIndirectionTableRefWrtDisk t blocks ref = (loc : Location) → t.locs ref ≡ some loc → is_some (blocks loc) ≡ true

abbrev pub WFIndirectionTableWrtDisk : IndirectionTable → Imap Node → Type 0
WFIndirectionTableWrtDisk t blocks = (ref : ℕ) → WFIndirectionTableRefWrtDisk t blocks ref

abbrev pub DisjointWritesFromIndirectionTable : Map OutstandingWrite → IndirectionTable → Type 0
DisjointWritesFromIndirectionTable writes t =
    (req ref : ℕ) (w : OutstandingWrite) (loc : Location) → writes req ≡ some w → t.locs ref ≡ some loc → w.loc ≡ loc → ⊥

abbrev pub ref_map_of_disk : IndirectionTable → Imap Node → Map Node
ref_map_of_disk t blocks = λ ref. at blocks (t.locs ref)

-- the keys of a map, and what another has at them
abbrev pub node_graph : Map Succs → Map Node → Map Node
node_graph refs refmap = λ ref. cond (is_some (refs ref)) (refmap ref) none

pub record WFDiskGraph (d : ℕ) (t : IndirectionTable) (blocks : Imap Node) : Type 0 where
  pub complete : WFCompleteIndirectionTable d t
  pub stored : WFIndirectionTableWrtDisk t blocks

unfoldable pub disk_graph : IndirectionTable → Imap Node → Map Node
disk_graph t blocks = node_graph t.graph (ref_map_of_disk t blocks)

pub record HasDiskCacheLookup (t : IndirectionTable) (disk : DVariables) (cache : Map Node) (ref : ℕ) : Type 0 where
  pub stored : WFIndirectionTableWrtDisk t disk.nodes
  -- ref !in cache ==> ref in locs && locs[ref] in disk.nodes
  pub uncached : cache ref ≡ none → is_some (at disk.nodes (t.locs ref)) ≡ true

abbrev pub disk_cache_lookup : IndirectionTable → DVariables → Map Node → Map Node
disk_cache_lookup t disk cache = λ ref. cond (is_some (t.locs ref)) (at disk.nodes (t.locs ref)) (cache ref)

pub record WFDiskCacheGraph (t : IndirectionTable) (disk : DVariables) (cache : Map Node) : Type 0 where
  pub stored : WFIndirectionTableWrtDisk t disk.nodes
  pub lookup : (ref : ℕ) → In ref t.graph → HasDiskCacheLookup t disk cache ref

abbrev pub disk_cache_graph : IndirectionTable → DVariables → Map Node → Map Node
disk_cache_graph t disk cache = node_graph t.graph (disk_cache_lookup t disk cache)

abbrev pub NoDanglingPointers : Map Node → Type 0
NoDanglingPointers graph = (r1 r2 : ℕ) (n : Node) → graph r1 ≡ some n → has_succ n.succs r2 ≡ true → In r2 graph

pub record SuccessorsAgree (succ_graph : Map Succs) (graph : Map Node) : Type 0 where
  pub there : (key : ℕ) → In key succ_graph → In key graph
  pub back : (key : ℕ) → In key graph → In key succ_graph
  pub same : (ref : ℕ) (list : Succs) (n : Node) → succ_graph ref ≡ some list → graph ref ≡ some n → SameSuccs list n

-- GRAPHS OF A PLACE

pub record WFDiskGraphOfLoc (d : ℕ) (s : Variables) (loc : Location) : Type 0 where
  pub valid : valid_indirection_table_location (device_of d) loc ≡ true
  -- loc in indirection_tables, and its table
  pub table : IndirectionTable
  pub there : s.disk.indirection_tables loc ≡ some table
  pub complete : WFCompleteIndirectionTable d table
  pub stored : WFIndirectionTableWrtDisk table s.disk.nodes

abbrev pub graph_or : Option IndirectionTable → Imap Node → Map Node
graph_or none blocks = empty
graph_or (some t) blocks = disk_graph t blocks

abbrev pub disk_graph_of_loc : Variables → Location → Map Node
disk_graph_of_loc s loc = graph_or (s.disk.indirection_tables loc) s.disk.nodes

pub record WFSuccs (d : ℕ) (s : Variables) (loc : Location) : Type 0 where
  pub whole : WFDiskGraphOfLoc d s loc
  pub agree : SuccessorsAgree whole.table.graph (disk_graph_of_loc s loc)
  pub closed : NoDanglingPointers (disk_graph_of_loc s loc)

-- loc in DiskGraphMap(s), with this graph
pub record DiskGraphMap (d : ℕ) (s : Variables) (loc : Location) (graph : Map Node) : Type 0 where
  pub succs : WFSuccs d s loc
  pub is : graph ≡ disk_graph_of_loc s loc

abbrev pub persistent_loc_of : MVariables → Option Location
persistent_loc_of (ready x) = some x.persistent_indirection_table_loc
persistent_loc_of (loading_indirection_table loc read) = some loc
persistent_loc_of unready = none

abbrev pub unless_writing : Option ℕ → Option Location → Option Location
unless_writing none loc = loc
unless_writing (some id) loc = none

abbrev pub frozen_loc_of : MVariables → Option Location
frozen_loc_of (ready x) = unless_writing x.outstanding_indirection_table_write x.frozen_indirection_table_loc
frozen_loc_of (loading_indirection_table loc read) = none
frozen_loc_of unready = none

-- the place has one graph in both states
pub record GraphPreserved (d : ℕ) (s s' : Variables) (loc : Location) : Type 0 where
  pub graph : Map Node
  pub before : DiskGraphMap d s loc graph
  pub after : DiskGraphMap d s' loc graph

pub record DiskChangesPreservesPersistentAndFrozen (d : ℕ) (s s' : Variables) : Type 0 where
  pub none_persistent : persistent_loc_of s.machine ≡ none → (loc : Location) → WFSuccs d s loc → GraphPreserved d s s' loc
  pub persistent : (loc : Location) → persistent_loc_of s.machine ≡ some loc → GraphPreserved d s s' loc
  pub frozen : (loc : Location) → frozen_loc_of s.machine ≡ some loc → GraphPreserved d s s' loc

-- THE GRAPHS OF THE MACHINE: g is the graph where upstream's WF.. holds

-- WFFrozenGraph, and FrozenGraph
pub record FrozenGraph (s : Variables) (g : Map Node) : Type 0 where
  pub x : Ready
  pub machine_ready : s.machine ≡ ready x
  pub table : IndirectionTable
  pub is_frozen : x.frozen_indirection_table ≡ some table
  pub wf : WFDiskCacheGraph table s.disk x.cache
  pub is : g ≡ disk_cache_graph table s.disk x.cache

abbrev pub WFFrozenGraph : Variables → Type 0
WFFrozenGraph s = (g : Map Node) × FrozenGraph s g

abbrev pub UseFrozenGraph : MVariables → Type 0
UseFrozenGraph m = (x : Ready) × (m ≡ ready x) × (is_some x.frozen_indirection_table ≡ true)

-- Some(g) where it is g, None where there is none
pub record GraphOpt (Is : Map Node → Type 0) (o : Option (Map Node)) : Type 0 where
  pub given : (g : Map Node) → Is g → o ≡ some g
  pub not_given : ((g : Map Node) → Is g → ⊥) → o ≡ none

abbrev pub FrozenGraphOpt : Variables → Option (Map Node) → Type 0
FrozenGraphOpt s = GraphOpt (FrozenGraph s)

-- WFLoadingGraph, and LoadingGraph
pub record LoadingGraph (d : ℕ) (s : Variables) (g : Map Node) : Type 0 where
  pub loc : Location
  pub read : Option ℕ
  pub is_loading : s.machine ≡ loading_indirection_table loc read
  pub wf : WFDiskGraphOfLoc d s loc
  pub is : g ≡ disk_graph_of_loc s loc

abbrev pub WFLoadingGraph : ℕ → Variables → Type 0
WFLoadingGraph d s = (g : Map Node) × LoadingGraph d s g

-- WFEphemeralGraph, and EphemeralGraph
pub record EphemeralGraph (s : Variables) (g : Map Node) : Type 0 where
  pub x : Ready
  pub machine_ready : s.machine ≡ ready x
  pub wf : WFDiskCacheGraph x.ephemeral_indirection_table s.disk x.cache
  pub is : g ≡ disk_cache_graph x.ephemeral_indirection_table s.disk x.cache

abbrev pub WFEphemeralGraph : Variables → Type 0
WFEphemeralGraph s = (g : Map Node) × EphemeralGraph s g

abbrev pub EphemeralGraphOpt : ℕ → Variables → Option (Map Node) → Type 0
EphemeralGraphOpt d s = GraphOpt (λ g. EphemeralGraph s g ⊎ LoadingGraph d s g)

-- INIT

pub record Init (d : ℕ) (s : Variables) (loc : Location) : Type 0 where
  pub machine : MInit s.machine
  pub disk : DInit s.disk
  pub whole : WFDiskGraphOfLoc d s loc
  pub agree : SuccessorsAgree whole.table.graph (disk_graph_of_loc s loc)
  pub closed : NoDanglingPointers (disk_graph_of_loc s loc)
  -- DiskGraphOfLoc(s, loc).Keys == iset{Root()}, and Successors of the root's node == iset{}
  pub root : Node
  pub root_there : disk_graph_of_loc s loc 0 ≡ some root
  pub only_root : (ref : ℕ) → In ref (disk_graph_of_loc s loc) → ref ≡ 0
  pub no_successors : (r : ℕ) → has_succ root.succs r ≡ false

-- NEXT

pub data Step : Type 0 where
  -- the machine's step with its reference and its node
  machine_step : Dop → ℕ → Node → MStep → Step
  crash_step : Step

pub record Machine (d : ℕ) (s s' : Variables) (dop : Dop) (vop : VersionOp) (ref : ℕ) (n : Node) (step : MStep) : Type 0 where
  pub machine : MNextStep d s.machine s'.machine dop vop ref n step
  pub disk : DNext s.disk s'.disk dop
  -- vop.SendPersistentLocOp? ==> vop.loc in DiskGraphMap(s)
  pub persistent : (loc : Location) → vop ≡ SendPersistentLocOp loc → WFSuccs d s loc

pub record Crash (s s' : Variables) (vop : VersionOp) : Type 0 where
  pub op : vop ≡ CrashOp
  pub machine : MInit s'.machine
  pub disk : DCrash s.disk s'.disk

abbrev pub NextStep : ℕ → Variables → Variables → VersionOp → Step → Type 0
NextStep d s s' vop (machine_step dop ref n step) = Machine d s s' dop vop ref n step
NextStep d s s' vop crash_step = Crash s s' vop

abbrev pub Next : ℕ → Variables → Variables → VersionOp → Type 0
Next d s s' vop = (step : Step) × NextStep d s s' vop step

-- THE UPSTREAM VARIABLES OF CACHE AND DISK

abbrev pub system_vars : ℕ → CacheState → DiskState → Variables
system_vars d c s = record { machine = cache_vars c; disk = disk_vars d s }
