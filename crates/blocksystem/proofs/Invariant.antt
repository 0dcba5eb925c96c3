-- THE invariant: what holds of cache, disk and pictures after any list of joined calls. It is stated over the upstream variables of cache and disk, and
-- over the pictures as maps. Assumes nothing.
use Prim.Native.Nat.{ℕ}
use mathlib.Core.Bool.{true}
use mathlib.Core.Option.{Option, none, some}
use mathlib.Core.Path.{◌≡◌}
use Rattle.base.specs.Maps.{Map, flagged, is_some}
use Rattle.blockcache.specs.Abstract.{cache_vars}
use Rattle.blockcache.specs.Form.{cache_form}
use Rattle.blockcache.specs.Upstream.{AllLocationsForDifferentRefsDontOverlap, In, NoAddr, OutstandingWrite, Ready, SameSuccs, Variables}
use Rattle.blockcache.specs.Upstream.{WFCompleteIndirectionTable, loading_indirection_table, ready, unready}
use Rattle.blockcache.specs.UpstreamInv.{Inv}
use Rattle.blockdisk.specs.Form.{disk_form}
use Rattle.blockdisk.specs.Upstream.{Imap, Variables as DVariables, disk_vars}
use Rattle.disklayout.specs.Device.{made}
use Rattle.disklayout.specs.declared.Location.{Location}
use Rattle.sectortype.specs.Abstract.{IndirectionTable, nodes_map}
use Rattle.sectortype.specs.Form.{nodes_form}
use Rattle.sectortype.specs.declared.Node.{Node}
use Rattle.sectortype.specs.declared.Succs.{Succs}
use Rattle.blocksystem.specs.Upstream.{unless_writing}
use Rattle.blocksystem.specs.Run.{State}
use Rattle.blocksystem.specs.declared.Pictures.{Pictures}

-- THE PICTURES AS MAPS

pub record PictureMaps : Type 0 where
  -- the place that formatting, a start or a clean-up left named, and its picture
  pub place : Location
  pub picture : Map Node
  -- the frozen place that step 4 named, and its picture
  pub second : Option Location
  pub second_picture : Map Node
  pub working : Map Node
  pub frozen : Map Node

abbrev pub picture_maps : Pictures → PictureMaps
picture_maps t =
    record {
      place = t.first.place;
      picture = nodes_map t.first.picture;
      second = flagged t.second.present t.second.place;
      second_picture = nodes_map t.second.picture;
      working = nodes_map t.working;
      frozen = nodes_map t.frozen;
    }

-- A NAMED PLACE

-- nothing is queued
abbrev pub NoneQueued : Map Location → Type 0
NoneQueued queue = (id : ℕ) (k : Location) → queue id ≡ some k → ⊥

-- no queued request has the address
abbrev pub NoneAt : Map Location → ℕ → Type 0
NoneAt queue a = (id : ℕ) (k : Location) → queue id ≡ some k → k.addr ≡ a → ⊥

-- what is stored at exactly the location is the picture's node
pub record StoredPictured (nodes : Imap Node) (l : Location) (shown : Option Node) : Type 0 where
  pub node : Node
  pub stored : nodes l ≡ some node
  pub pictured : shown ≡ some node

-- each location of a table has its picture's node on the disk
abbrev pub Located : Imap Node → Map Location → Map Node → Type 0
Located nodes locs pic = (ref : ℕ) (l : Location) → locs ref ≡ some l → StoredPictured nodes l (pic ref)

-- a list of the graph is, as a set, the successors of the picture's node
abbrev pub ListsAgree : Map Succs → Map Node → Type 0
ListsAgree graph pic = (ref : ℕ) (list : Succs) (n : Node) → graph ref ≡ some list → pic ref ≡ some n → SameSuccs list n

-- a named place l with the picture that belongs to it
pub record Kept (d : ℕ) (tables : Imap IndirectionTable) (nodes : Imap Node) (table_writes node_writes : Map Location) (l : Location)
    (pic : Map Node) : Type 0 where
  -- a table is stored at exactly the place
  pub table : IndirectionTable
  pub stored : tables l ≡ some table
  -- complete and well formed, no two references at one address
  pub complete : WFCompleteIndirectionTable d table
  pub distinct : AllLocationsForDifferentRefsDontOverlap table
  -- each of its locations has the picture's node, and the picture has no other reference
  pub located : Located nodes table.locs pic
  pub no_more : (ref : ℕ) → table.locs ref ≡ none → pic ref ≡ none
  pub lists : ListsAgree table.graph pic
  -- no table write is queued in its area, and no node write at an address of the table
  pub none_at_place : NoneAt table_writes l.addr
  pub none_at_nodes : (ref : ℕ) (k : Location) → table.locs ref ≡ some k → NoneAt node_writes k.addr

abbrev pub KeptOn : ℕ → DVariables → Location → Map Node → Type 0
KeptOn d v l pic = Kept d v.indirection_tables v.nodes v.req_write_indirection_tables v.req_write_nodes l pic

-- THE PARTS OF A READY STATE. Each is over those variables of cache, disk and pictures alone that it names, so that a step keeps those parts at once
-- whose variables it leaves alone.

-- two maps have the same keys
abbrev pub SameKeys : {A B : Type 0} → Map A → Map B → Type 0
SameKeys a b = (ref : ℕ) → is_some (a ref) ≡ is_some (b ref)

-- the persistent table
pub record PersistentOk (tables : Imap IndirectionTable) (table_reads : Map Location) (place loc : Location)
    (t : IndirectionTable) : Type 0 where
  -- the first named place is the persistent one, and the persistent table is stored there
  pub place_is : place ≡ loc
  pub stored : tables loc ≡ some t
  -- it is loaded: no table read is queued
  pub no_reads : NoneQueued table_reads

-- the frozen table is stored at its place, if that is set
abbrev pub FrozenStored : Imap IndirectionTable → Option Location → Option IndirectionTable → Type 0
FrozenStored tables loc frozen = (l : Location) (t : IndirectionTable) → loc ≡ some l → frozen ≡ some t → tables l ≡ some t

-- a queued table write is the one awaited, at the frozen place
abbrev pub TableWritesAwaited : Map Location → Option ℕ → Option Location → Type 0
TableWritesAwaited queue awaited loc = (id : ℕ) (k : Location) → queue id ≡ some k → (awaited ≡ some id) × (loc ≡ some k)

-- the frozen place
pub record FrozenPlaceOk (tables : Imap IndirectionTable) (queue : Map Location) (second : Option Location) (awaited : Option ℕ)
    (loc : Option Location) (t : Option IndirectionTable) : Type 0 where
  -- the second named place is the frozen one, while no write of it is outstanding
  pub place_is : second ≡ unless_writing awaited loc
  pub stored : FrozenStored tables loc t
  pub writes : TableWritesAwaited queue awaited loc

-- a queued node write is one that the cache awaits, at the same place
abbrev pub NodeWritesAwaited : Map Location → Map OutstandingWrite → Type 0
NodeWritesAwaited queue writes = (id : ℕ) (k : Location) → queue id ≡ some k → (w : OutstandingWrite) × (writes id ≡ some w) × (w.loc ≡ k)

-- no outstanding node write has the address of a location of the table
abbrev pub WritesApart : Map OutstandingWrite → Map Location → Type 0
WritesApart writes locs = (id : ℕ) (w : OutstandingWrite) → writes id ≡ some w → NoAddr locs w.loc.addr

-- the node writes
pub record NodeWritesOk (queue : Map Location) (writes : Map OutstandingWrite) (t : IndirectionTable) (loc : Option Location)
    (frozen : Option IndirectionTable) : Type 0 where
  pub awaited : NodeWritesAwaited queue writes
  -- none is outstanding at an address of the persistent table t, nor of a frozen one whose place is set
  pub persistent_apart : WritesApart writes t.locs
  pub frozen_apart : (l : Location) (f : IndirectionTable) → loc ≡ some l → frozen ≡ some f → WritesApart writes f.locs

-- a queued node read is one that the cache awaits, at the ephemeral location of its reference
abbrev pub NodeReadsAwaited : Map Location → Map ℕ → Map Location → Type 0
NodeReadsAwaited queue reading locs =
    (id : ℕ) (k : Location) → queue id ≡ some k → (ref : ℕ) × (reading id ≡ some ref) × (locs ref ≡ some k)

-- a read that the cache awaits is queued: no wait is for ever
abbrev pub ReadsQueued : Map ℕ → Map Location → Type 0
ReadsQueued reading queue = (id : ℕ) → In id reading → is_some (queue id) ≡ true

-- a reference that is being read is allocated and not cached
abbrev pub ReadsUncached : Map ℕ → Map Succs → Map Node → Type 0
ReadsUncached reading graph cache = (id ref : ℕ) → reading id ≡ some ref → In ref graph × (cache ref ≡ none)

-- the node reads; t is the ephemeral table
pub record NodeReadsOk (queue : Map Location) (reading : Map ℕ) (t : IndirectionTable) (cache : Map Node) : Type 0 where
  pub awaited : NodeReadsAwaited queue reading t.locs
  pub queued : ReadsQueued reading queue
  pub uncached : ReadsUncached reading t.graph cache

-- a table and its picture
pub record Pictured (nodes : Imap Node) (t : IndirectionTable) (pic : Map Node) : Type 0 where
  -- the picture has the table's references exactly, each with a node whose successors are its list; a located one has its node on the disk
  pub refs : SameKeys pic t.graph
  pub lists : ListsAgree t.graph pic
  pub located : Located nodes t.locs pic

-- the ephemeral table and the working picture
pub record WorkingOk (nodes : Imap Node) (t : IndirectionTable) (cache pic : Map Node) : Type 0 where
  pub pictured : Pictured nodes t pic
  -- a cached reference has the working picture's node
  pub cached : (ref : ℕ) (n : Node) → In ref t.graph → cache ref ≡ some n → pic ref ≡ some n

-- the frozen table and the frozen picture
pub record FrozenOk (nodes : Imap Node) (t : IndirectionTable) (cache pic : Map Node) : Type 0 where
  pub pictured : Pictured nodes t pic
  -- a reference without a location is cached with the frozen picture's node
  pub cached : (ref : ℕ) → In ref t.graph → t.locs ref ≡ none → (n : Node) × (cache ref ≡ some n) × (pic ref ≡ some n)

-- THE INVARIANT, PHASE BY PHASE

pub record ReadyOk (x : Ready) (v : DVariables) (t : PictureMaps) : Type 0 where
  pub persistent : PersistentOk v.indirection_tables v.req_read_indirection_tables t.place x.persistent_indirection_table_loc x.persistent_indirection_table
  pub frozen_place : FrozenPlaceOk v.indirection_tables v.req_write_indirection_tables t.second x.outstanding_indirection_table_write x.frozen_indirection_table_loc x.frozen_indirection_table
  pub writes : NodeWritesOk v.req_write_nodes x.outstanding_block_writes x.persistent_indirection_table x.frozen_indirection_table_loc x.frozen_indirection_table
  pub reads : NodeReadsOk v.req_read_nodes x.outstanding_block_reads x.ephemeral_indirection_table x.cache
  pub working : WorkingOk v.nodes x.ephemeral_indirection_table x.cache t.working
  pub frozen : (f : IndirectionTable) → x.frozen_indirection_table ≡ some f → FrozenOk v.nodes f x.cache t.frozen

pub record LoadingOk (at : Location) (read : Option ℕ) (v : DVariables) (t : PictureMaps) : Type 0 where
  -- only the place being loaded is named, and its picture is the working one
  pub place : t.place ≡ at
  pub no_second : t.second ≡ none
  pub working : t.working ≡ t.picture
  -- a queued table read is the awaited one, at that place, and an awaited one is queued; the other queues are empty
  pub table_reads : (id : ℕ) (k : Location) → v.req_read_indirection_tables id ≡ some k → (read ≡ some id) × (k ≡ at)
  pub queued : (id : ℕ) → read ≡ some id → is_some (v.req_read_indirection_tables id) ≡ true
  pub no_node_reads : NoneQueued v.req_read_nodes
  pub no_table_writes : NoneQueued v.req_write_indirection_tables
  pub no_node_writes : NoneQueued v.req_write_nodes

-- Unready: nothing is queued
pub record UnreadyOk (v : DVariables) : Type 0 where
  pub no_table_reads : NoneQueued v.req_read_indirection_tables
  pub no_node_reads : NoneQueued v.req_read_nodes
  pub no_table_writes : NoneQueued v.req_write_indirection_tables
  pub no_node_writes : NoneQueued v.req_write_nodes

abbrev pub InPhase : Variables → DVariables → PictureMaps → Type 0
InPhase (ready x) v t = ReadyOk x v t
InPhase (loading_indirection_table at read) v t = LoadingOk at read v t
InPhase unready v t = UnreadyOk v

-- of the abstract states
pub record Whole (d : ℕ) (s : Variables) (v : DVariables) (t : PictureMaps) : Type 0 where
  -- upstream's Inv, widened
  pub inv : Inv d s
  -- each named place is kept
  pub first : KeptOn d v t.place t.picture
  pub second : (l : Location) → t.second ≡ some l → KeptOn d v l t.second_picture
  -- two named places lie in different areas
  pub apart : (l : Location) → t.second ≡ some l → l.addr ≡ t.place.addr → ⊥
  pub phase : InPhase s v t

-- each picture is in its form
pub record PicturesForm (t : Pictures) : Type 0 where
  pub first : nodes_form t.first.picture ≡ true
  pub second : nodes_form t.second.picture ≡ true
  pub working : nodes_form t.working ≡ true
  pub frozen : nodes_form t.frozen ≡ true

-- of the structs
pub record Invariant (d : ℕ) (s : State) : Type 0 where
  pub made_device : made d ≡ true
  pub cache_form_lem : cache_form d s.cache ≡ true
  pub disk_form_lem : disk_form d s.disk ≡ true
  pub pictures_form : PicturesForm s.pictures
  pub first_named : s.pictures.first.present ≡ true
  pub whole : Whole d (cache_vars s.cache) (disk_vars d s.disk) (picture_maps s.pictures)
