-- Upstream's Inv under its names: predicates over the parts of the state that they speak of.
use Rattle.std.specs.Prelude.{ℕ, false, true, ◌⊎◌, ◌≡◌}
use Rattle.std.proofs.Math.Option.{Option, none, some}
use Rattle.base.specs.Maps.{Map, is_some}
use Rattle.blockcache.specs.Upstream.{AllLocationsForDifferentRefsDontOverlap, In, OutstandingWrite, Ready, SameSuccs, Variables}
use Rattle.blockcache.specs.Upstream.{WFCompleteIndirectionTable, WFIndirectionTable, loading_indirection_table, ready, unready}
use Rattle.disklayout.specs.Device.{device_of}
use Rattle.disklayout.specs.Layout.{valid_indirection_table_location, valid_node_location, overlap}
use Rattle.disklayout.specs.declared.Location.{Location}
use Rattle.sectortype.specs.Abstract.{IndirectionTable}
use Rattle.sectortype.specs.declared.Node.{Node}
use Rattle.sectortype.specs.declared.Succs.{Succs}

abbrev pub CacheConsistentWithSuccessors : Map Node → Map Succs → Type 0
CacheConsistentWithSuccessors cache graph =
    (ref : ℕ) (n : Node) (list : Succs) → cache ref ≡ some n → graph ref ≡ some list → SameSuccs list n

-- graph.Keys <= cache.Keys + locs.Keys
abbrev pub IndirectionTableCacheConsistent : IndirectionTable → Map Node → Type 0
IndirectionTableCacheConsistent t cache = (ref : ℕ) → In ref t.graph → In ref cache ⊎ In ref t.locs

abbrev pub EphemeralTableEntriesInCacheOrNotBeingWritten : IndirectionTable → Map Node → Map OutstandingWrite → Type 0
EphemeralTableEntriesInCacheOrNotBeingWritten t cache writes =
    (ref : ℕ) → In ref t.graph → cache ref ≡ none → (id : ℕ) (w : OutstandingWrite) → writes id ≡ some w →
    (loc : Location) → t.locs ref ≡ some loc → w.ref ≡ ref → w.loc.addr ≡ loc.addr → ⊥

abbrev pub OutstandingReadRefsUnique : Map ℕ → Type 0
OutstandingReadRefsUnique reading = (id1 id2 ref : ℕ) → reading id1 ≡ some ref → reading id2 ≡ some ref → id1 ≡ id2

abbrev pub OverlappingImpliesEq : Location → Location → Type 0
OverlappingImpliesEq loc1 loc2 = loc1.addr ≡ loc2.addr → loc1 ≡ loc2

abbrev pub OverlappingWritesEqForIndirectionTable : Map OutstandingWrite → IndirectionTable → Type 0
OverlappingWritesEqForIndirectionTable writes t =
    (ref : ℕ) (loc : Location) → t.locs ref ≡ some loc → (id : ℕ) (w : OutstandingWrite) → writes id ≡ some w →
    OverlappingImpliesEq loc w.loc

abbrev pub OutstandingWriteValidNodeLocation : ℕ → Map OutstandingWrite → Type 0
OutstandingWriteValidNodeLocation d writes =
    (id : ℕ) (w : OutstandingWrite) → writes id ≡ some w → valid_node_location (device_of d) w.loc ≡ true

abbrev pub OutstandingBlockWritesDontOverlap : Map OutstandingWrite → ℕ → ℕ → Type 0
OutstandingBlockWritesDontOverlap writes id1 id2 =
    (w1 w2 : OutstandingWrite) → writes id1 ≡ some w1 → writes id2 ≡ some w2 → w1.loc.addr ≡ w2.loc.addr → id1 ≡ id2

abbrev pub AllOutstandingBlockWritesDontOverlap : Map OutstandingWrite → Type 0
AllOutstandingBlockWritesDontOverlap writes = (id1 id2 : ℕ) → OutstandingBlockWritesDontOverlap writes id1 id2

-- what InvReady says of a frozen table
pub record InvFrozen (d : ℕ) (t : IndirectionTable) (cache : Map Node) (writes : Map OutstandingWrite) : Type 0 where
  pub wf : WFIndirectionTable d t
  pub consistent : IndirectionTableCacheConsistent t cache
  pub overlapping : OverlappingWritesEqForIndirectionTable writes t
  -- wider than upstream, which asks for distinct addresses only in the ephemeral table
  pub distinct : AllLocationsForDifferentRefsDontOverlap t

-- and of the place of one, while the persistent table is at `persistent`
pub record InvFrozenLoc (d : ℕ) (loc persistent : Location) (frozen : Option IndirectionTable) : Type 0 where
  pub table : IndirectionTable
  pub is : frozen ≡ some table
  pub wf : WFCompleteIndirectionTable d table
  pub valid : valid_indirection_table_location (device_of d) loc ≡ true
  pub apart : overlap loc persistent ≡ false

-- of the persistent table
pub record InvPersistent (d : ℕ) (t : IndirectionTable) (writes : Map OutstandingWrite) : Type 0 where
  pub wf : WFCompleteIndirectionTable d t
  pub overlapping : OverlappingWritesEqForIndirectionTable writes t
  -- wider than upstream, as above
  pub distinct : AllLocationsForDifferentRefsDontOverlap t

-- of the ephemeral table and the cached nodes
pub record InvEphemeral (d : ℕ) (t : IndirectionTable) (cache : Map Node) (writes : Map OutstandingWrite) : Type 0 where
  pub wf : WFIndirectionTable d t
  pub consistent : IndirectionTableCacheConsistent t cache
  pub successors : CacheConsistentWithSuccessors cache t.graph
  pub not_written : EphemeralTableEntriesInCacheOrNotBeingWritten t cache writes
  pub overlapping : OverlappingWritesEqForIndirectionTable writes t
  pub distinct : AllLocationsForDifferentRefsDontOverlap t

-- of what is outstanding
pub record InvOutstanding (d : ℕ) (writes : Map OutstandingWrite) (reading : Map ℕ) : Type 0 where
  pub reads_unique : OutstandingReadRefsUnique reading
  pub writes_valid : OutstandingWriteValidNodeLocation d writes
  pub writes_apart : AllOutstandingBlockWritesDontOverlap writes

-- of the tables' places and the awaited table write
pub record InvPlaces (d : ℕ) (persistent : Location) (frozenLoc : Option Location) (frozen : Option IndirectionTable)
    (awaited : Option ℕ) : Type 0 where
  pub persistent_valid : valid_indirection_table_location (device_of d) persistent ≡ true
  pub frozen_loc : (loc : Location) → frozenLoc ≡ some loc → InvFrozenLoc d loc persistent frozen
  pub table_write : (id : ℕ) → awaited ≡ some id → is_some frozenLoc ≡ true

-- upstream's conjuncts in groups, each over the parts of the state that it speaks of: a step shows anew only the groups that it touches
pub record InvReady (d : ℕ) (s : Ready) : Type 0 where
  pub persistent : InvPersistent d s.persistent_indirection_table s.outstanding_block_writes
  pub ephemeral : InvEphemeral d s.ephemeral_indirection_table s.cache s.outstanding_block_writes
  pub frozen : (t : IndirectionTable) → s.frozen_indirection_table ≡ some t → InvFrozen d t s.cache s.outstanding_block_writes
  pub outstanding : InvOutstanding d s.outstanding_block_writes s.outstanding_block_reads
  pub places : InvPlaces d s.persistent_indirection_table_loc s.frozen_indirection_table_loc s.frozen_indirection_table s.outstanding_indirection_table_write

abbrev pub Inv : ℕ → Variables → Type 0
Inv d (ready s) = InvReady d s
Inv d (loading_indirection_table at read) = valid_indirection_table_location (device_of d) at ≡ true
Inv d unready = Unit {0}
