-- Upstream's graphs along the run: a named place has its picture as graph on upstream's disk, the persistent place is the first name's
-- and the frozen place the second's; the ephemeral graph is the working picture, the frozen graph the frozen picture. Each wherever the
-- invariant holds, so after any of demand 3's lists. Assumes nothing.
use Prim.Native.Nat.{ℕ}
use mathlib.Core.Bool.{cond, false≢true, true}
use mathlib.Core.Logic.{◌↔◌, ◌⊎◌, inl, inr, ⊎_elim}
use mathlib.Core.Option.{Option, none, some}
use mathlib.Core.Path.{◌∙◌, ◌≡◌, ap, fun_ext, refl, subst, sym}
use native.Mathlib.Omega.{arith}
use Rattle.base.proofs.Maps.{some_of}
use Rattle.base.proofs.Tests.{clash, never, none_iff, some_iff, split}
use Rattle.base.specs.Maps.{Map, is_some}
use Rattle.blockcache.specs.Abstract.{cache_vars}
use Rattle.blockcache.specs.Upstream.{In, Ready, Variables as MVariables, loading_indirection_table, ready, unready}
use Rattle.blockcache.specs.UpstreamInv.{Inv, InvReady}
use Rattle.blockdisk.specs.Upstream.{Variables as DVariables, disk_vars}
use Rattle.disklayout.specs.declared.Location.{Location}
use Rattle.sectortype.specs.Abstract.{IndirectionTable, nodes_map}
use Rattle.sectortype.specs.declared.Node.{Node}
use Rattle.blocksystem.proofs.Invariant.{InPhase, Invariant, KeptOn, PictureMaps, Pictured, ReadyOk, picture_maps}
use Rattle.blocksystem.proofs.Naming.{NameIn}
use Rattle.blocksystem.proofs.Restart.{graph_pictured, kept_succs}
use Rattle.blocksystem.specs.Run.{State}
use Rattle.blocksystem.specs.Upstream.{disk_cache_graph, DiskGraphMap, EphemeralGraph, EphemeralGraphOpt, FrozenGraph}
use Rattle.blocksystem.specs.Upstream.{FrozenGraphOpt}
use Rattle.blocksystem.specs.Upstream.{frozen_loc_of, LoadingGraph}
use Rattle.blocksystem.specs.Upstream.{persistent_loc_of, UseFrozenGraph, Variables, WFDiskCacheGraph, WFDiskGraph, WFEphemeralGraph}
use Rattle.blocksystem.specs.Upstream.{WFFrozenGraph, WFLoadingGraph, at, DisjointWritesFromIndirectionTable}
use Rattle.blocksystem.specs.Upstream.{system_vars}
use Rattle.blocksystem.specs.declared.Named.{Named}

-- THE PLACES, phase by phase

-- from the moment on that a place is received: in Loading and in Ready
abbrev pub received : {A : Type 0} → MVariables → Option A → Option A
received (ready x) o = o
received (loading_indirection_table l read) o = o
received unready o = none

received_some : {A : Type 0} (m : MVariables) (o : Option A) (a : A) → received m o ≡ some a → o ≡ some a
received_some (ready x) o a e = e
received_some (loading_indirection_table l read) o a e = e
received_some unready o a e = never e

-- the persistent place is the first name's
persistent_first : (m : MVariables) (v : DVariables) (t : PictureMaps) → InPhase m v t → persistent_loc_of m ≡ received m (some t.place)
persistent_first (ready x) v t h = ap some (sym h.persistent.place_is)
persistent_first (loading_indirection_table at read) v t h = ap some (sym h.place)
persistent_first unready v t h = refl

-- the frozen place, unless its write is outstanding, is the second's
frozen_second : (m : MVariables) (v : DVariables) (t : PictureMaps) → InPhase m v t → frozen_loc_of m ≡ received m t.second
frozen_second (ready x) v t h = sym h.frozen_place.place_is
frozen_second (loading_indirection_table at read) v t h = sym h.no_second
frozen_second unready v t h = refl

-- A TABLE AND ITS PICTURE, over the disk and the cached nodes

module _ (v : DVariables) (t : IndirectionTable) (cache pic : Map Node) (p : Pictured v.nodes t pic)
    (unlocated : (ref : ℕ) → In ref t.graph → t.locs ref ≡ none → (n : Node) × (cache ref ≡ some n) × (pic ref ≡ some n)) where
  table_stored : (ref : ℕ) (l : Location) → t.locs ref ≡ some l → is_some (v.nodes l) ≡ true
  table_stored ref l e = ap is_some (p.located ref l e).stored

  graph_wf : WFDiskCacheGraph t v cache
  graph_wf =
      record {
        stored = table_stored;
        lookup = λ ref i.
            record {
              stored = table_stored;
              uncached = λ n.
                  split (is_some (t.locs ref))
                  (λ a. let m = some_of t.locs ref a in rw m.1 (table_stored ref m.0 m.1))
                  (λ a. let u = unlocated ref i ((none_iff (t.locs ref)).0 a) in never (sym n ∙ u.1));
            };
      }

  graph_is : pic ≡ disk_cache_graph t v cache
  graph_is =
      fun_ext (λ ref.
      split (is_some (t.graph ref))
      (λ i. split (is_some (t.locs ref))
      (λ a. let m = some_of t.locs ref a in let z = p.located ref m.0 m.1 in rw (i, m.1) (z.pictured ∙ sym z.stored))
      (λ a. let u = unlocated ref i ((none_iff (t.locs ref)).0 a) in rw (i, a) (u.2 ∙ sym u.1)))
      (λ i. rw i ((none_iff (pic ref)).0 (p.refs ref ∙ i))))

-- WHEREVER THE INVARIANT HOLDS

module _ (d : ℕ) (s : State) (v : Invariant d s) where
  abbrev vars : Variables
  vars = system_vars d s.cache s.disk

  abbrev disk : DVariables
  disk = disk_vars d s.disk

  -- the working and the frozen picture
  abbrev shown : Map Node
  shown = nodes_map s.pictures.working

  abbrev frozen_shown : Map Node
  frozen_shown = nodes_map s.pictures.frozen

  abbrev first : Named
  first = s.pictures.first

  abbrev second : Named
  second = s.pictures.second

  pub place_graph : (l : Location) (pic : Map Node) → KeptOn d disk l pic → DiskGraphMap d vars l pic
  place_graph l pic k =
      record {
        succs = kept_succs d s v l pic k;
        is = rw k.stored (fun_ext (λ ref. sym (graph_pictured d s v l pic k ref)));
      }

  in_phase : (m : MVariables) → cache_vars s.cache ≡ m → InPhase m disk (picture_maps s.pictures)
  in_phase m e = subst (λ y. InPhase y disk (picture_maps s.pictures)) e v.whole.phase

  -- each named place is one of DiskGraphMap, with its picture's graph; the table there is complete, and all its nodes are stored
  pub named_graph : (m : Named) → NameIn s.pictures m → m.present ≡ true → DiskGraphMap d vars m.place (nodes_map m.picture)
  named_graph m which there =
      ⊎_elim (λ (i : m ≡ first). rw i (place_graph first.place (nodes_map first.picture) v.whole.first))
      (λ (i : m ≡ second).
      let kept = v.whole.second second.place (rw (← i, there)) in
      rw i (place_graph second.place (nodes_map second.picture) kept))
      which

  pub named_disk_graph : (m : Named) → NameIn s.pictures m → m.present ≡ true →
      (t : IndirectionTable) × (disk.indirection_tables m.place ≡ some t) × WFDiskGraph d t disk.nodes
  named_disk_graph m which there =
      let w = (named_graph m which there).succs.whole in
      (w.table, w.there, record { complete = w.complete; stored = w.stored })

  -- once a place is received the persistent place is the first named place, and has its picture's graph
  pub persistent_is : persistent_loc_of (cache_vars s.cache) ≡ received (cache_vars s.cache) (some first.place)
  persistent_is = persistent_first (cache_vars s.cache) disk (picture_maps s.pictures) v.whole.phase

  pub persistent_graph : (l : Location) → persistent_loc_of (cache_vars s.cache) ≡ some l →
      (first.place ≡ l) × DiskGraphMap d vars l (nodes_map first.picture)
  persistent_graph l e =
      let there : some first.place ≡ some l = received_some (cache_vars s.cache) (some first.place) l (sym persistent_is ∙ e) in
      let i : first.place ≡ l = cc in
      (i, rw i at (named_graph first (inl refl) v.first_named))

  -- and the frozen place, once its write is answered, the second named place, likewise; there is none where no second place is named
  pub frozen_is : frozen_loc_of (cache_vars s.cache) ≡ received (cache_vars s.cache) (picture_maps s.pictures).second
  frozen_is = frozen_second (cache_vars s.cache) disk (picture_maps s.pictures) v.whole.phase

  pub frozen_graph_of_loc : (l : Location) → frozen_loc_of (cache_vars s.cache) ≡ some l →
      ((picture_maps s.pictures).second ≡ some l) × DiskGraphMap d vars l (nodes_map second.picture)
  frozen_graph_of_loc l e =
      let i = received_some (cache_vars s.cache) (picture_maps s.pictures).second l (sym frozen_is ∙ e) in
      (i, place_graph l (nodes_map second.picture) (v.whole.second l i))

  -- THE GRAPHS OF THE MACHINE

  module _ (x : Ready) (is : cache_vars s.cache ≡ ready x) where
    ok : ReadyOk x disk (picture_maps s.pictures)
    ok = in_phase (ready x) is

    inv : InvReady d x
    inv = subst (Inv d) is v.whole.inv

    -- a reference of the ephemeral graph without a location is cached, with the working picture's node
    unlocated_cached : (ref : ℕ) → In ref x.ephemeral_indirection_table.graph → x.ephemeral_indirection_table.locs ref ≡ none →
        (n : Node) × (x.cache ref ≡ some n) × (shown ref ≡ some n)
    unlocated_cached ref i e =
        ⊎_elim
        (λ c. let n = (some_iff (x.cache ref)).0 c in (n.0, n.1, ok.working.cached ref n.0 i n.1))
        (λ a. clash a (ap is_some e)) (inv.ephemeral.consistent ref i)

    -- in Ready the ephemeral graph is the working picture
    ephemeral_is : shown ≡ disk_cache_graph x.ephemeral_indirection_table disk x.cache
    ephemeral_is = graph_is disk x.ephemeral_indirection_table x.cache shown ok.working.pictured unlocated_cached

    pub ephemeral_working : EphemeralGraph vars shown
    ephemeral_working =
        record {
          x = x;
          machine_ready = is;
          wf = graph_wf disk x.ephemeral_indirection_table x.cache shown ok.working.pictured unlocated_cached;
          is = ephemeral_is;
        }

    -- the frozen graph, where there is a frozen table, is the frozen picture
    module _ (f : IndirectionTable) (e : x.frozen_indirection_table ≡ some f) where
      frozen_picture_is : frozen_shown ≡ disk_cache_graph f disk x.cache
      frozen_picture_is = graph_is disk f x.cache frozen_shown (ok.frozen f e).pictured (ok.frozen f e).cached

      pub frozen_frozen : FrozenGraph vars frozen_shown
      frozen_frozen =
          record {
            x = x;
            machine_ready = is;
            table = f;
            is_frozen = e;
            wf = graph_wf disk f x.cache frozen_shown (ok.frozen f e).pictured (ok.frozen f e).cached;
            is = frozen_picture_is;
          }

    -- no outstanding write is at a location of the persistent table, nor of a frozen one whose place is set
    pub writes_disjoint : DisjointWritesFromIndirectionTable x.outstanding_block_writes x.persistent_indirection_table
    writes_disjoint req ref w l e a p = ok.writes.persistent_apart req w e ref l a (sym (ap (λ k. k.addr) p))

    pub frozen_writes_disjoint : (l : Location) (f : IndirectionTable) → x.frozen_indirection_table_loc ≡ some l →
        x.frozen_indirection_table ≡ some f →
        DisjointWritesFromIndirectionTable x.outstanding_block_writes f
    frozen_writes_disjoint l f i j req ref w k e a p = ok.writes.frozen_apart l f i j req w e ref k a (sym (ap (λ y. y.addr) p))

  -- in Loading the graph being loaded is the working picture
  module _ (l : Location) (read : Option ℕ) (is : cache_vars s.cache ≡ loading_indirection_table l read) where
    being_loaded : DiskGraphMap d vars l shown
    being_loaded =
        let h = in_phase (loading_indirection_table l read) is in
        let g = rw h.place at (named_graph first (inl refl) v.first_named) in
        record { succs = g.succs; is = h.working ∙ g.is }

    pub loading_working : LoadingGraph d vars shown
    loading_working = record { loc = l; read = read; is_loading = is; wf = being_loaded.succs.whole; is = being_loaded.is }

  -- WHERE THEY ARE DEFINED, and upstream's options of them

  pub wf_ephemeral_iff : WFEphemeralGraph vars ↔ ((x : Ready) × (cache_vars s.cache ≡ ready x))
  wf_ephemeral_iff = ((λ (g, k). (k.x, k.machine_ready)), (λ (x, e). (shown, ephemeral_working x e)))

  pub wf_loading_iff : WFLoadingGraph d vars
      ↔ ((l : Location) × (read : Option ℕ) × (cache_vars s.cache ≡ loading_indirection_table l read))
  wf_loading_iff = ((λ (g, k). (k.loc, k.read, k.is_loading)), (λ (l, read, e). (shown, loading_working l read e)))

  pub wf_frozen_iff : WFFrozenGraph vars ↔ UseFrozenGraph (cache_vars s.cache)
  wf_frozen_iff = (
    (λ (g, k). (k.x, k.machine_ready, ap is_some k.is_frozen)),
    (λ (x, e, t). let f = (some_iff x.frozen_indirection_table).0 t in (frozen_shown, frozen_frozen x e f.0 f.1)),
  )

  -- and there is no other
  same_ephemeral : (g : Map Node) → EphemeralGraph vars g → g ≡ shown
  same_ephemeral g k = k.is ∙ sym (ephemeral_is k.x k.machine_ready)

  same_loading : (g : Map Node) → LoadingGraph d vars g → g ≡ shown
  same_loading g k = k.is ∙ sym (being_loaded k.loc k.read k.is_loading).is

  same_frozen : (g : Map Node) → FrozenGraph vars g → g ≡ frozen_shown
  same_frozen g k = k.is ∙ sym (frozen_picture_is k.x k.machine_ready k.table k.is_frozen)

  only_shown : (o : Option (Map Node)) → o ≡ some shown → (g : Map Node) → (EphemeralGraph vars g ⊎ LoadingGraph d vars g) → o ≡ some g
  only_shown o i g k = i ∙ ap some (sym (⊎_elim (same_ephemeral g) (same_loading g) k))

  -- the ephemeral graph is the working picture; there is none in Unready
  ephemeral_in : (m : MVariables) → cache_vars s.cache ≡ m → (o : Option (Map Node)) →
      EphemeralGraphOpt d vars o ↔ (o ≡ received m (some shown))
  ephemeral_in (ready x) e o = (
    (λ h. h.given shown (inl (ephemeral_working x e))),
    (λ i. record { given = only_shown o i; not_given = λ none_is. absurd (none_is shown (inl (ephemeral_working x e))) }),
  )
  ephemeral_in (loading_indirection_table l read) e o = (
    (λ h. h.given shown (inr (loading_working l read e))),
    (λ i. record { given = only_shown o i; not_given = λ none_is. absurd (none_is shown (inr (loading_working l read e))) }),
  )
  ephemeral_in unready e o =
      let neither : ((g : Map Node) → (EphemeralGraph vars g ⊎ LoadingGraph d vars g) → ⊥) =
      λ g. ⊎_elim (λ k. let r = k.machine_ready in absurd (let z : ◌≡◌ {A = ℕ} 0 1 = cc in omega arith))
      (λ k. let r = k.is_loading in absurd (let z : ◌≡◌ {A = ℕ} 0 1 = cc in omega arith)) in
      ((λ h. h.not_given neither), (λ i. record { given = λ g k. absurd (neither g k); not_given = λ none_is. i }))

  pub ephemeral_opt : (o : Option (Map Node)) → EphemeralGraphOpt d vars o ↔ (o ≡ received (cache_vars s.cache) (some shown))
  ephemeral_opt = ephemeral_in (cache_vars s.cache) refl

  -- the frozen graph, where there is a frozen table, is the frozen picture; else there is none
  abbrev pub frozen_of : MVariables → Option IndirectionTable
  frozen_of (ready x) = x.frozen_indirection_table
  frozen_of (loading_indirection_table l read) = none
  frozen_of unready = none

  used_iff : (m : MVariables) → UseFrozenGraph m ↔ (is_some (frozen_of m) ≡ true)
  used_iff (ready x) = ((λ (y, e, t). let i : x ≡ y = cc in rw i t), (λ t. (x, refl, t)))
  used_iff (loading_indirection_table l read) =
      ((λ (y, e, t). absurd (let z : ◌≡◌ {A = ℕ} 0 1 = cc in omega arith)), (λ t. absurd (false≢true t)))
  used_iff unready = ((λ (y, e, t). absurd (let z : ◌≡◌ {A = ℕ} 0 1 = cc in omega arith)), (λ t. absurd (false≢true t)))

  pub frozen_opt : (o : Option (Map Node)) →
      FrozenGraphOpt vars o ↔ (o ≡ cond (is_some (frozen_of (cache_vars s.cache))) (some frozen_shown) none)
  frozen_opt o =
      split (is_some (frozen_of (cache_vars s.cache)))
      (λ t. let (g, k) = wf_frozen_iff.1 ((used_iff (cache_vars s.cache)).1 t) in
      let same = same_frozen g k in
      rw t (
        (λ h. rw same at (h.given g k)),
        (λ i. record { given = λ y j. i ∙ ap some (sym (same_frozen y j)); not_given = λ none_is. absurd (none_is g k) }),
      ))
      (λ t. rw t (
        (λ h. h.not_given (λ y j. clash ((used_iff (cache_vars s.cache)).0 (wf_frozen_iff.0 (y, j))) t)),
        (λ i. record { given = λ y j. clash ((used_iff (cache_vars s.cache)).0 (wf_frozen_iff.0 (y, j))) t; not_given = λ none_is. i }),
      ))
