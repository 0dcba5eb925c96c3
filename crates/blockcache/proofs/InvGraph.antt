-- Steps 5, 11, 15 and 16 keep upstream's Inv. Assumes nothing.
use Prim.Native.Nat.{ℕ}
use mathlib.Core.Logic.{inl, inr, ⊎_elim}
use mathlib.Core.Option.{none, some}
use mathlib.Core.Path.{◌∙◌, ◌≡◌, ap, sym}
use borrow.Author.Tests.{eqb-false, eqb-true}
use lib.Dec.{eqb}
use Rattle.base.proofs.Maps.{del_absent, del_in, del_other, del_some, in_del, in_put, in_put_same, put_in, put_none, put_some}
use Rattle.base.proofs.Tests.{clash, none_iff, split}
use Rattle.base.specs.Maps.{Map, del, is_some, put}
use Rattle.blockcache.proofs.InvLaws.{ready_ext, set_ephemeral, table_is}
use Rattle.blockcache.specs.Upstream.{Alloc, BlockPointsToValidReferences, Dirty, Evict, In, OutstandingWrite, Ready, SameSuccs, Unalloc}
use Rattle.blockcache.specs.Upstream.{WFIndirectionTable, set_cache}
use Rattle.blockcache.specs.UpstreamInv.{CacheConsistentWithSuccessors, EphemeralTableEntriesInCacheOrNotBeingWritten}
use Rattle.blockcache.specs.UpstreamInv.{IndirectionTableCacheConsistent, InvFrozen, InvReady}
use Rattle.disklayout.specs.declared.Location.{Location}
use Rattle.sectortype.specs.Abstract.{IndirectionTable}
use Rattle.sectortype.specs.Graph.{has_succ}
use Rattle.sectortype.specs.declared.Node.{Node}
use Rattle.sectortype.specs.declared.Succs.{Succs}

-- what a frozen table has in its graph stays in the cache or has a location
frozen_uncached : (d : ℕ) (t : IndirectionTable) (cache : Map Node) (writes : Map OutstandingWrite) (ref : ℕ) →
    (In ref t.graph → In ref t.locs) →
    InvFrozen d t cache writes → InvFrozen d t (del cache ref) writes
frozen_uncached d t cache writes ref located i =
    record {
      wf = i.wf;
      consistent = λ j g. split (eqb j ref)
          (λ y. let q : j ≡ ref = eqb-true j ref y in inr (rw q (located (rw q at g))))
          (λ y. ⊎_elim (λ x. inl (in_del cache ref j (eqb-false j ref y) x)) (λ x. inr x) (i.consistent j g));
      overlapping = i.overlapping;
      distinct = i.distinct;
    }

frozen_cached : (d : ℕ) (t : IndirectionTable) (cache : Map Node) (writes : Map OutstandingWrite) (ref : ℕ) (n : Node) →
    InvFrozen d t cache writes → InvFrozen d t (put cache ref n) writes
frozen_cached d t cache writes ref n i =
    record {
      wf = i.wf;
      consistent = λ j g. ⊎_elim (λ x. inl (in_put cache ref n j x)) (λ x. inr x) (i.consistent j g);
      overlapping = i.overlapping;
      distinct = i.distinct;
    }

-- UNALLOC

pub unalloc_fixed : (s s' : Ready) (ref : ℕ) → Unalloc s s' ref →
    s' ≡ set_ephemeral s (record { locs = del s.ephemeral_indirection_table.locs ref; graph = del s.ephemeral_indirection_table.graph ref }) (del s.cache ref)
unalloc_fixed s s' ref u =
    ready_ext u.persistent_indirection_table' u.frozen_indirection_table' (table_is u.locs' u.graph') u.persistent_indirection_table_loc'
    u.frozen_indirection_table_loc' u.outstanding_indirection_table_write' u.outstanding_block_writes' u.outstanding_block_reads' u.cache'

module _ (d : ℕ) (s s' : Ready) (ref : ℕ) (v : InvReady d s) (u : Unalloc s s' ref) where
  abbrev locs : Map Location
  locs = s.ephemeral_indirection_table.locs

  abbrev graph : Map Succs
  graph = s.ephemeral_indirection_table.graph

  abbrev nodes : Map Node
  nodes = s.cache

  without_wf : WFIndirectionTable d (record { locs = del locs ref; graph = del graph ref })
  without_wf =
      record {
        valid = λ j l e. v.ephemeral.wf.valid j l (del_some locs ref j e).1;
        keys = λ j i. let h = del_in locs ref j i in in_del graph ref j h.0 (v.ephemeral.wf.keys j h.1);
        root = in_del graph ref 0 (λ q. u.not_root (sym q)) v.ephemeral.wf.root;
        graph_closed = λ j list e k m.
            let h = (del_some graph ref j e).1 in
            in_del graph ref k (λ q. clash {b = has_succ list ref} (rw q at m) (u.no_predecessors j list h))
            (v.ephemeral.wf.graph_closed j list h k m);
      }

  pub unalloc_kept : InvReady d (set_ephemeral s (record { locs = del locs ref; graph = del graph ref }) (del nodes ref))
  unalloc_kept =
      record {
        persistent = v.persistent;
        ephemeral = record {
          wf = without_wf;
          consistent = λ j i. let h = del_in graph ref j i in
              ⊎_elim (λ x. inl (in_del nodes ref j h.0 x)) (λ x. inr (in_del locs ref j h.0 x)) (v.ephemeral.consistent j h.1);
          successors = λ j n list m e. v.ephemeral.successors j n list (del_some nodes ref j m).1 (del_some graph ref j e).1;
          not_written = λ j i a k w m l e. let h = del_in graph ref j i in
              v.ephemeral.not_written j h.1 (sym (del_other nodes ref j h.0) ∙ a) k w m l (del_some locs ref j e).1;
          overlapping = λ j l e. v.ephemeral.overlapping j l (del_some locs ref j e).1;
          distinct = λ i j l k e m. v.ephemeral.distinct i j l k (del_some locs ref i e).1 (del_some locs ref j m).1;
        };
        frozen = λ t e. frozen_uncached d t nodes s.outstanding_block_writes ref (u.frozen_located t e) (v.frozen t e);
        outstanding = v.outstanding;
        places = v.places;
      }

-- EVICT

module _ (d : ℕ) (s s' : Ready) (ref : ℕ) (v : InvReady d s) (u : Evict s s' ref) where
  abbrev table : IndirectionTable
  table = s.ephemeral_indirection_table

  abbrev writes : Map OutstandingWrite
  writes = s.outstanding_block_writes

  -- a write to the address of the reference evicted would be of its very location
  not_written_after : EphemeralTableEntriesInCacheOrNotBeingWritten table (del s.cache ref) writes
  not_written_after j i a k w m l e same addr =
      split (eqb j ref)
      (λ y. let q : j ≡ ref = eqb-true j ref y in
      let at : l ≡ w.loc = v.ephemeral.overlapping j l e k w m (sym addr) in
      let is : w ≡ record { ref = ref; loc = l } = let p = same ∙ q in let o = sym at in λ z. record { ref = p z; loc = o z } in
      u.not_written (rw q at i) l (rw q at e) k (m ∙ ap some is))
      (λ y. v.ephemeral.not_written j i (sym (del_other s.cache ref j (eqb-false j ref y)) ∙ a) k w m l e same addr)

  pub evict_kept : InvReady d (set_cache s (del s.cache ref))
  evict_kept =
      record {
        persistent = v.persistent;
        ephemeral = record {
          wf = v.ephemeral.wf;
          consistent = λ j i. split (eqb j ref)
              (λ y. let q : j ≡ ref = eqb-true j ref y in inr (rw q (u.located (rw q at i))))
              (λ y. ⊎_elim (λ x. inl (in_del s.cache ref j (eqb-false j ref y) x)) (λ x. inr x) (v.ephemeral.consistent j i));
          successors = λ j n list m e. v.ephemeral.successors j n list (del_some s.cache ref j m).1 e;
          not_written = not_written_after;
          overlapping = v.ephemeral.overlapping;
          distinct = v.ephemeral.distinct;
        };
        frozen = λ t e. frozen_uncached d t s.cache writes ref (u.frozen_located t e) (v.frozen t e);
        outstanding = v.outstanding;
        places = v.places;
      }

-- DIRTY AND ALLOC: the reference's list is in the graph, its node cached, and it has no location

module _ (d : ℕ) (s : Ready) (ref : ℕ) (list : Succs) (block : Node) (v : InvReady d s)
    (points : BlockPointsToValidReferences block s.ephemeral_indirection_table.graph) (succs : SameSuccs list block) where
  abbrev locs' : Map Location
  locs' = s.ephemeral_indirection_table.locs

  abbrev graph' : Map Succs
  graph' = s.ephemeral_indirection_table.graph

  abbrev nodes' : Map Node
  nodes' = s.cache

  abbrev after : Ready
  after = set_ephemeral s (record { locs = del locs' ref; graph = put graph' ref list }) (put nodes' ref block)

  set_wf : WFIndirectionTable d (record { locs = del locs' ref; graph = put graph' ref list })
  set_wf =
      record {
        valid = λ j l e. v.ephemeral.wf.valid j l (del_some locs' ref j e).1;
        keys = λ j i. in_put graph' ref list j (v.ephemeral.wf.keys j (del_in locs' ref j i).1);
        root = in_put graph' ref list 0 v.ephemeral.wf.root;
        graph_closed = λ j l e k m.
            in_put graph' ref list k
            (⊎_elim (λ x. points k (sym (succs k) ∙ ap (λ z. has_succ z k) x.1 ∙ m)) (λ x. v.ephemeral.wf.graph_closed j l x.1 k m)
            (put_some graph' ref list j e));
      }

  set_consistent : IndirectionTableCacheConsistent (record { locs = del locs' ref; graph = put graph' ref list }) (put nodes' ref block)
  set_consistent j i =
      split (eqb j ref)
      (λ y. let q : j ≡ ref = eqb-true j ref y in inl (rw q (in_put_same nodes' ref block)))
      (λ y. let ne = eqb-false j ref y in
      ⊎_elim (λ x. inl (in_put nodes' ref block j x)) (λ x. inr (in_del locs' ref j ne x))
      (v.ephemeral.consistent j (put_in graph' ref list j ne i)))

  set_successors : CacheConsistentWithSuccessors (put nodes' ref block) (put graph' ref list)
  set_successors j n l m e k =
      ⊎_elim
      (λ x. ⊎_elim (λ y. ap (λ z. has_succ z k) (sym y.1) ∙ succs k ∙ ap (λ (z : Node). has_succ z.succs k) x.1) (λ y. absurd (y.0 x.0))
      (put_some graph' ref list j e))
      (λ x. ⊎_elim (λ y. absurd (x.0 y.0)) (λ y. v.ephemeral.successors j n l x.1 y.1 k) (put_some graph' ref list j e))
      (put_some nodes' ref block j m)

  pub set_kept : InvReady d after
  set_kept =
      record {
        persistent = v.persistent;
        ephemeral = record {
          wf = set_wf;
          consistent = set_consistent;
          successors = set_successors;
          not_written = λ j i a k w m l e. let h = put_none nodes' ref block j a in
              v.ephemeral.not_written j (put_in graph' ref list j h.0 i) h.1 k w m l (del_some locs' ref j e).1;
          overlapping = λ j l e. v.ephemeral.overlapping j l (del_some locs' ref j e).1;
          distinct = λ i j l k e m. v.ephemeral.distinct i j l k (del_some locs' ref i e).1 (del_some locs' ref j m).1;
        };
        frozen = λ t e. frozen_cached d t nodes' s.outstanding_block_writes ref block (v.frozen t e);
        outstanding = v.outstanding;
        places = v.places;
      }

pub dirty_fixed : (s s' : Ready) (ref : ℕ) (block : Node) (u : Dirty s s' ref block) →
    s' ≡ set_ephemeral s (record { locs = del s.ephemeral_indirection_table.locs ref; graph = put s.ephemeral_indirection_table.graph ref u.list }) (put s.cache ref block)
dirty_fixed s s' ref block u =
    ready_ext u.persistent_indirection_table' u.frozen_indirection_table' (table_is u.locs' u.graph') u.persistent_indirection_table_loc'
    u.frozen_indirection_table_loc' u.outstanding_indirection_table_write' u.outstanding_block_writes' u.outstanding_block_reads' u.cache'

-- what isn't allocated has no location
pub alloc_fixed : (d : ℕ) (s s' : Ready) (ref : ℕ) (block : Node) → InvReady d s → (u : Alloc s s' ref block) →
    s' ≡ set_ephemeral s (record { locs = del s.ephemeral_indirection_table.locs ref; graph = put s.ephemeral_indirection_table.graph ref u.list }) (put s.cache ref block)
alloc_fixed d s s' ref block v u =
    let locs = s.ephemeral_indirection_table.locs in
    let absent : locs ref ≡ none = (none_iff (locs ref)).0
    (split (is_some (locs ref)) (λ t. clash {b = is_some (s.ephemeral_indirection_table.graph ref)} (v.ephemeral.wf.keys ref t)
    (ap is_some u.not_allocated)) (λ t. t)) in
    ready_ext u.persistent_indirection_table' u.frozen_indirection_table'
    (table_is (u.locs' ∙ sym (del_absent locs ref absent)) u.graph') u.persistent_indirection_table_loc'
    u.frozen_indirection_table_loc' u.outstanding_indirection_table_write' u.outstanding_block_writes' u.outstanding_block_reads' u.cache'
