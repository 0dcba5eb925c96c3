-- The steps that change the cached nodes and the working picture keep the invariant: 7 PageInNodeResp, 11 Evict, 5 Unalloc, 15 Dirty, 16 Alloc. Assumes nothing.
use Prim.Native.Nat.{ℕ}
use mathlib.Core.Logic.{⊎_elim}
use mathlib.Core.Option.{Option, none, some}
use mathlib.Core.Path.{◌∙◌, ◌≡◌, ap, sym}
use Rattle.blockcache.proofs.InvGraph.{alloc_fixed, dirty_fixed, unalloc_fixed}
use Rattle.blockcache.proofs.InvLaws.{set_ephemeral}
use Rattle.base.proofs.Maps.{del_in, del_other, del_some, in_del, in_put, none_del, not_both, put_in, put_other, put_same, put_some}
use Rattle.base.proofs.Maps.{some_of}
use Rattle.base.proofs.Tests.{never}
use Rattle.base.specs.Maps.{Map, del, is_some, put}
use Rattle.blockcache.specs.Upstream.{Alloc, Dirty, Evict, In, PageInNodeResp, Ready, SameSuccs, Unalloc, ready}
use Rattle.blockcache.specs.UpstreamInv.{Inv}
use Rattle.blockdisk.proofs.Moves.{next_vars}
use Rattle.blockdisk.specs.Upstream.{AckReadNode, Imap, Variables as DVariables, resp_read_node}
use Rattle.sectortype.specs.Abstract.{IndirectionTable}
use Rattle.sectortype.specs.declared.Node.{Node}
use Rattle.sectortype.specs.declared.Succs.{Succs}
use Rattle.blocksystem.proofs.Invariant.{FrozenOk, PictureMaps, Whole}
use Rattle.blocksystem.proofs.Laws.{answered_awaited, answered_queued, same_del, same_put}

-- the same pictures but for the working one
abbrev pub working_maps : PictureMaps → Map Node → PictureMaps
working_maps t w =
    record { place = t.place; picture = t.picture; second = t.second; second_picture = t.second_picture; working = w; frozen = t.frozen }

-- the frozen table needs no cached node of the reference: it needs one only of a reference that it doesn't locate
abbrev pub Unneeded : IndirectionTable → ℕ → Type 0
Unneeded f ref = (k : ℕ) → In k f.graph → f.locs k ≡ none → k ≡ ref → ⊥

-- FZ: the frozen table has the reference with its location, or not at all
pub unneeded_located : (f : IndirectionTable) (ref : ℕ) → (In ref f.graph → In ref f.locs) → Unneeded f ref
unneeded_located f ref h k g e q = not_both f.locs ref (h (rw q at g)) (rw q at e)

module _ {nodes : Imap Node} {f : IndirectionTable} {cache pic : Map Node} (o : FrozenOk nodes f cache pic) (ref : ℕ) where
  pub unneeded_uncached : cache ref ≡ none → Unneeded f ref
  unneeded_uncached h k g e q = let c = o.cached k g e in never (sym (rw (← q) at h) ∙ c.1)

  -- what is cached of another reference is as it was
  pub frozen_cache : {cache' : Map Node} → Unneeded f ref → ((k : ℕ) → (k ≡ ref → ⊥) → cache' k ≡ cache k) → FrozenOk nodes f cache' pic
  frozen_cache unneeded same =
      record { pictured = o.pictured; cached = λ k g e. let c = o.cached k g e in (c.0, same k (unneeded k g e) ∙ c.1, c.2) }

-- A NODE PAGED IN

pub keep_page_in : (d : ℕ) (x y : Ready) (v v' : DVariables) (t : PictureMaps) (id : ℕ) (n : Option Node) →
    Whole d (ready x) v t → Inv d (ready y) → PageInNodeResp x y id n → AckReadNode v v' id n →
    Whole d (ready y) (next_vars v (resp_read_node id n)) t
keep_page_in d x y v v' t id n w i u a =
    let p = w.phase in
    rw u.next
    (record {
      inv = rw u.next at i;
      first = w.first;
      second = w.second;
      apart = w.apart;
      phase = record {
        persistent = p.persistent;
        frozen_place = p.frozen_place;
        writes = p.writes;
        reads = record {
          awaited = answered_awaited v.req_read_nodes x.outstanding_block_reads id x.ephemeral_indirection_table.locs p.reads.awaited;
          queued = answered_queued v.req_read_nodes x.outstanding_block_reads id p.reads.queued;
          uncached = λ j r q.
              let e = del_some x.outstanding_block_reads id j q in
              let h = p.reads.uncached j r e.1 in
              (h.0, put_other x.cache u.ref u.block r (λ z. e.0 (w.inv.outstanding.reads_unique j id r e.1 (rw z u.there))) ∙ h.1);
        };
        working = record {
          pictured = p.working.pictured;
          cached = λ r m g q.
              ⊎_elim (λ (z : (r ≡ u.ref) × (u.block ≡ m)). rw z.0 (pictured ∙ ap some z.1)) (λ z. p.working.cached r m g z.1)
              (put_some x.cache u.ref u.block r q);
        };
        frozen = λ f q.
            let o = p.frozen f q in
            frozen_cache o u.ref (unneeded_uncached o u.ref u.not_cached) (λ k ne. put_other x.cache u.ref u.block k ne);
      };
    })
  where
    -- what is brought is what is stored at the ephemeral location, the picture's node
    pictured : t.working u.ref ≡ some u.block
    pictured =
        let l = some_of v.req_read_nodes id a.there in
        let e = a.brought l.0 l.1 (ap is_some u.brought) in
        let h = w.phase.reads.awaited id l.0 l.1 in
        let same : some u.ref ≡ some h.0 = sym u.there ∙ h.1 in
        let r : u.ref ≡ h.0 = cc in
        let s = w.phase.working.pictured.located h.0 l.0 h.2 in
        rw r (s.pictured ∙ sym s.stored ∙ sym e ∙ u.brought)

-- A NODE EVICTED

pub keep_evict : (d : ℕ) (x y : Ready) (v : DVariables) (t : PictureMaps) (ref : ℕ) →
    Whole d (ready x) v t → Inv d (ready y) → Evict x y ref → Whole d (ready y) v t
keep_evict d x y v t ref w i u =
    let p = w.phase in
    rw u.next
    (record {
      inv = rw u.next at i;
      first = w.first;
      second = w.second;
      apart = w.apart;
      phase = record {
        persistent = p.persistent;
        frozen_place = p.frozen_place;
        writes = p.writes;
        reads = record {
          awaited = p.reads.awaited;
          queued = p.reads.queued;
          uncached = λ j r q. let h = p.reads.uncached j r q in
              (h.0, none_del x.cache ref r h.1);
        };
        working = record { pictured = p.working.pictured; cached = λ r m g q. p.working.cached r m g (del_some x.cache ref r q).1 };
        frozen = λ f q. frozen_cache (p.frozen f q) ref (unneeded_located f ref (u.frozen_located f q))
            (λ k ne. del_other x.cache ref k ne);
      };
    })

-- THE WORKING PICTURE CHANGED

pub keep_unalloc : (d : ℕ) (x y : Ready) (v : DVariables) (t : PictureMaps) (ref : ℕ) →
    Whole d (ready x) v t → Inv d (ready y) → Unalloc x y ref → Whole d (ready y) v (working_maps t (del t.working ref))
keep_unalloc d x y v t ref w i u =
    let p = w.phase in
    let o = p.working.pictured in
    let is = unalloc_fixed x y ref u in
    rw is
    (record {
      inv = rw is at i;
      first = w.first;
      second = w.second;
      apart = w.apart;
      phase = record {
        persistent = p.persistent;
        frozen_place = p.frozen_place;
        writes = p.writes;
        reads = record {
          awaited = λ j k q.
              let h = p.reads.awaited j k q in
              (h.0, h.1, del_other x.ephemeral_indirection_table.locs ref h.0 (u.not_read j h.0 h.1) ∙ h.2);
          queued = p.reads.queued;
          uncached = λ j r q.
              let h = p.reads.uncached j r q in
              (in_del x.ephemeral_indirection_table.graph ref r (u.not_read j r q) h.0, none_del x.cache ref r h.1);
        };
        working = record {
          pictured = record {
            refs = same_del t.working x.ephemeral_indirection_table.graph o.refs ref;
            lists = λ r list n a b. o.lists r list n (del_some x.ephemeral_indirection_table.graph ref r a).1
                (del_some t.working ref r b).1;
            located = λ r l q.
                let e = del_some x.ephemeral_indirection_table.locs ref r q in
                let s = o.located r l e.1 in
                record { node = s.node; stored = s.stored; pictured = del_other t.working ref r e.0 ∙ s.pictured };
          };
          cached = λ r m g q.
              let e = del_in x.ephemeral_indirection_table.graph ref r g in
              del_other t.working ref r e.0 ∙ p.working.cached r m e.1 (del_some x.cache ref r q).1;
        };
        frozen = λ f q. frozen_cache (p.frozen f q) ref (unneeded_located f ref (u.frozen_located f q))
            (λ k ne. del_other x.cache ref k ne);
      };
    })

-- a reference's node set in the cache and the picture, its list in the graph; its location, if it had one, is dropped
module _ (d : ℕ) (x y : Ready) (v : DVariables) (t : PictureMaps) (ref : ℕ) (n : Node) (list : Succs) (w : Whole d (ready x) v t)
    (i : Inv d (ready y)) where
  abbrev table : IndirectionTable
  table = x.ephemeral_indirection_table

  keep_set : y ≡ set_ephemeral x (record { locs = del table.locs ref; graph = put table.graph ref list }) (put x.cache ref n) →
      SameSuccs list n →
      ((id k : ℕ) → x.outstanding_block_reads id ≡ some k → k ≡ ref → ⊥) →
      ((f : IndirectionTable) → x.frozen_indirection_table ≡ some f → Unneeded f ref) →
      Whole d (ready y) v (working_maps t (put t.working ref n))
  keep_set is succs unread unneeded =
      let p = w.phase in
      let o = p.working.pictured in
      rw is
      (record {
        inv = rw is at i;
        first = w.first;
        second = w.second;
        apart = w.apart;
        phase = record {
          persistent = p.persistent;
          frozen_place = p.frozen_place;
          writes = p.writes;
          reads = record {
            awaited = λ j k q. let h = p.reads.awaited j k q in (h.0, h.1, del_other table.locs ref h.0 (unread j h.0 h.1) ∙ h.2);
            queued = p.reads.queued;
            uncached = λ j r q.
                let h = p.reads.uncached j r q in
                (in_put table.graph ref list r h.0, put_other x.cache ref n r (unread j r q) ∙ h.1);
          };
          working = record {
            pictured = record {
              refs = same_put t.working table.graph o.refs ref n list;
              lists = λ r a m g q.
                  ⊎_elim
                  (λ (z : (r ≡ ref) × (list ≡ a)).
                  ⊎_elim (λ (y : (r ≡ ref) × (n ≡ m)). rw (← z.1, ← y.1) succs) (λ y. absurd (y.0 z.0)) (put_some t.working ref n r q))
                  (λ z. ⊎_elim (λ y. absurd (z.0 y.0)) (λ y. o.lists r a m z.1 y.1) (put_some t.working ref n r q))
                  (put_some table.graph ref list r g);
              located = λ r l q.
                  let e = del_some table.locs ref r q in
                  let s = o.located r l e.1 in
                  record { node = s.node; stored = s.stored; pictured = put_other t.working ref n r e.0 ∙ s.pictured };
            };
            cached = λ r m g q.
                ⊎_elim (λ (z : (r ≡ ref) × (n ≡ m)). rw z.0 (put_same t.working ref n ∙ ap some z.1))
                (λ z. put_other t.working ref n r z.0 ∙ p.working.cached r m (put_in table.graph ref list r z.0 g) z.1)
                (put_some x.cache ref n r q);
          };
          frozen = λ f q. frozen_cache (p.frozen f q) ref (unneeded f q) (λ k ne. put_other x.cache ref n k ne);
        };
      })

pub keep_dirty : (d : ℕ) (x y : Ready) (v : DVariables) (t : PictureMaps) (ref : ℕ) (n : Node) →
    Whole d (ready x) v t → Inv d (ready y) → Dirty x y ref n → Whole d (ready y) v (working_maps t (put t.working ref n))
keep_dirty d x y v t ref n w i u =
    keep_set d x y v t ref n u.list w i
    (dirty_fixed x y ref n u)
    u.succs
    (λ id k q z. not_both x.cache ref u.cached (rw z at (w.phase.reads.uncached id k q).1))
    (λ f q. unneeded_located f ref (u.frozen_located f q))

pub keep_alloc : (d : ℕ) (x y : Ready) (v : DVariables) (t : PictureMaps) (ref : ℕ) (n : Node) →
    Whole d (ready x) v t → Inv d (ready y) → Alloc x y ref n → Whole d (ready y) v (working_maps t (put t.working ref n))
keep_alloc d x y v t ref n w i u =
    keep_set d x y v t ref n u.list w i
    (alloc_fixed d x y ref n w.inv u)
    u.succs
    (λ id k q z. not_both x.ephemeral_indirection_table.graph ref (rw z at (w.phase.reads.uncached id k q).0) u.not_allocated)
    (λ f q. unneeded_uncached (w.phase.frozen f q) ref u.not_cached)
