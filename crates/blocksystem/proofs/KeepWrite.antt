-- WriteBackNodeReq keeps the invariant: it writes to an address that no table and no outstanding write has. Assumes nothing.
use Prim.Native.Nat.{ℕ}
use mathlib.Core.Logic.{⊎_elim}
use mathlib.Core.Option.{Option, map, map-eq-some_iff, none, some}
use mathlib.Core.Path.{◌∙◌, ◌≡◌, ap, sym}
use Rattle.blockcache.proofs.InvLaws.{assign_full, assign_graph, assign_kept, assign_none, assign_some}
use Rattle.blockcache.proofs.InvWrites.{after_write, write_fixed}
use Rattle.base.proofs.Maps.{in_of, put_other, put_same, put_some}
use Rattle.base.proofs.Tests.{never}
use Rattle.base.specs.Maps.{Map, put}
use Rattle.blockcache.specs.Upstream.{In, NoAddr, OutstandingWrite, Ready, WriteBackNodeReq, assign_ref_to_location, ready}
use Rattle.blockcache.specs.UpstreamInv.{Inv}
use Rattle.blockdisk.proofs.Moves.{next_vars}
use Rattle.blockdisk.proofs.Reading.{replacing, replacing_same}
use Rattle.blockdisk.specs.Upstream.{Variables as DVariables, req_write_node}
use Rattle.disklayout.specs.declared.Location.{Location}
use Rattle.sectortype.specs.Abstract.{IndirectionTable}
use Rattle.sectortype.specs.declared.Node.{Node}
use Rattle.blocksystem.specs.Upstream.{unless_writing}
use Rattle.blocksystem.proofs.Invariant.{PictureMaps, Pictured, ReadyOk, Whole, WritesApart}
use Rattle.blocksystem.proofs.Laws.{kept_node_write, stored_elsewhere}

abbrev assign_frozen : Option IndirectionTable → ℕ → Location → Option IndirectionTable
assign_frozen f ref loc = map (λ t. assign_ref_to_location t ref loc) f

module _ (d : ℕ) (x y : Ready) (v : DVariables) (t : PictureMaps) (id ref : ℕ) (loc : Location) (n : Node) (w : Whole d (ready x) v t)
    (u : WriteBackNodeReq d x y id loc n ref) where
  abbrev p : ReadyOk x v t
  p = w.phase

  -- the write that the cache now awaits
  abbrev new : OutstandingWrite
  new = record { ref = ref; loc = loc }

  is : y ≡ after_write x ref id loc
  is = write_fixed d x y id loc n ref u

  -- a frozen table after the step is the one before it, with the location where it lacked one
  was : (f : IndirectionTable) → assign_frozen x.frozen_indirection_table ref loc ≡ some f →
      (g : IndirectionTable) × (x.frozen_indirection_table ≡ some g) × (assign_ref_to_location g ref loc ≡ f)
  was f q = (map-eq-some_iff (λ t. assign_ref_to_location t ref loc) x.frozen_indirection_table).0 q

  -- a frozen table whose place is set has all its locations
  unmoved : (l : Location) (f : IndirectionTable) → x.frozen_indirection_table_loc ≡ some l →
      assign_frozen x.frozen_indirection_table ref loc ≡ some f → x.frozen_indirection_table ≡ some f
  unmoved l f a q =
      let g = was f q in
      let c = w.inv.places.frozen_loc l a in
      let same : some c.table ≡ some g.0 = sym c.is ∙ g.1 in
      let e : c.table ≡ g.0 = cc in
      let full = assign_full g.0 ref loc (rw e at c.wf.keys) in
      g.1 ∙ ap some (sym full ∙ g.2)

  -- a table that may get the new location, and its picture
  assign_pictured : (pic : Map Node) (f : IndirectionTable) → NoAddr f.locs loc.addr →
      (In ref f.graph → f.locs ref ≡ none → pic ref ≡ some n) → Pictured v.nodes f pic →
      Pictured (replacing v.nodes loc n) (assign_ref_to_location f ref loc) pic
  assign_pictured pic f free here old =
      record {
        refs = rw (assign_graph f ref loc) old.refs;
        lists = rw (assign_graph f ref loc) old.lists;
        located = λ j k q.
            ⊎_elim
            (λ z. stored_elsewhere loc n (old.located j k z) (free j k z))
            (λ (z : (j ≡ ref) × (loc ≡ k) × In ref f.graph × (f.locs ref ≡ none)).
            rw (← z.1, z.0) (record { node = n; stored = replacing_same v.nodes loc n; pictured = here z.2 z.3 }))
            (assign_some f ref loc j k q);
      }

  -- the named places: the persistent table and the frozen one
  first_table : w.first.table ≡ x.persistent_indirection_table
  first_table =
      let e : some w.first.table ≡ some x.persistent_indirection_table = sym w.first.stored ∙ rw p.persistent.place_is p.persistent.stored in cc

  set_place : (a : Option ℕ) (b : Option Location) (l : Location) → unless_writing a b ≡ some l → b ≡ some l
  set_place none b l e = e
  set_place (some j) b l e = never e

  second_free : (l : Location) (q : t.second ≡ some l) → NoAddr (w.second l q).table.locs loc.addr
  second_free l q =
      let a = set_place x.outstanding_indirection_table_write x.frozen_indirection_table_loc l (sym p.frozen_place.place_is ∙ q) in
      let c = w.inv.places.frozen_loc l a in
      let e : some (w.second l q).table ≡ some c.table = sym (w.second l q).stored ∙ p.frozen_place.stored l c.table a c.is in
      let same : (w.second l q).table ≡ c.table = cc in
      rw same (u.free.frozen c.table c.is)

  new_apart : (locs : Map Location) → NoAddr locs loc.addr → WritesApart x.outstanding_block_writes locs →
      WritesApart (put x.outstanding_block_writes id new) locs
  new_apart locs free old j z q =
      ⊎_elim (λ h. let e : loc ≡ z.loc = ap (λ (o : OutstandingWrite). o.loc) h.1 in rw (← e) free) (λ h. old j z h.1)
      (put_some x.outstanding_block_writes id new j q)

  pub keep_write_req : Inv d (ready y) → Whole d (ready y) (next_vars v (req_write_node id loc n)) t
  keep_write_req i =
      rw is
      (record {
        inv = rw is at i;
        first = kept_node_write w.first id loc n (rw first_table u.free.persistent);
        second = λ l q. kept_node_write (w.second l q) id loc n (second_free l q);
        apart = w.apart;
        phase = record {
          persistent = p.persistent;
          frozen_place = record {
            place_is = p.frozen_place.place_is;
            stored = λ l f a q. p.frozen_place.stored l f a
                (unmoved l f a q);
            writes = p.frozen_place.writes;
          };
          writes = record {
            awaited = λ j k q.
                ⊎_elim
                (λ (z : (j ≡ id) × (loc ≡ k)). (new, rw z.0 (put_same x.outstanding_block_writes id new), z.1))
                (λ z. let h = p.writes.awaited j k z.1 in (h.0, put_other x.outstanding_block_writes id new j z.0 ∙ h.1, h.2))
                (put_some v.req_write_nodes id loc j q);
            persistent_apart = new_apart x.persistent_indirection_table.locs u.free.persistent p.writes.persistent_apart;
            frozen_apart = λ l f a q. let e = unmoved l f a q in new_apart f.locs (u.free.frozen f e) (p.writes.frozen_apart l f a e);
          };
          reads = record {
            awaited = λ j k q.
                let h = p.reads.awaited j k q in
                let e = x.ephemeral_indirection_table in
                (h.0, h.1, assign_kept e ref loc h.0 (in_of e.locs h.0 h.2) ∙ h.2);
            queued = p.reads.queued;
            uncached = rw (assign_graph x.ephemeral_indirection_table ref loc) p.reads.uncached;
          };
          working = record {
            pictured = assign_pictured t.working x.ephemeral_indirection_table u.free.ephemeral
                (λ g e. p.working.cached ref n g u.cached) p.working.pictured;
            cached = rw (assign_graph x.ephemeral_indirection_table ref loc) p.working.cached;
          };
          frozen = λ f q.
              let g = was f q in
              let o = p.frozen g.0 g.1 in
              rw (← g.2)
              (record {
                pictured = assign_pictured t.frozen g.0 (u.free.frozen g.0 g.1) (λ a e. let c = o.cached ref a e in
                    c.2 ∙ sym c.1 ∙ u.cached) o.pictured;
                cached = λ k a e. o.cached k (rw (assign_graph g.0 ref loc) at a) (assign_none g.0 ref loc k e);
              });
        };
      })
