-- The steps that change tables and their places keep the invariant: 12 Freeze, 13 CleanUp, 3 and 4 the frozen table's write and its answer, 9 the table's page-in. Assumes nothing.
use Prim.Native.Nat.{ℕ}
use mathlib.Core.Bool.{false≢true}
use mathlib.Core.Logic.{⊎_elim}
use mathlib.Core.Option.{Option, none, some}
use mathlib.Core.Path.{◌∙◌, ◌≡◌, ap, refl, sym}
use Rattle.blockcache.proofs.InvReads.{loaded, loaded_fixed}
use Rattle.base.proofs.Maps.{del_some, not_both, put_some, some_of}
use Rattle.base.proofs.Tests.{clash, never}
use Rattle.base.specs.Maps.{Map, del, is_some}
use Rattle.blockcache.specs.Upstream.{CleanUp, Freeze, PageInIndirectionTableResp, Ready, WriteBackIndirectionTableReq}
use Rattle.blockcache.specs.Upstream.{WriteBackIndirectionTableResp, loading_indirection_table, ready}
use Rattle.blockcache.specs.UpstreamInv.{Inv}
use Rattle.blockdisk.proofs.Moves.{next_vars}
use Rattle.blockdisk.proofs.Reading.{replacing_other, replacing_same}
use Rattle.blockdisk.specs.Upstream.{AckReadIndirectionTable, Imap, Variables as DVariables, req_write_indirection_table}
use Rattle.blockdisk.specs.Upstream.{resp_read_indirection_table, resp_write_indirection_table}
use Rattle.disklayout.proofs.Places.{table_overlap_iff}
use Rattle.disklayout.specs.Device.{device_of}
use Rattle.disklayout.specs.declared.Location.{Location}
use Rattle.sectortype.specs.Abstract.{IndirectionTable}
use Rattle.sectortype.specs.declared.Node.{Node}
use Rattle.blocksystem.proofs.Invariant.{FrozenOk, FrozenPlaceOk, Kept, NoneQueued, PictureMaps, ReadyOk, TableWritesAwaited, Whole}
use Rattle.blocksystem.proofs.Laws.{fewer_del, frozen_none, kept_fewer, kept_keys, kept_table_write, same_none}

-- NO FROZEN PLACE

-- while none is set and no write of it is outstanding, none is named
no_place : {tables : Imap IndirectionTable} {queue : Map Location} {awaited : Option ℕ} {f : Option IndirectionTable}
    (loc : Option Location) →
    awaited ≡ none → TableWritesAwaited queue awaited loc → FrozenPlaceOk tables queue none awaited none f
no_place {awaited =
    awaited} loc e h = record {
      place_is = sym (frozen_none awaited);
      stored = λ l g q. never q;
      writes = λ j k q. never
          (sym e ∙ (h j k q).0);
    }

-- FREEZE

abbrev pub froze_maps : PictureMaps → Map Node → PictureMaps
froze_maps t p = record { place = t.place; picture = t.picture; second = none; second_picture = p; working = t.working; frozen = t.working }

-- the ephemeral table with the working picture meets what is asked of a frozen one
frozen_of_ephemeral : (d : ℕ) (x : Ready) (v : DVariables) (t : PictureMaps) → Whole d (ready x) v t →
    FrozenOk v.nodes x.ephemeral_indirection_table x.cache t.working
frozen_of_ephemeral d x v t w =
    let p = w.phase.working in
    record {
      pictured = p.pictured;
      cached = λ ref g e.
          ⊎_elim (λ c. let n = some_of x.cache ref c in (n.0, n.1, p.cached ref n.0 g n.1))
          (λ l. not_both x.ephemeral_indirection_table.locs ref l e) (w.inv.ephemeral.consistent ref g);
    }

pub keep_freeze : (d : ℕ) (x y : Ready) (v : DVariables) (t : PictureMaps) (blank : Map Node) →
    Whole d (ready x) v t → Inv d (ready y) → Freeze x y → Whole d (ready y) v (froze_maps t blank)
keep_freeze d x y v t blank w i u =
    let p = w.phase in
    rw u.next
    (record {
      inv = rw u.next at i;
      first = w.first;
      second = λ l q. never q;
      apart = λ l q. never q;
      phase = record {
        persistent = p.persistent;
        frozen_place = no_place x.frozen_indirection_table_loc u.no_table_write p.frozen_place.writes;
        writes = record { awaited = p.writes.awaited; persistent_apart = p.writes.persistent_apart; frozen_apart = λ l f q. never q };
        reads = p.reads;
        working = p.working;
        frozen = λ f q. let e : x.ephemeral_indirection_table ≡ f = cc in rw (← e) (frozen_of_ephemeral d x v t w);
      };
    })

-- CLEANUP

abbrev pub cleaned_maps : PictureMaps → Location → Map Node → PictureMaps
cleaned_maps t l p =
    record { place = l; picture = t.second_picture; second = none; second_picture = p; working = t.working; frozen = t.frozen }

-- with no write of it outstanding, a frozen place that is set is named
pub frozen_named_lem : (d : ℕ) (x : Ready) (v : DVariables) (t : PictureMaps) (l : Location) → Whole d (ready x) v t →
    x.outstanding_indirection_table_write ≡ none → x.frozen_indirection_table_loc ≡ some l → t.second ≡ some l
frozen_named_lem d x v t l w a b = w.phase.frozen_place.place_is ∙ rw (a, b)

pub keep_clean_up : (d : ℕ) (x y : Ready) (v : DVariables) (t : PictureMaps) (blank : Map Node) →
    Whole d (ready x) v t → Inv d (ready y) → (u : CleanUp x y) → Whole d (ready y) v (cleaned_maps t u.loc blank)
keep_clean_up d x y v t blank w i u =
    let p = w.phase in
    rw u.next
    (record {
      inv = rw u.next at i;
      first = w.second u.loc (frozen_named_lem d x v t u.loc w u.no_table_write u.frozen_loc);
      second = λ l q. never q;
      apart = λ l q. never q;
      phase = record {
        persistent = record { place_is = refl; stored = p.frozen_place.stored u.loc u.table u.frozen_loc u.frozen; no_reads = p.persistent.no_reads };
        frozen_place = no_place x.frozen_indirection_table_loc u.no_table_write p.frozen_place.writes;
        writes = record {
          awaited = p.writes.awaited;
          persistent_apart = p.writes.frozen_apart u.loc u.table u.frozen_loc u.frozen;
          frozen_apart = λ l f q. never q;
        };
        reads = p.reads;
        working = p.working;
        frozen = λ f q. never q;
      };
    })

-- THE FROZEN TABLE WRITTEN

pub keep_table_write : (d : ℕ) (x y : Ready) (v : DVariables) (t : PictureMaps) (id : ℕ) (loc : Location) (f : IndirectionTable) →
    Whole d (ready x) v t → Inv d (ready y) → WriteBackIndirectionTableReq d x y id loc f →
    (loc.addr ≡ x.persistent_indirection_table_loc.addr → ⊥) →
    Whole d (ready y) (next_vars v (req_write_indirection_table id loc f)) t
keep_table_write d x y v t id loc f w i u apart =
    let p = w.phase in
    let none_second : t.second ≡ none = p.frozen_place.place_is ∙ rw u.no_loc (frozen_none x.outstanding_indirection_table_write) in
    rw u.next
    (record {
      inv = rw u.next at i;
      first = kept_table_write w.first id loc f (λ e. apart (e ∙ ap (λ l. l.addr) p.persistent.place_is));
      second = λ l q. never (sym none_second ∙ q);
      apart = λ l q. never (sym none_second ∙ q);
      phase = record {
        persistent = record {
          place_is = p.persistent.place_is;
          stored = replacing_other v.indirection_tables loc f x.persistent_indirection_table_loc (λ e. apart (sym e)) ∙ p.persistent.stored;
          no_reads = p.persistent.no_reads;
        };
        frozen_place = record {
          place_is = none_second;
          stored = λ l g a b.
              let e : loc ≡ l = cc in
              let h : some f ≡ some g = sym u.frozen ∙ b in
              rw (← e) (replacing_same v.indirection_tables loc f ∙ h);
          writes = λ j k q.
              ⊎_elim (λ (z : (j ≡ id) × (loc ≡ k)). (ap some (sym z.0), ap some z.1))
              (λ z. never (sym u.no_loc ∙ (p.frozen_place.writes j k z.1).1))
              (put_some v.req_write_indirection_tables id loc j q);
        };
        writes = record {
          awaited = p.writes.awaited;
          persistent_apart = p.writes.persistent_apart;
          frozen_apart = λ l g a b j z q. never (ap (λ m. m j) (sym u.no_writes) ∙ q);
        };
        reads = p.reads;
        working = p.working;
        frozen = p.frozen;
      };
    })

abbrev pub named_maps : PictureMaps → Location → PictureMaps
named_maps t l =
    record { place = t.place; picture = t.picture; second = some l; second_picture = t.frozen; working = t.working; frozen = t.frozen }

pub keep_table_resp : (d : ℕ) (x y : Ready) (v : DVariables) (t : PictureMaps) (id : ℕ) (loc : Location) →
    Whole d (ready x) v t → Inv d (ready y) → WriteBackIndirectionTableResp x y id loc →
    Whole d (ready y) (next_vars v (resp_write_indirection_table id)) (named_maps t loc)
keep_table_resp d x y v t id loc w i u =
    rw u.next
    (record {
      inv = rw u.next at i;
      first = kept_fewer w.first (fewer_del v.req_write_indirection_tables id) (λ j k q. q);
      second = λ l q. let e : loc ≡ l = cc in rw (← e) kept;
      apart = λ l q e.
          let h : loc ≡ l = cc in
          let f = w.inv.places.frozen_loc loc (sym u.frozen_loc) in
          let k : loc.addr ≡ x.persistent_indirection_table_loc.addr = ap (λ m. m.addr) h ∙ e ∙ ap (λ m. m.addr) p.persistent.place_is in
          clash ((table_overlap_iff (device_of d) loc x.persistent_indirection_table_loc f.valid w.inv.places.persistent_valid).1 k) f.apart;
      phase = record {
        persistent = p.persistent;
        frozen_place = record { place_is = u.frozen_loc; stored = p.frozen_place.stored; writes = λ j k q. absurd (no_more j k q) };
        writes = p.writes;
        reads = p.reads;
        working = p.working;
        frozen = p.frozen;
      };
    })
  where
    p : ReadyOk x v t
    p = w.phase

    -- the write answered was the only one
    no_more : NoneQueued (del v.req_write_indirection_tables id)
    no_more j k q =
        let e = del_some v.req_write_indirection_tables id j q in
        let h : some j ≡ some id = sym (p.frozen_place.writes j k e.1).0 ∙ u.awaited in
        e.0 (cc)

    kept : Kept d v.indirection_tables v.nodes (del v.req_write_indirection_tables id) v.req_write_nodes loc t.frozen
    kept =
        let f = w.inv.places.frozen_loc loc (sym u.frozen_loc) in
        let o = (p.frozen f.table f.is).pictured in
        record {
          table = f.table;
          stored = p.frozen_place.stored loc f.table (sym u.frozen_loc) f.is;
          complete = f.wf;
          distinct = (w.inv.frozen f.table f.is).distinct;
          located = o.located;
          lists = o.lists;
          no_more = λ ref e. same_none t.frozen f.table.locs (λ k. o.refs k ∙ f.wf.keys k) ref e;
          none_at_place = λ j k q a. no_more j k q;
          none_at_nodes = λ ref k e j q b a.
              let h = p.writes.awaited j q b in
              p.writes.frozen_apart loc f.table (sym u.frozen_loc) f.is j h.0 h.1 ref k e (sym a ∙ ap (λ l. l.addr) (sym h.2));
        }

-- THE TABLE PAGED IN

pub keep_table_page_in : (d : ℕ) (at : Location) (read : Option ℕ) (y : Ready) (v v' : DVariables) (t : PictureMaps) (id : ℕ)
    (brought : Option IndirectionTable) →
    Whole d (loading_indirection_table at read) v t → Inv d (ready y) → PageInIndirectionTableResp d at read y id brought →
    AckReadIndirectionTable v v' id brought →
    Whole d (ready y) (next_vars v (resp_read_indirection_table id brought)) t
keep_table_page_in d at read y v v' t id brought w i u a =
    let p = w.phase in
    let k = w.first in
    rw is
    (record {
      inv = rw is at i;
      first = k;
      second = w.second;
      apart = w.apart;
      phase = record {
        persistent = record {
          place_is = p.place;
          stored = stored;
          no_reads = λ j k q.
              let e = del_some v.req_read_indirection_tables id j q in
              let h : some j ≡ some id = sym (p.table_reads j k e.1).0 ∙ u.awaited in
              e.0 (cc);
        };
        frozen_place = record { place_is = p.no_second; stored = λ l f q. never q; writes = λ j k q. absurd (p.no_table_writes j k q) };
        writes = record {
          awaited = λ j k q. absurd
              (p.no_node_writes j k q);
          persistent_apart = λ j z q. never q;
          frozen_apart = λ l f q. never q;
        };
        reads = record {
          awaited = λ j k q. absurd (p.no_node_reads j k q);
          queued = λ j q. absurd
              (false≢true q);
          uncached = λ j r q. never q;
        };
        working = record {
          pictured = rw p.working
              (record {
                refs = λ ref. kept_keys k ref ∙ ap (λ (z : IndirectionTable). is_some (z.locs ref)) same ∙ sym (u.wf.keys ref);
                lists = rw same at k.lists;
                located = rw same at k.located;
              });
          cached = λ ref n g q. never q;
        };
        frozen = λ f q. never q;
      };
    })
  where
    is : y ≡ loaded u.t at
    is = loaded_fixed d at read y id brought u

    -- what is brought is what is stored at the place being loaded
    stored : v.indirection_tables at ≡ some u.t
    stored =
        let l = some_of v.req_read_indirection_tables id a.there in
        let e = a.brought l.0 l.1 (ap is_some u.table) in
        let h = (w.phase.table_reads id l.0 l.1).1 in
        rw (← h) (sym e ∙ u.table)

    same : w.first.table ≡ u.t
    same =
        let e : some w.first.table ≡ some u.t = sym w.first.stored ∙ rw w.phase.place stored in
        cc
