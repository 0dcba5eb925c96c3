-- The steps that touch queues and phase alone keep the invariant: 14, 2, 6, 8, 10, 19 and the crash. Each is shown over the abstract states. Assumes nothing.
use Prim.Native.Nat.{ℕ}
use mathlib.Core.Logic.{◌⊎◌, inl, inr, ⊎_elim}
use mathlib.Core.Option.{Option, none, some}
use mathlib.Core.Path.{◌∙◌, ◌≡◌, ap, refl, sym}
use Rattle.base.proofs.Maps.{del_other, del_some, in_del, in_put_same, put_other, put_same, put_some}
use Rattle.base.proofs.Tests.{never}
use Rattle.base.specs.Maps.{Map, del}
use Rattle.blockcache.specs.LetGo.{AwaitsRead, LetNodeGo, LetTableGo}
use Rattle.blockcache.specs.Upstream.{IdleOp, In, PageInIndirectionTableReq, PageInNodeReq, Ready, ReceiveLoc, Variables, WriteBackNodeResp}
use Rattle.blockcache.specs.Upstream.{loading_indirection_table, ready, unready}
use Rattle.blockcache.specs.UpstreamInv.{Inv}
use Rattle.blockdisk.proofs.Moves.{next_vars}
use Rattle.blockdisk.specs.Upstream.{Dop, Variables as DVariables, no_disk_op, req_read_indirection_table, req_read_node}
use Rattle.blockdisk.specs.Upstream.{req_write_indirection_table, req_write_node, resp_read_indirection_table, resp_read_node}
use Rattle.blockdisk.specs.Upstream.{resp_write_indirection_table, resp_write_node, set_write_nodes}
use Rattle.disklayout.specs.declared.Location.{Location}
use Rattle.sectortype.specs.Abstract.{IndirectionTable}
use Rattle.sectortype.specs.declared.Node.{Node}
use Rattle.blocksystem.proofs.Invariant.{InPhase, KeptOn, NoneAt, PictureMaps, UnreadyOk, Whole}
use Rattle.blocksystem.proofs.Laws.{Fewer, answered_awaited, answered_queued, fewer_del, in_put_both, kept_crash, kept_fewer, none_fewer}

-- REQUESTS ANSWERED, WHICH THE CACHE DID NOT AWAIT

-- an awaited read that was queued is still so, with these queues of reads
abbrev pub StillQueued : DVariables → Map Location → Map Location → Variables → Type 0
StillQueued v tr nr (ready x) = (j : ℕ) → In j x.outstanding_block_reads → In j v.req_read_nodes → In j nr
StillQueued v tr nr (loading_indirection_table at read) = (j : ℕ) → read ≡ some j → In j v.req_read_indirection_tables → In j tr
StillQueued v tr nr unready = Unit {0}

-- the same records, other queues
abbrev pub with_queues : DVariables → Map Location → Map Location → Map Location → Map Location → DVariables
with_queues v tr nr tw nw =
    record {
      req_read_indirection_tables = tr;
      req_read_nodes = nr;
      req_write_indirection_tables = tw;
      req_write_nodes = nw;
      indirection_tables = v.indirection_tables;
      nodes = v.nodes;
    }

module _ (d : ℕ) (v : DVariables) (t : PictureMaps) (tr nr tw nw : Map Location)
    (a : Fewer tr v.req_read_indirection_tables) (b : Fewer nr v.req_read_nodes) (c : Fewer tw v.req_write_indirection_tables)
    (e : Fewer nw v.req_write_nodes) where
  kept_less : {l : Location} {pic : Map Node} → KeptOn d v l pic → KeptOn d (with_queues v tr nr tw nw) l pic
  kept_less k = kept_fewer k c e

  phase_less : (s : Variables) → StillQueued v tr nr s → InPhase s v t → InPhase s (with_queues v tr nr tw nw) t
  phase_less (ready x) still p =
      record {
        persistent = let o = p.persistent in
            record { place_is = o.place_is; stored = o.stored; no_reads = none_fewer tr v.req_read_indirection_tables a o.no_reads };
        frozen_place = let o = p.frozen_place in
            record { place_is = o.place_is; stored = o.stored; writes = λ id k q. o.writes id k (c id k q) };
        writes = let o = p.writes in
            record { awaited = λ id k q. o.awaited id k (e id k q); persistent_apart = o.persistent_apart; frozen_apart = o.frozen_apart };
        reads = record {
          awaited = λ id k q. p.reads.awaited id k (b id k q);
          queued = λ id q. still id q
              (p.reads.queued id q);
          uncached = p.reads.uncached;
        };
        working = p.working;
        frozen = p.frozen;
      }
  phase_less (loading_indirection_table at read) still p =
      record {
        place = p.place;
        no_second = p.no_second;
        working = p.working;
        table_reads = λ id k q. p.table_reads id k (a id k q);
        queued = λ id q. still id q (p.queued id q);
        no_node_reads = none_fewer nr v.req_read_nodes b p.no_node_reads;
        no_table_writes = none_fewer tw v.req_write_indirection_tables c p.no_table_writes;
        no_node_writes = none_fewer nw v.req_write_nodes e p.no_node_writes;
      }
  phase_less unready still p =
      record {
        no_table_reads = none_fewer tr v.req_read_indirection_tables a p.no_table_reads;
        no_node_reads = none_fewer nr v.req_read_nodes b p.no_node_reads;
        no_table_writes = none_fewer tw v.req_write_indirection_tables c p.no_table_writes;
        no_node_writes = none_fewer nw v.req_write_nodes e p.no_node_writes;
      }

  pub whole_less : (s : Variables) → StillQueued v tr nr s → Whole d s v t → Whole d s (with_queues v tr nr tw nw) t
  whole_less s still w =
      record {
        inv = w.inv;
        first = kept_less w.first;
        second = λ l q. kept_less (w.second l q);
        apart = w.apart;
        phase = phase_less s still w.phase;
      }

-- THE ANSWER OF A READ THAT IS NOT AWAITED leaves the awaited ones queued

module _ (v : DVariables) (id : ℕ) where
  abbrev tr : Map Location
  tr = v.req_read_indirection_tables

  abbrev nr : Map Location
  nr = v.req_read_nodes

  still_node : (n : Option Node) (s : Variables) → (AwaitsRead s (resp_read_node id n) → ⊥) → StillQueued v tr (del nr id) s
  still_node n (ready x) free = λ j i q. in_del nr id j (λ e. free (inl (id, n, refl, (x, refl, rw e at i)))) q
  still_node n (loading_indirection_table at read) free = λ j e q. q
  still_node n unready free = tt

  still_table : (t : Option IndirectionTable) (s : Variables) → (AwaitsRead s (resp_read_indirection_table id t) → ⊥) →
      StillQueued v (del tr id) nr s
  still_table t (ready x) free = λ j i q. q
  still_table t (loading_indirection_table at read) free =
      λ j e q. in_del tr id j (λ z. free (inr (id, t, refl, (at, read, refl, rw z at e)))) q
  still_table t unready free = tt

  still_all : (s : Variables) → StillQueued v tr nr s
  still_all (ready x) = λ j i q. q
  still_all (loading_indirection_table at read) = λ j e q. q
  still_all unready = tt

-- NoOp, with no disk operation or an answer; of a read, one that is not awaited
pub keep_idle : (d : ℕ) (s : Variables) (v : DVariables) (t : PictureMaps) → Whole d s v t → (dop : Dop) → IdleOp s dop →
    (AwaitsRead s dop → ⊥) → Whole d s (next_vars v dop) t
keep_idle d s v t w (req_read_indirection_table id l) i free = absurd i
keep_idle d s v t w (req_read_node id l) i free = absurd i
keep_idle d s v t w (req_write_indirection_table id l x) i free = absurd i
keep_idle d s v t w (req_write_node id l n) i free = absurd i
keep_idle d s v t w (resp_read_indirection_table id x) i free =
    whole_less d v t (del v.req_read_indirection_tables id) v.req_read_nodes v.req_write_indirection_tables v.req_write_nodes
    (fewer_del v.req_read_indirection_tables id) (λ j k q. q) (λ j k q. q) (λ j k q. q) s (still_table v id x s free) w
keep_idle d s v t w (resp_read_node id n) i free =
    whole_less d v t v.req_read_indirection_tables (del v.req_read_nodes id) v.req_write_indirection_tables v.req_write_nodes
    (λ j k q. q) (fewer_del v.req_read_nodes id) (λ j k q. q) (λ j k q. q) s (still_node v id n s free) w
keep_idle d s v t w (resp_write_indirection_table id) i free =
    whole_less d v t v.req_read_indirection_tables v.req_read_nodes (del v.req_write_indirection_tables id) v.req_write_nodes
    (λ j k q. q) (λ j k q. q) (fewer_del v.req_write_indirection_tables id) (λ j k q. q) s (still_all v id s) w
keep_idle d s v t w (resp_write_node id) i free =
    whole_less d v t v.req_read_indirection_tables v.req_read_nodes v.req_write_indirection_tables (del v.req_write_nodes id)
    (λ j k q. q) (λ j k q. q) (λ j k q. q) (fewer_del v.req_write_nodes id) s (still_all v id s) w
keep_idle d s v t w no_disk_op i free = w

-- A CRASH

pub record Survives (v v' : DVariables) : Type 0 where
  pub idle : UnreadyOk v'
  pub tables : (k : Location) (t : IndirectionTable) → v.indirection_tables k ≡ some t → NoneAt v.req_write_indirection_tables k.addr →
      v'.indirection_tables k ≡ some t
  pub nodes : (k : Location) (n : Node) → v.nodes k ≡ some n → NoneAt v.req_write_nodes k.addr → v'.nodes k ≡ some n

pub keep_crash : (d : ℕ) (s : Variables) (v v' : DVariables) (t : PictureMaps) → Whole d s v t → Survives v v' → Whole d unready v' t
keep_crash d s v v' t w c =
    record {
      inv = tt;
      first = still w.first;
      second = λ l q. still (w.second l q);
      apart = w.apart;
      phase = c.idle;
    }
  where
    still : {l : Location} {pic : Map Node} → KeptOn d v l pic → KeptOn d v' l pic
    still k = kept_crash k c.idle.no_table_writes c.idle.no_node_writes c.tables c.nodes

-- BEFORE READY

-- the names after a start at the place
pub record Started (t t' : PictureMaps) (l : Location) : Type 0 where
  pub place : t'.place ≡ l
  pub no_second : t'.second ≡ none
  pub working : t'.working ≡ t'.picture
  -- the picture of a place then named
  pub named : ((t.place ≡ l) × (t'.picture ≡ t.picture)) ⊎ ((t.second ≡ some l) × (t'.picture ≡ t.second_picture))

pub keep_receive : (d : ℕ) (s' : Variables) (v : DVariables) (t t' : PictureMaps) (l : Location) →
    Whole d unready v t → Inv d s' → ReceiveLoc d unready s' l → Started t t' l → Whole d s' v t'
keep_receive d s' v t t' l w i u n =
    rw u.next
    (record {
      inv = rw u.next at i;
      first = ⊎_elim (λ x. rw (n.place, x.1) (rw x.0 at w.first)) (λ x. rw (n.place, x.1) (w.second l x.0)) n.named;
      second = λ k q. never (sym n.no_second ∙ q);
      apart = λ k q. never (sym n.no_second ∙ q);
      phase = record {
        place = n.place;
        no_second = n.no_second;
        working = n.working;
        table_reads = λ id k q. absurd (w.phase.no_table_reads id k q);
        queued = λ id q. never q;
        no_node_reads = w.phase.no_node_reads;
        no_table_writes = w.phase.no_table_writes;
        no_node_writes = w.phase.no_node_writes;
      };
    })

pub keep_table_read : (d : ℕ) (at : Location) (read : Option ℕ) (s' : Variables) (v : DVariables) (t : PictureMaps) (id : ℕ)
    (loc : Location) →
    Whole d (loading_indirection_table at read) v t → Inv d s' → PageInIndirectionTableReq at read s' id loc →
    Whole d s' (next_vars v (req_read_indirection_table id loc)) t
keep_table_read d at read s' v t id loc w i u =
    rw u.next
    (record {
      inv = rw u.next at i;
      first = w.first;
      second = w.second;
      apart = w.apart;
      phase = record {
        place = w.phase.place;
        no_second = w.phase.no_second;
        working = w.phase.working;
        table_reads = λ j k q.
            ⊎_elim (λ (x : (j ≡ id) × (loc ≡ k)). (ap some (sym x.0), sym x.1 ∙ u.place))
            (λ x. never (sym u.no_read ∙ (w.phase.table_reads j k x.1).0)) (put_some v.req_read_indirection_tables id loc j q);
        queued = λ j q. let e : j ≡ id = cc in rw e (in_put_same v.req_read_indirection_tables id loc);
        no_node_reads = w.phase.no_node_reads;
        no_table_writes = w.phase.no_table_writes;
        no_node_writes = w.phase.no_node_writes;
      };
    })

-- A NODE WRITE ANSWERED

pub keep_write_resp : (d : ℕ) (x y : Ready) (v : DVariables) (t : PictureMaps) (id : ℕ) →
    Whole d (ready x) v t → Inv d (ready y) → WriteBackNodeResp x y id → Whole d (ready y) (next_vars v (resp_write_node id)) t
keep_write_resp d x y v t id w i u =
    let p = w.phase in
    rw u.next
    (record {
      inv = rw u.next at i;
      first = less w.first;
      second = λ l q. less (w.second l q);
      apart = w.apart;
      phase = record {
        persistent = p.persistent;
        frozen_place = p.frozen_place;
        writes = record {
          awaited = λ j k q.
              let e = del_some v.req_write_nodes id j q in
              let h = p.writes.awaited j k e.1 in
              (h.0, del_other x.outstanding_block_writes id j e.0 ∙ h.1, h.2);
          persistent_apart = λ j z q. p.writes.persistent_apart j z (del_some x.outstanding_block_writes id j q).1;
          frozen_apart = λ l f a b j z q. p.writes.frozen_apart l f a b j z (del_some x.outstanding_block_writes id j q).1;
        };
        reads = p.reads;
        working = p.working;
        frozen = p.frozen;
      };
    })
  where
    less : {l : Location} {pic : Map Node} → KeptOn d v l pic → KeptOn d (set_write_nodes v (del v.req_write_nodes id)) l pic
    less k = kept_fewer k (λ j k q. q) (fewer_del v.req_write_nodes id)

-- A NODE READ ASKED FOR

pub keep_read_req : (d : ℕ) (x y : Ready) (v : DVariables) (t : PictureMaps) (id ref : ℕ) (loc : Location) →
    Whole d (ready x) v t → Inv d (ready y) → PageInNodeReq x y id loc ref → Whole d (ready y) (next_vars v (req_read_node id loc)) t
keep_read_req d x y v t id ref loc w i u =
    let p = w.phase in
    rw u.next
    (record {
      inv = rw u.next at i;
      first = w.first;
      second = w.second;
      apart = w.apart;
      phase = record {
        persistent = p.persistent;
        frozen_place = p.frozen_place;
        writes = p.writes;
        reads = record {
          awaited = λ j k q.
              ⊎_elim
              (λ (z : (j ≡ id) × (loc ≡ k)). (ref, rw z.0 (put_same x.outstanding_block_reads id ref), u.located ∙ ap some z.1))
              (λ z. let h = p.reads.awaited j k z.1 in (h.0, put_other x.outstanding_block_reads id ref j z.0 ∙ h.1, h.2))
              (put_some v.req_read_nodes id loc j q);
          queued = λ j q. in_put_both x.outstanding_block_reads v.req_read_nodes id ref loc j (p.reads.queued j) q;
          uncached = λ j r q.
              ⊎_elim (λ (z : (j ≡ id) × (ref ≡ r)). rw (← z.1) (u.allocated, u.not_cached)) (λ z. p.reads.uncached j r z.1)
              (put_some x.outstanding_block_reads id ref j q);
        };
        working = p.working;
        frozen = p.frozen;
      };
    })

-- A READ LET GO

-- a node's: neither awaited nor queued any longer
pub keep_let_node_go : (d : ℕ) (x y : Ready) (v : DVariables) (t : PictureMaps) (id : ℕ) (n : Option Node) →
    Whole d (ready x) v t → Inv d (ready y) → LetNodeGo x y id → Whole d (ready y) (next_vars v (resp_read_node id n)) t
keep_let_node_go d x y v t id n w i u =
    let p = w.phase in
    rw u.next
    (record {
      inv = rw u.next at i;
      first = w.first;
      second = w.second;
      apart = w.apart;
      phase = record {
        persistent = p.persistent;
        frozen_place = p.frozen_place;
        writes = p.writes;
        reads = record {
          awaited = answered_awaited v.req_read_nodes x.outstanding_block_reads id x.ephemeral_indirection_table.locs p.reads.awaited;
          queued = answered_queued v.req_read_nodes x.outstanding_block_reads id p.reads.queued;
          uncached = λ j r q. p.reads.uncached j r (del_some x.outstanding_block_reads id j q).1;
        };
        working = p.working;
        frozen = p.frozen;
      };
    })

-- a table's
pub keep_let_table_go : (d : ℕ) (at : Location) (read : Option ℕ) (s' : Variables) (v : DVariables) (t : PictureMaps) (id : ℕ)
    (x : Option IndirectionTable) →
    Whole d (loading_indirection_table at read) v t → Inv d s' → LetTableGo at read s' id →
    Whole d s' (next_vars v (resp_read_indirection_table id x)) t
keep_let_table_go d at read s' v t id x w i u =
    rw u.next
    (record {
      inv = rw u.next at i;
      first = w.first;
      second = w.second;
      apart = w.apart;
      phase = record {
        place = w.phase.place;
        no_second = w.phase.no_second;
        working = w.phase.working;
        table_reads = λ j k q.
            let e = del_some v.req_read_indirection_tables id j q in
            let h : some j ≡ some id = sym (w.phase.table_reads j k e.1).0 ∙ u.awaited in
            let z : j ≡ id = cc in
            absurd (e.0 z);
        queued = λ j q. never q;
        no_node_reads = w.phase.no_node_reads;
        no_table_writes = w.phase.no_table_writes;
        no_node_writes = w.phase.no_node_writes;
      };
    })
