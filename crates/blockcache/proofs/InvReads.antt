-- Steps 6, 7, 9, 12, 13 and 19 keep upstream's Inv. Assumes nothing.
use Prim.Native.Nat.{ℕ}
use mathlib.Core.Bool.{true}
use mathlib.Core.Logic.{inl, inr, ⊎_elim}
use mathlib.Core.Option.{Option, none, some}
use mathlib.Core.Path.{◌∙◌, ◌≡◌, ap, subst, sym}
use Rattle.base.proofs.Maps.{del_some, in_put, put_none, put_some}
use Rattle.base.proofs.Tests.{never}
use Rattle.base.specs.Maps.{Map, del, empty, put}
use Rattle.blockcache.proofs.InvLaws.{ready_ext}
use Rattle.blockcache.specs.Form.{idle}
use Rattle.blockcache.specs.Upstream.{AllLocationsForDifferentRefsDontOverlap, CleanUp, OutstandingWrite, PageInIndirectionTableResp}
use Rattle.blockcache.specs.Upstream.{PageInNodeReq, PageInNodeResp, Ready, WFCompleteIndirectionTable, set_cache, set_locs, set_reads}
use Rattle.blockcache.specs.Upstream.{set_tables}
use Rattle.blockcache.specs.UpstreamInv.{CacheConsistentWithSuccessors, InvFrozen, InvOutstanding, InvReady, OutstandingReadRefsUnique}
use Rattle.disklayout.specs.Device.{device_of}
use Rattle.disklayout.specs.Layout.{valid_indirection_table_location}
use Rattle.disklayout.specs.declared.Location.{Location}
use Rattle.sectortype.specs.Abstract.{IndirectionTable}
use Rattle.sectortype.specs.Graph.{has_succ}
use Rattle.sectortype.specs.declared.Node.{Node}

-- PageInNodeReq

pub page_in_kept : (d : ℕ) (s s' : Ready) (id : ℕ) (loc : Location) (ref : ℕ) → InvReady d s → PageInNodeReq s s' id loc ref →
    InvReady d (set_reads s (put s.outstanding_block_reads id ref))
page_in_kept d s s' id loc ref v u =
    record {
      persistent = v.persistent;
      ephemeral = v.ephemeral;
      frozen = v.frozen;
      outstanding = record {
        reads_unique = unique;
        writes_valid = v.outstanding.writes_valid;
        writes_apart = v.outstanding.writes_apart;
      };
      places = v.places;
    }
  where
    unique : OutstandingReadRefsUnique (put s.outstanding_block_reads id ref)
    unique i j r e k =
        ⊎_elim
        (λ x. ⊎_elim (λ y. x.0 ∙ sym y.0) (λ y. absurd (u.not_read j (y.1 ∙ ap some (sym x.1))))
        (put_some s.outstanding_block_reads id ref j k))
        (λ x. ⊎_elim (λ y. absurd (u.not_read i (x.1 ∙ ap some (sym y.1)))) (λ y. v.outstanding.reads_unique i j r x.1 y.1)
        (put_some s.outstanding_block_reads id ref j k))
        (put_some s.outstanding_block_reads id ref i e)

-- a read less, answered or let go
read_less : (d : ℕ) (writes : Map OutstandingWrite) (reading : Map ℕ) (id : ℕ) → InvOutstanding d writes reading →
    InvOutstanding d writes (del reading id)
read_less d writes reading id o =
    record {
      reads_unique = λ i j r e k. o.reads_unique i j r (del_some reading id i e).1 (del_some reading id j k).1;
      writes_valid = o.writes_valid;
      writes_apart = o.writes_apart;
    }

-- PageInNodeResp

module _ (d : ℕ) (s s' : Ready) (id : ℕ) (node : Option Node) (v : InvReady d s) (u : PageInNodeResp s s' id node) where
  abbrev nodes : Map Node
  nodes = put s.cache u.ref u.block

  -- the node brought has the graph's successors
  successors_after : CacheConsistentWithSuccessors nodes s.ephemeral_indirection_table.graph
  successors_after j n l m e k =
      ⊎_elim
      (λ x. let a : some l ≡ some u.list = sym e ∙ ap s.ephemeral_indirection_table.graph x.0 ∙ u.allocated in
      let q : l ≡ u.list = cc in
      ap (λ z. has_succ z k) q ∙ u.succs k ∙ ap (λ (z : Node). has_succ z.succs k) x.1)
      (λ x. v.ephemeral.successors j n l x.1 e k)
      (put_some s.cache u.ref u.block j m)

  pub paged_in_kept : InvReady d (set_reads (set_cache s nodes) (del s.outstanding_block_reads id))
  paged_in_kept =
      record {
        persistent = v.persistent;
        ephemeral = record {
          wf = v.ephemeral.wf;
          consistent = λ j i. ⊎_elim (λ x. inl (in_put s.cache u.ref u.block j x)) (λ x. inr x) (v.ephemeral.consistent j i);
          successors = successors_after;
          not_written = λ j i a. v.ephemeral.not_written j i (put_none s.cache u.ref u.block j a).1;
          overlapping = v.ephemeral.overlapping;
          distinct = v.ephemeral.distinct;
        };
        frozen = λ t e. let i = v.frozen t e in
            record {
              wf = i.wf;
              consistent = λ j g. ⊎_elim (λ x. inl (in_put s.cache u.ref u.block j x)) (λ x. inr x) (i.consistent j g);
              overlapping = i.overlapping;
              distinct = i.distinct;
            };
        outstanding = read_less d s.outstanding_block_writes s.outstanding_block_reads id v.outstanding;
        places = v.places;
      }

-- LetGo

pub let_go_kept : (d : ℕ) (s : Ready) (id : ℕ) → InvReady d s → InvReady d (set_reads s (del s.outstanding_block_reads id))
let_go_kept d s id v =
    record {
      persistent = v.persistent;
      ephemeral = v.ephemeral;
      frozen = v.frozen;
      outstanding = read_less d s.outstanding_block_writes s.outstanding_block_reads id v.outstanding;
      places = v.places;
    }

-- PageInIndirectionTableResp: one table, nothing cached, nothing outstanding

abbrev pub loaded : IndirectionTable → Location → Ready
loaded t at =
    record {
      persistent_indirection_table = t;
      frozen_indirection_table = none;
      ephemeral_indirection_table = t;
      persistent_indirection_table_loc = at;
      frozen_indirection_table_loc = none;
      outstanding_indirection_table_write = none;
      outstanding_block_writes = empty;
      outstanding_block_reads = empty;
      cache = empty;
    }

pub loaded_fixed : (d : ℕ) (at : Location) (read : Option ℕ) (s' : Ready) (id : ℕ) (o : Option IndirectionTable)
    (u : PageInIndirectionTableResp d at read s' id o) → s' ≡ loaded u.t at
loaded_fixed d at read s' id o u =
    ready_ext u.persistent_indirection_table' u.frozen_indirection_table' u.ephemeral_indirection_table' u.persistent_indirection_table_loc'
    u.frozen_indirection_table_loc' u.outstanding_indirection_table_write' u.outstanding_block_writes' u.outstanding_block_reads' u.cache'

pub loaded_inv : (d : ℕ) (t : IndirectionTable) (at : Location) → WFCompleteIndirectionTable d t →
    AllLocationsForDifferentRefsDontOverlap t →
    valid_indirection_table_location (device_of d) at ≡ true → InvReady d (loaded t at)
loaded_inv d t at w h ok =
    record {
      persistent = record {
        wf = w;
        overlapping = λ r l e k x m. never m;
        distinct = h;
      };
      ephemeral = record {
        wf = record { valid = w.valid; keys = λ r i. w.keys r ∙ i; root = w.root; graph_closed = w.graph_closed };
        consistent = λ r i. inr (sym (w.keys r) ∙ i);
        successors = λ r n l m e. never m;
        not_written = λ r i a k x m. never m;
        overlapping = λ r l e k x m. never m;
        distinct = h;
      };
      frozen = λ x e. never e;
      outstanding = record {
        reads_unique = λ i j r e k. never e;
        writes_valid = λ i x m. never m;
        writes_apart = λ i j x y m k. never m;
      };
      places = record {
        persistent_valid = ok;
        frozen_loc = λ l e. never e;
        table_write = λ i e. never e;
      };
    }

-- Freeze: the frozen table is the ephemeral one

pub freeze_kept : (d : ℕ) (s : Ready) → InvReady d s → s.outstanding_indirection_table_write ≡ none →
    InvReady d (set_locs (set_tables s s.persistent_indirection_table
    (some s.ephemeral_indirection_table)) s.persistent_indirection_table_loc none)
freeze_kept d s v idle =
    record {
      persistent = v.persistent;
      ephemeral = v.ephemeral;
      frozen = λ t e. let q : s.ephemeral_indirection_table ≡ t = cc in
          subst (λ z. InvFrozen d z s.cache s.outstanding_block_writes) q
          (record { wf = v.ephemeral.wf; consistent = v.ephemeral.consistent; overlapping = v.ephemeral.overlapping; distinct = v.ephemeral.distinct });
      outstanding = v.outstanding;
      places = record {
        persistent_valid = v.places.persistent_valid;
        frozen_loc = λ l e. never e;
        table_write = λ i e. never (sym idle ∙ e);
      };
    }

-- CleanUp: the persistent table is the frozen one, which has all its locations

pub clean_up_kept : (d : ℕ) (s s' : Ready) → InvReady d s → (u : CleanUp s s') →
    InvReady d (set_locs (set_tables s u.table none) u.loc none)
clean_up_kept d s s' v u =
    let i = v.places.frozen_loc u.loc u.frozen_loc in
    let k = v.frozen u.table u.frozen in
    let one : some i.table ≡ some u.table = sym i.is ∙ u.frozen in
    let q : i.table ≡ u.table = cc in
    record {
      persistent = record {
        wf = subst (λ z. WFCompleteIndirectionTable d z) q i.wf;
        overlapping = k.overlapping;
        distinct = k.distinct;
      };
      ephemeral = v.ephemeral;
      frozen = λ t e. never e;
      outstanding = v.outstanding;
      places = record {
        persistent_valid = i.valid;
        frozen_loc = λ l e. never e;
        table_write = λ j e. never (sym u.no_table_write ∙ e);
      };
    }
