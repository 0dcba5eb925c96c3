-- Steps 1 to 4 keep upstream's Inv. Assumes nothing.
use Prim.Native.Nat.{ℕ}
use mathlib.Core.Logic.{⊎_elim}
use mathlib.Core.Option.{Option, map, map-eq-some_iff, none, some}
use mathlib.Core.Path.{◌∙◌, ◌≡◌, ap, refl, subst, sym}
use Rattle.base.proofs.Maps.{del_some, put_some}
use Rattle.base.proofs.Tests.{bool_ext, never}
use Rattle.base.specs.Maps.{Map, del, is_some, put}
use Rattle.blockcache.proofs.InvLaws.{assign_complete, assign_consistent, assign_distinct, assign_overlapping, assign_some, assign_wf}
use Rattle.blockcache.proofs.InvLaws.{overlapping_put, ready_ext}
use Rattle.blockcache.specs.Upstream.{OutstandingWrite, Ready, WriteBackIndirectionTableReq, WriteBackNodeReq, assign_ref_to_location}
use Rattle.blockcache.specs.Upstream.{set_locs, set_table_write, set_writes}
use Rattle.blockcache.specs.UpstreamInv.{AllOutstandingBlockWritesDontOverlap, EphemeralTableEntriesInCacheOrNotBeingWritten, InvFrozen}
use Rattle.blockcache.specs.UpstreamInv.{InvReady}
use Rattle.disklayout.specs.declared.Location.{Location}
use Rattle.sectortype.specs.Abstract.{IndirectionTable}
use Rattle.sectortype.specs.declared.Node.{Node}

-- WriteBackNodeReq

-- the frozen table, if there is one, is given the location too
frozen_after : (o p : Option IndirectionTable) (f : IndirectionTable → IndirectionTable) →
    ((t : IndirectionTable) → o ≡ some t → p ≡ some (f t)) → (o ≡ none → p ≡ none) → p ≡ map f o
frozen_after none p f h k = k refl
frozen_after (some t) p f h k = h t refl

abbrev pub after_write : Ready → ℕ → ℕ → Location → Ready
after_write s ref id loc =
    record {
      persistent_indirection_table = s.persistent_indirection_table;
      frozen_indirection_table = map (λ t. assign_ref_to_location t ref loc) s.frozen_indirection_table;
      ephemeral_indirection_table = assign_ref_to_location s.ephemeral_indirection_table ref loc;
      persistent_indirection_table_loc = s.persistent_indirection_table_loc;
      frozen_indirection_table_loc = s.frozen_indirection_table_loc;
      outstanding_indirection_table_write = s.outstanding_indirection_table_write;
      outstanding_block_writes = put s.outstanding_block_writes id (record { ref = ref; loc = loc });
      outstanding_block_reads = s.outstanding_block_reads;
      cache = s.cache;
    }

pub write_fixed : (d : ℕ) (s s' : Ready) (id : ℕ) (loc : Location) (n : Node) (ref : ℕ) → WriteBackNodeReq d s s' id loc n ref →
    s' ≡ after_write s ref id loc
write_fixed d s s' id loc n ref u =
    ready_ext u.persistent_indirection_table'
    (frozen_after s.frozen_indirection_table s'.frozen_indirection_table
    (λ t. assign_ref_to_location t ref loc) u.frozen_some u.frozen_none)
    u.ephemeral_indirection_table' u.persistent_indirection_table_loc' u.frozen_indirection_table_loc' u.outstanding_indirection_table_write'
    u.outstanding_block_writes' u.outstanding_block_reads' u.cache'

module _ (d : ℕ) (s s' : Ready) (id : ℕ) (loc : Location) (n : Node) (ref : ℕ) (v : InvReady d s)
    (u : WriteBackNodeReq d s s' id loc n ref) where
  abbrev new : OutstandingWrite
  new = record { ref = ref; loc = loc }

  abbrev writes : Map OutstandingWrite
  writes = s.outstanding_block_writes

  abbrev table : IndirectionTable
  table = s.ephemeral_indirection_table

  -- a reference that isn't cached is another one: it has the location that it had, and the new write is not of it
  not_written_after : EphemeralTableEntriesInCacheOrNotBeingWritten (assign_ref_to_location table ref loc) s.cache (put writes id new)
  unfolding assign_ref_to_location
  not_written_after j i absent k w m l e same a =
      let other : (j ≡ ref → ⊥) = λ q. never (sym absent ∙ ap s.cache q ∙ u.cached) in
      ⊎_elim
      (λ x. other (sym same ∙ ap (λ (z : OutstandingWrite). z.ref) (sym x.1)))
      (λ x. ⊎_elim (λ y. v.ephemeral.not_written j i absent k w x.1 l y same a) (λ y. other y.0) (assign_some table ref loc j l e))
      (put_some writes id new k m)

  writes_apart_after : AllOutstandingBlockWritesDontOverlap (put writes id new)
  writes_apart_after i j w x m k a =
      ⊎_elim
      (λ p. ⊎_elim (λ q. p.0 ∙ sym q.0)
      (λ q. absurd (u.free.writes j x q.1 (sym a ∙ ap (λ (z : OutstandingWrite). z.loc.addr) (sym p.1)))) (put_some writes id new j k))
      (λ p. ⊎_elim (λ q. absurd (u.free.writes i w p.1 (a ∙ ap (λ (z : OutstandingWrite). z.loc.addr) (sym q.1))))
      (λ q. v.outstanding.writes_apart i j w x p.1 q.1 a) (put_some writes id new j k))
      (put_some writes id new i m)

  frozen_kept : (t : IndirectionTable) → s.frozen_indirection_table ≡ some t →
      InvFrozen d (assign_ref_to_location t ref loc) s.cache (put writes id new)
  frozen_kept t e =
      let i = v.frozen t e in
      record {
        wf = assign_wf t ref loc d u.valid i.wf;
        consistent = assign_consistent t ref loc s.cache i.consistent;
        overlapping = assign_overlapping t ref loc writes id (u.free.frozen t e) u.free.writes i.overlapping;
        distinct = assign_distinct t ref loc (u.free.frozen t e) i.distinct;
      }

  pub write_kept : InvReady d (after_write s ref id loc)
  unfolding assign_ref_to_location
  write_kept =
      record {
        persistent = record {
          wf = v.persistent.wf;
          overlapping = overlapping_put s.persistent_indirection_table writes id new u.free.persistent v.persistent.overlapping;
          distinct = v.persistent.distinct;
        };
        ephemeral = record {
          wf = assign_wf table ref loc d u.valid v.ephemeral.wf;
          consistent = assign_consistent table ref loc s.cache v.ephemeral.consistent;
          successors = v.ephemeral.successors;
          not_written = not_written_after;
          overlapping = assign_overlapping table ref loc writes id u.free.ephemeral u.free.writes v.ephemeral.overlapping;
          distinct = assign_distinct table ref loc u.free.ephemeral v.ephemeral.distinct;
        };
        frozen = λ t e. let x = (map-eq-some_iff (λ t. assign_ref_to_location t ref loc) s.frozen_indirection_table).0 e in
            subst (λ z. InvFrozen d z s.cache (put writes id new)) x.2 (frozen_kept x.0 x.1);
        outstanding = record {
          reads_unique = v.outstanding.reads_unique;
          writes_valid = λ i w m. ⊎_elim (λ x. rw (ap (λ (z : OutstandingWrite). z.loc) x.1) at u.valid)
              (λ x. v.outstanding.writes_valid i w x.1) (put_some writes id new i m);
          writes_apart = writes_apart_after;
        };
        places = record {
          persistent_valid = v.places.persistent_valid;
          frozen_loc = λ l e. let i = v.places.frozen_loc l e in
              record {
                table = assign_ref_to_location i.table ref loc;
                is = ap (map (λ t. assign_ref_to_location t ref loc)) i.is;
                wf = assign_complete i.table ref loc d u.valid i.wf;
                valid = i.valid;
                apart = i.apart;
              };
          table_write = v.places.table_write;
        };
      }

-- WriteBackNodeResp: there are fewer writes

frozen_fewer : (d : ℕ) (t : IndirectionTable) (cache : Map Node) (writes : Map OutstandingWrite) (id : ℕ) → InvFrozen d t cache writes →
    InvFrozen d t cache (del writes id)
frozen_fewer d t cache writes id i =
    record {
      wf = i.wf;
      consistent = i.consistent;
      overlapping = λ r l e j w m. i.overlapping r l e j w (del_some writes id j m).1;
      distinct = i.distinct;
    }

pub written_kept : (d : ℕ) (s : Ready) (id : ℕ) → InvReady d s → InvReady d (set_writes s (del s.outstanding_block_writes id))
written_kept d s id v =
    let old : (j : ℕ) (w : OutstandingWrite) → del s.outstanding_block_writes id j ≡ some w →
    s.outstanding_block_writes j ≡ some w = λ j w m. (del_some s.outstanding_block_writes id j m).1 in
    record {
      persistent = record {
        wf = v.persistent.wf;
        overlapping = λ r l e j w m. v.persistent.overlapping r l e j w (old j w m);
        distinct = v.persistent.distinct;
      };
      ephemeral = record {
        wf = v.ephemeral.wf;
        consistent = v.ephemeral.consistent;
        successors = v.ephemeral.successors;
        not_written = λ r i a j w m. v.ephemeral.not_written r i a j w (old j w m);
        overlapping = λ r l e j w m. v.ephemeral.overlapping r l e j w (old j w m);
        distinct = v.ephemeral.distinct;
      };
      frozen = λ t e. frozen_fewer d t s.cache s.outstanding_block_writes id (v.frozen t e);
      outstanding = record {
        reads_unique = v.outstanding.reads_unique;
        writes_valid = λ j w m. v.outstanding.writes_valid j w (old j w m);
        writes_apart = λ i j w x m k. v.outstanding.writes_apart i j w x (old i w m) (old j x k);
      };
      places = v.places;
    }

-- WriteBackIndirectionTableReq: the frozen table has all its locations

pub table_write_kept : (d : ℕ) (s s' : Ready) (id : ℕ) (loc : Location) (t : IndirectionTable) → InvReady d s →
    WriteBackIndirectionTableReq d s s' id loc t →
    InvReady d (set_locs (set_table_write s (some id)) s.persistent_indirection_table_loc (some loc))
table_write_kept d s s' id loc t v u =
    let w = (v.frozen t u.frozen).wf in
    record {
      persistent = v.persistent;
      ephemeral = v.ephemeral;
      frozen = v.frozen;
      outstanding = v.outstanding;
      places = record {
        persistent_valid = v.places.persistent_valid;
        frozen_loc = λ l e. let q : loc ≡ l = cc in
            record {
              table = t;
              is = u.frozen;
              wf = record {
                valid = w.valid;
                keys = λ r. bool_ext (is_some (t.graph r)) (is_some (t.locs r)) (u.complete r) (w.keys r);
                root = w.root;
                graph_closed = w.graph_closed;
              };
              valid = rw q at u.valid;
              apart = rw q at u.apart;
            };
        table_write = λ i e. refl;
      };
    }

-- WriteBackIndirectionTableResp

pub table_written_kept : (d : ℕ) (s : Ready) → InvReady d s → InvReady d (set_table_write s none)
table_written_kept d s v =
    record {
      persistent = v.persistent;
      ephemeral = v.ephemeral;
      frozen = v.frozen;
      outstanding = v.outstanding;
      places = record {
        persistent_valid = v.places.persistent_valid;
        frozen_loc = v.places.frozen_loc;
        table_write = λ i e. never e;
      };
    }
