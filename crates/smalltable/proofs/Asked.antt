-- After an accepted step 8, which asks for the table of a place, the cache awaits the read, and the disk has it queued. So a small table
-- that is stored is loaded when it is asked for. Assumes nothing.
use Prim.Native.Nat.{ℕ}
use mathlib.Core.Option.{some}
use mathlib.Core.Path.{◌∙◌, ◌≡◌, ap, refl, sym}
use Rattle.base.proofs.Maps.{put_same}
use Rattle.base.proofs.Refusals.{accepted_iff as zero_iff}
use Rattle.base.proofs.Tests.{and_both, and_iff, eqb_iff, not_iff, or_iff}
use Rattle.base.specs.Refusals.{answer}
use Rattle.blockcache.proofs.Kept.{cache_form_kept}
use Rattle.blockcache.proofs.Numbers.{rows_ascending}
use Rattle.blockcache.specs.Step.{cache_rows}
use Rattle.blockcache.specs.Steps.{step_of, steps}
use Rattle.blockcache.specs.declared.CacheState.{CacheState}
use Rattle.blockcache.specs.declared.Call.{Call}
use Rattle.blockcache.specs.declared.VersionOp.TheVariants.{StatesInternalOp}
use Rattle.blockdisk.proofs.Accepting.{disk_accepted_iff, request_iff}
use Rattle.blockdisk.proofs.Forms.{table_queue_form_lem}
use Rattle.blockdisk.proofs.Kept.{disk_form_kept}
use Rattle.blockdisk.proofs.Outstanding.{places_insert}
use Rattle.blockdisk.specs.Form.{table_allowed}
use Rattle.blockdisk.specs.Ops.{disk_rows, next_disk}
use Rattle.blockdisk.specs.Upstream.{places, tables_stored}
use Rattle.blockdisk.specs.declared.DiskOp.TheVariants.{ReqReadIndirectionTableOp}
use Rattle.blockdisk.specs.declared.DiskState.{DiskState}
use Rattle.blockdisk.specs.declared.Records.{Records}
use Rattle.blocksystem.proofs.Accepting.{disk_answer, disk_next, joined_cache, joined_disk, joined_zero}
use Rattle.blocksystem.specs.Joined.{disk_call, joined, joined_answer, settings_of}
use Rattle.disklayout.specs.declared.Location.{Location}
use Rattle.sectortype.specs.declared.Node.{Node}
use Rattle.sectortype.specs.declared.Table.{Table}
use Rattle.smalltable.proofs.Joined.{joined_iff}
use Rattle.smalltable.proofs.Loading.{is_loading}
use Rattle.smalltable.specs.Loading.{Awaits, StoredUnder, brings}
use Rattle.smalltable.specs.SmallTable.{SmallTable}

-- step 8's call: the table of place l is asked for under id i; the reference, the node and the table beside it may be any
abbrev asks : ℕ → Location → ℕ → Node → Table → Call
asks i l r n x = record { reference = r; vop = StatesInternalOp; dop = ReqReadIndirectionTableOp i l; node = n; table = x }

module _ (d : ℕ) (c : CacheState) (s : DiskState) (i : ℕ) (l : Location) (r : ℕ) (n : Node) (x : Table) (o : Records)
    (e : joined_answer d 8 (asks i l r n x) o c s ≡ 0) where
  abbrev q : Call
  q = asks i l r n x

  abbrev cache : CacheState
  cache = (joined d 8 q o c s).cache

  abbrev disk : DiskState
  disk = (joined d 8 q o c s).disk

  accepted : answer (cache_rows (settings_of d s) c 8 q) ≡ 0
  accepted = ((joined_zero d 8 q o c s).0 e).0

  queueing : answer (disk_rows d s (disk_call 8 q)) ≡ 0
  queueing = sym (disk_answer d 8 q o s refl) ∙ ((joined_zero d 8 q o c s).0 e).1

  disk_is : disk ≡ next_disk d s (ReqReadIndirectionTableOp i l) n x
  disk_is = joined_disk d 8 q o c s e ∙ disk_next d 8 q o s refl queueing

  pub asked_awaits : Awaits (settings_of d disk) cache i r n
  unfolding step_of steps
  asked_awaits =
      let z = (zero_iff (cache_rows (settings_of d s) c 8 q) (rows_ascending (settings_of d s) c 8 q)).0 accepted in
      let k = simp (not_iff, and_iff, or_iff, eqb_iff) at z in
      let f = k.0.0 in
      rw (disk_is, joined_cache d 8 q o c s e)
      (record {
        settings = and_both f.0.0.0 f.0.0.1;
        cache = cache_form_kept (settings_of d s) c 8 q accepted;
        loading = is_loading c.phase k.1.1.1.0;
        waiting = refl;
        id = refl;
        reference = f.1.0.0;
        node = f.1.0.1;
      })

  pub asked_stored : (t : Table) → tables_stored d s.records l ≡ some t → StoredUnder d disk i t
  asked_stored t h =
      let k = (disk_accepted_iff d s (disk_call 8 q)).0 queueing in
      let a = (request_iff s.queues.tablereads i (table_allowed d l)).0 k.rows in
      let f = table_queue_form_lem d s.queues.tablereads k.disk.tablereads in
      let m = places_insert s.queues.tablereads i f l a.room a.fresh in
      rw disk_is
      (record {
        form = disk_form_kept d s (disk_call 8 q) queueing;
        place = l;
        queued = ap (λ p. p i) m ∙ put_same (places s.queues.tablereads) i l;
        stored = h;
      })

  -- so the next step 9 that brings the small table which is stored there is accepted
  pub asked_loads : (t : Table) → SmallTable d t → tables_stored d s.records l ≡ some t → (p : Records) →
      joined_answer d 9 (brings i r n t) p cache disk ≡ 0
  asked_loads t m h p = (joined_iff d cache disk i r n p t m).1 (asked_awaits, asked_stored t h)
