-- No wait is for ever: what holds, after any of demand 3's lists, of the reads that the cache awaits.
use Rattle.std.specs.Prelude.{ℕ, false, true, ◌≡◌}
use Rattle.blockcache.specs.Form.{call_form}
use Rattle.blockcache.specs.Rows.{awaits_read}
use Rattle.blockcache.specs.declared.Call.{Call}
use Rattle.blockcache.specs.declared.VersionOp.TheVariants.{StatesInternalOp}
use Rattle.blockdisk.specs.declared.Brought.TheVariants.{Nothing}
use Rattle.blockdisk.specs.declared.DiskOp.{DiskOp}
use Rattle.blockdisk.specs.declared.DiskOp.TheVariants.{ReqReadIndirectionTableOp, ReqReadNodeOp, RespReadIndirectionTableOp}
use Rattle.blockdisk.specs.declared.DiskOp.TheVariants.{RespReadNodeOp}
use Rattle.blockdisk.specs.declared.Records.{Records}
use Rattle.disklayout.specs.declared.Location.{Location}
use Rattle.queue.specs.Queue.{entry_of, has_of}
use Rattle.sectortype.specs.Form.{entry_at}
use Rattle.blocksystem.specs.Run.{State, accepts_step, after_step}

-- a call with this disk operation, V internal, and the other arguments within the limits
pub record Asks (q : Call) (op : DiskOp) : Type 0 where
  pub internal : q.vop ≡ StatesInternalOp
  pub disk : q.dop ≡ op
  pub limits : call_form q ≡ true

-- WHAT IS READ

module _ (s : State) where
  -- the reference of a node's read, and its location
  abbrev pub ref_read : ℕ → ℕ
  ref_read id = (entry_of s.cache.outstanding.reads id).reference

  abbrev pub loc_read : ℕ → Location
  loc_read id = (entry_at s.cache.tables.ephemeral (ref_read id)).loc

  -- the place being loaded
  abbrev pub place_read : Location
  place_read = s.cache.places.persistent

module _ (d : ℕ) (s : State) where
  -- A NODE'S READ

  pub record NodeWaitEnds (id : ℕ) : Type 0 where
    -- the disk reads at the reference's location
    pub place : (entry_of s.disk.queues.nodereads id).loc ≡ loc_read s id
    -- step 19 with nothing brought is accepted
    pub let_go : (q : Call) (o : Records) → Asks q (RespReadNodeOp id Nothing) → accepts_step d s 19 q o ≡ true
    -- afterwards the id is free ..
    pub freed : (q : Call) (o : Records) → Asks q (RespReadNodeOp id Nothing) →
        has_of (after_step d s 19 q o).disk.queues.nodereads id ≡ false
    -- .. and step 6 of that reference at its location is accepted, under any id that is not outstanding
    pub again : (q : Call) (o : Records) → Asks q (RespReadNodeOp id Nothing) →
        (new : ℕ) → has_of (after_step d s 19 q o).disk.queues.nodereads new ≡ false →
        (p : Call) (u : Records) → Asks p (ReqReadNodeOp new (loc_read s id)) → p.reference ≡ ref_read s id →
        accepts_step d (after_step d s 19 q o) 6 p u ≡ true

  -- A TABLE'S READ

  pub record TableWaitEnds (id : ℕ) : Type 0 where
    -- the disk reads at the place being loaded
    pub place : (entry_of s.disk.queues.tablereads id).loc ≡ place_read s
    pub let_go : (q : Call) (o : Records) → Asks q (RespReadIndirectionTableOp id Nothing) → accepts_step d s 19 q o ≡ true
    pub freed : (q : Call) (o : Records) → Asks q (RespReadIndirectionTableOp id Nothing) →
        has_of (after_step d s 19 q o).disk.queues.tablereads id ≡ false
    -- step 8 at that place is accepted
    pub again : (q : Call) (o : Records) → Asks q (RespReadIndirectionTableOp id Nothing) →
        (new : ℕ) → has_of (after_step d s 19 q o).disk.queues.tablereads new ≡ false →
        (p : Call) (u : Records) → Asks p (ReqReadIndirectionTableOp new (place_read s)) →
        accepts_step d (after_step d s 19 q o) 8 p u ≡ true

  -- EVERY READ

  pub record NoWaitForEver : Type 0 where
    -- the disk has queued, under the same ids, exactly the reads that the cache awaits
    pub node_reads : (id : ℕ) → has_of s.disk.queues.nodereads id ≡ awaits_read s.cache (RespReadNodeOp id Nothing)
    pub table_reads : (id : ℕ) → has_of s.disk.queues.tablereads id ≡ awaits_read s.cache (RespReadIndirectionTableOp id Nothing)
    -- and each of these waits can be ended
    pub node : (id : ℕ) → awaits_read s.cache (RespReadNodeOp id Nothing) ≡ true → NodeWaitEnds id
    pub table : (id : ℕ) → awaits_read s.cache (RespReadIndirectionTableOp id Nothing) ≡ true → TableWaitEnds id
