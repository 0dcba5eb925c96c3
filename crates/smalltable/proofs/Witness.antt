-- There are such caches and disks: on each device and under either rule, for each id and each table in its written form, a cache that
-- awaits the read and a disk that has exactly this table stored at the place asked for. Assumes nothing.
use Prim.Native.Nat.{ℕ}
use mathlib.Core.Bool.{false, true}
use mathlib.Core.Path.{◌∙◌, ◌≡◌, ap, refl, sym}
use native.Mathlib.Omega.{arith}
use Rattle.base.proofs.Maps.{put_same}
use Rattle.base.proofs.Tests.{and_both}
use Rattle.base.specs.Maps.{is_some}
use Rattle.base.specs.Refusals.{answer}
use Rattle.blockdisk.proofs.Accepting.{RequestOk, disk_accepted_iff, request_iff}
use Rattle.blockdisk.proofs.Crashing.{crashed_form, empty_records_form, empty_records_placed}
use Rattle.blockdisk.proofs.Forms.{disk_form_iff, table_queue_form_lem}
use Rattle.blockdisk.proofs.Kept.{disk_form_kept, with_table_form, with_table_placed}
use Rattle.blockdisk.proofs.Outstanding.{places_has, places_insert, places_none}
use Rattle.blockdisk.proofs.Reading.{table_written_lem}
use Rattle.blockdisk.specs.Crash.{empty_queues}
use Rattle.blockdisk.specs.Form.{disk_form, is_rule, table_allowed}
use Rattle.blockdisk.specs.Ops.{disk_rows, next_disk}
use Rattle.blockdisk.specs.Records.{empty_records, with_table}
use Rattle.blockdisk.specs.Upstream.{places}
use Rattle.blockdisk.specs.declared.DiskCall.{DiskCall}
use Rattle.blockdisk.specs.declared.DiskOp.TheVariants.{ReqReadIndirectionTableOp}
use Rattle.blockdisk.specs.declared.DiskState.{DiskState}
use Rattle.blocksystem.proofs.Formatted.{table_place}
use Rattle.blocksystem.specs.Format.{table_place_of}
use Rattle.blocksystem.specs.Joined.{settings_of}
use Rattle.disklayout.specs.Device.{made}
use Rattle.disklayout.specs.declared.Location.{Location}
use Rattle.queue.specs.Queue.{empty_requests, has_of}
use Rattle.sectortype.proofs.Forms.{empty_table_form, zero_node_form}
use Rattle.sectortype.specs.Form.{empty_table, table_form, zero_node}
use Rattle.sectortype.specs.declared.Table.{Table}
use Rattle.smalltable.proofs.Loading.{awaiting, awaiting_form}
use Rattle.smalltable.specs.Loading.{Awaits, StoredUnder}

module _ (d rule : ℕ) (on : made d ≡ true) (ok : is_rule rule ≡ true) (i : ℕ) (t : Table) (f : table_form t ≡ true) where
  -- the place of a newly formatted device's table
  abbrev at : Location
  at = table_place_of d

  -- a disk with this table there and nothing else
  abbrev holding : DiskState
  holding = record { rule = rule; records = with_table d empty_records at t; queues = empty_queues }

  holding_form : disk_form d holding ≡ true
  holding_form =
      let form = empty_records_form d in
      let placed = empty_records_placed d in
      crashed_form d holding (with_table d empty_records at t) on ok
      (with_table_form d empty_records on form placed at t (table_place d on) f)
      (with_table_placed d empty_records on form placed at t (table_place d on))

  abbrev asking : DiskCall
  asking = record { op = ReqReadIndirectionTableOp i at; node = zero_node; table = empty_table }

  fresh : has_of empty_requests i ≡ false
  fresh = sym (places_has empty_requests i) ∙ ap (λ m. is_some (m i)) places_none

  queueing : answer (disk_rows d holding asking) ≡ 0
  queueing =
      let room : RequestOk empty_requests i (table_allowed d at) =
      record { fresh = fresh; ok = and_both on (table_place d on); room = omega arith } in
      (disk_accepted_iff d holding asking).1
      (record {
        disk = (disk_form_iff d holding).0 holding_form;
        node = zero_node_form;
        table = empty_table_form;
        rows = (request_iff empty_requests i (table_allowed d at)).1 room;
      })

  -- and with its read queued
  abbrev pub asked : DiskState
  asked = next_disk d holding (ReqReadIndirectionTableOp i at) zero_node empty_table

  pub some_stored : StoredUnder d asked i t
  some_stored =
      let q = table_queue_form_lem d empty_requests ((disk_form_iff d holding).0 holding_form).tablereads in
      record {
        form = disk_form_kept d holding asking queueing;
        place = at;
        queued = ap (λ p. p i) (places_insert empty_requests i q at (omega arith) fresh) ∙ put_same (places empty_requests) i at;
        stored = table_written_lem d empty_records on (empty_records_form d) at t (table_place d on);
      }

  pub some_awaits : Awaits (settings_of d asked) (awaiting at i) i 0 zero_node
  some_awaits =
      record {
        settings = and_both on ok;
        cache = awaiting_form d at i;
        loading = refl;
        waiting = refl;
        id = refl;
        reference = refl;
        node = zero_node_form;
      }
