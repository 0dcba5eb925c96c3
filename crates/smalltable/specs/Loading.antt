-- Document 02, Q-13: a Loading cache that awaits the read, the disk that has the table stored, and what a load leaves.
use Rattle.std.specs.Prelude.{ℕ, false, true, ◌≡◌, leb}
use Rattle.std.proofs.Math.Option.{some}
use Rattle.blockcache.specs.Form.{cache_form, not_waiting, settings_form}
use Rattle.blockcache.specs.Marks.{marks_of}
use Rattle.blockcache.specs.declared.CacheState.{CacheState}
use Rattle.blockcache.specs.declared.Call.{Call}
use Rattle.blockcache.specs.declared.Phase.TheVariants.{Loading, Ready}
use Rattle.blockcache.specs.declared.Settings.{Settings}
use Rattle.blockcache.specs.declared.Tables.{Tables}
use Rattle.blockcache.specs.declared.VersionOp.TheVariants.{StatesInternalOp}
use Rattle.blockdisk.specs.Form.{disk_form}
use Rattle.blockdisk.specs.Ops.{with_queues, with_table_reads}
use Rattle.blockdisk.specs.Upstream.{places, tables_stored}
use Rattle.blockdisk.specs.declared.Brought.TheVariants.{Something}
use Rattle.blockdisk.specs.declared.DiskOp.TheVariants.{RespReadIndirectionTableOp}
use Rattle.blockdisk.specs.declared.DiskState.{DiskState}
use Rattle.disklayout.specs.Calls.{zero_loc}
use Rattle.disklayout.specs.declared.Location.{Location}
use Rattle.queue.specs.Queue.{empty_requests, remove_of}
use Rattle.sectortype.specs.Form.{empty_nodes, empty_table, node_form}
use Rattle.sectortype.specs.declared.Node.{Node}
use Rattle.sectortype.specs.declared.Table.{Table}

-- step 9's call: the table read's answer under id i brings t; it has a reference and a node beside it, as every call
abbrev pub brings : ℕ → ℕ → Node → Table → Call
brings i r n t = record { reference = r; vop = StatesInternalOp; dop = RespReadIndirectionTableOp i Something; node = n; table = t }

-- device 0 to 2, rule 1 or 2; the cache is in its written form, Loading, and awaits id i; reference and node are within the limits
pub record Awaits (g : Settings) (c : CacheState) (i r : ℕ) (n : Node) : Type 0 where
  pub settings : settings_form g ≡ true
  pub cache : cache_form g.device c ≡ true
  pub loading : c.phase ≡ Loading
  pub waiting : c.awaited.waiting ≡ true
  pub id : c.awaited.id ≡ i
  pub reference : leb r 63 ≡ true
  pub node : node_form n ≡ true

-- the disk is in its written form, and a table read is queued under id i at a place where exactly t is stored
pub record StoredUnder (d : ℕ) (s : DiskState) (i : ℕ) (t : Table) : Type 0 where
  pub form : disk_form d s ≡ true
  pub place : Location
  pub queued : places s.queues.tablereads i ≡ some place
  pub stored : tables_stored d s.records place ≡ some t

-- WHAT A LOAD LEAVES

abbrev pub loaded_tables : Table → Tables
loaded_tables t = record { persistent = t; ephemeral = t; isfrozen = false; frozen = empty_table }

-- Ready, with the table loaded from place l as persistent and ephemeral table; nothing frozen, awaited, outstanding or cached; the marks
-- are the table's, and the last block counts as the one given last
abbrev pub ready_with : ℕ → Location → Table → CacheState
ready_with d l t =
    record {
      phase = Ready;
      tables = loaded_tables t;
      places = record { persistent = l; isfrozen = false; frozen = zero_loc };
      awaited = not_waiting;
      outstanding = record { writes = empty_requests; reads = empty_requests };
      nodes = empty_nodes;
      blocks = record { marks = marks_of d (loaded_tables t) empty_requests; last = 127 };
    }

-- the table read under id i is no longer queued, and all else is as it was
abbrev pub answered_under : DiskState → ℕ → DiskState
answered_under s i = with_queues s (with_table_reads s.queues (remove_of s.queues.tablereads i))
