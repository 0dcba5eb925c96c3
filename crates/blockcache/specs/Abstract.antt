-- What a cache and a call stand for: upstream's variables and its disk operation; and what upstream allows a call to do.
use Rattle.std.specs.Prelude.{ℕ, ◌≡◌}
use Rattle.std.proofs.Math.Option.{Option, some}
use Rattle.base.specs.Maps.{Map, flagged}
use Rattle.blockcache.specs.NextStep.{NextStep}
use Rattle.blockcache.specs.Steps.{Step, step_of}
use Rattle.blockcache.specs.Upstream.{OutstandingWrite, Ready, Variables, loading_indirection_table, ready, unready}
use Rattle.blockcache.specs.declared.Awaited.{Awaited}
use Rattle.blockcache.specs.declared.CacheState.{CacheState}
use Rattle.blockcache.specs.declared.Call.{Call}
use Rattle.blockcache.specs.declared.Phase.{Phase}
use Rattle.blockcache.specs.declared.Phase.TheVariants.{Loading as PhaseLoading, Ready as PhaseReady, Unready as PhaseUnready}
use Rattle.blockdisk.specs.Upstream.{Dop, op_of}
use Rattle.queue.specs.Queue.{mapped}
use Rattle.queue.specs.declared.Request.{Request}
use Rattle.queue.specs.declared.Requests.{Requests}
use Rattle.sectortype.specs.Abstract.{indirection_table, nodes_map}

-- WHAT A CACHE STANDS FOR

abbrev pub write_of : Request → OutstandingWrite
write_of w = record { ref = w.reference; loc = w.loc }

-- map<ReqId, OutstandingWrite>
unfoldable pub writes_map : Requests → Map OutstandingWrite
writes_map = mapped write_of

-- map<ReqId, OutstandingRead>
unfoldable pub reads_map : Requests → Map ℕ
reads_map = mapped (λ w. w.reference)

abbrev pub awaited_id : Awaited → Option ℕ
awaited_id a = flagged a.waiting a.id

abbrev pub ready_vars : CacheState → Ready
ready_vars c =
    record {
      persistent_indirection_table = indirection_table c.tables.persistent;
      frozen_indirection_table = flagged c.tables.isfrozen (indirection_table c.tables.frozen);
      ephemeral_indirection_table = indirection_table c.tables.ephemeral;
      persistent_indirection_table_loc = c.places.persistent;
      frozen_indirection_table_loc = flagged c.places.isfrozen c.places.frozen;
      outstanding_indirection_table_write = awaited_id c.awaited;
      outstanding_block_writes = writes_map c.outstanding.writes;
      outstanding_block_reads = reads_map c.outstanding.reads;
      cache = nodes_map c.nodes;
    }

abbrev pub vars_in : Phase → CacheState → Variables
vars_in PhaseUnready c = unready
vars_in PhaseLoading c = loading_indirection_table c.places.persistent (awaited_id c.awaited)
vars_in PhaseReady c = ready (ready_vars c)

abbrev pub cache_vars : CacheState → Variables
cache_vars c = vars_in c.phase c

-- the call's disk operation, with its node or table
abbrev pub call_op : Call → Dop
call_op q = op_of q.dop q.node q.table

-- some next state: what upstream allows a call to do
abbrev pub Allowed : ℕ → CacheState → ℕ → Call → Type 0
Allowed d c n q =
    (step : Step) × (step_of n ≡ some step) × ((s' : Variables) × NextStep d (cache_vars c) s' (call_op q) q.vop q.reference q.node step)
