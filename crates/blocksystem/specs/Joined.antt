-- A joined call: it asks cache and disk; if either refuses, neither moves; the answer is the lowest number whose condition holds.
use Rattle.std.specs.Prelude.{ℕ, ◌&&◌, cond, not, List, [], ◌∷◌, eqb}
use Rattle.base.specs.Refusals.{Row, ◌when◌, answer, lowest}
use Rattle.blockcache.specs.Ops.{vop_loc}
use Rattle.blockcache.specs.Step.{cache_step}
use Rattle.blockcache.specs.Steps.{is_crash, is_read, is_start}
use Rattle.blockcache.specs.declared.CacheState.{CacheState}
use Rattle.blockcache.specs.declared.Call.{Call}
use Rattle.blockcache.specs.declared.Settings.{Settings}
use Rattle.blockdisk.specs.Crash.{disk_crash}
use Rattle.blockdisk.specs.Ops.{disk_step}
use Rattle.blockdisk.specs.declared.DiskState.{DiskState}
use Rattle.blockdisk.specs.declared.DiskCall.{DiskCall}
use Rattle.blockdisk.specs.declared.DiskOp.TheVariants.{NoDiskOp}
use Rattle.blockdisk.specs.declared.DiskOutcome.{DiskOutcome}
use Rattle.blockdisk.specs.declared.Records.{Records}
use Rattle.sectortype.specs.Form.{zero_node}
use Rattle.blocksystem.specs.Start.{wf_succs}
use Rattle.blocksystem.specs.declared.Outcome.{Outcome}

-- what the cache is asked beside its call: the device, and the rule that the disk carries
abbrev pub settings_of : ℕ → DiskState → Settings
settings_of d s = record { device = d; rule = s.rule }

-- what the disk is asked: a read takes no disk operation, a crash is offered records
abbrev pub disk_call : ℕ → Call → DiskCall
disk_call n q = record { op = cond (is_read n) NoDiskOp q.dop; node = q.node; table = q.table }

unfoldable pub disk_asked : ℕ → ℕ → Call → Records → DiskState → DiskOutcome
disk_asked d n q o s = cond (is_crash n) (disk_crash d s o) (disk_step d s (disk_call n q))

-- a start: 20 where no whole graph is stored at the place given
abbrev pub start_rows : ℕ → ℕ → Call → DiskState → List Row
start_rows d n q s = (20 when (is_start n && not (wf_succs d s.records (vop_loc q.vop)))) ∷ []

unfoldable pub joined_answer : ℕ → ℕ → Call → Records → CacheState → DiskState → ℕ
joined_answer d n q o c s = lowest (lowest (cache_step (settings_of d s) c n q).answer (disk_asked d n q o s).answer) (answer (start_rows d n q s))

unfoldable pub joined : ℕ → ℕ → Call → Records → CacheState → DiskState → Outcome
joined d n q o c s =
    record {
      answer = joined_answer d n q o c s;
      node = cond (eqb (joined_answer d n q o c s) 0) (cache_step (settings_of d s) c n q).node zero_node;
      cache = cond (eqb (joined_answer d n q o c s) 0) (cache_step (settings_of d s) c n q).cache c;
      disk = cond (eqb (joined_answer d n q o c s) 0) (disk_asked d n q o s).disk s;
    }
