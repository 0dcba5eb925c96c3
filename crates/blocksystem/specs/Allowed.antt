-- What demand 2 says of a joined call: which narrowings may refuse it, and what upstream's BlockSystem allows.
use Rattle.std.specs.Prelude.{ℕ, cond, false, true, ◌≡◌}
use Rattle.std.proofs.Math.Option.{some}
use Rattle.blockcache.specs.Abstract.{cache_vars, call_op}
use Rattle.blockcache.specs.LetGo.{LetGo}
use Rattle.blockcache.specs.Narrowings.{narrowed}
use Rattle.blockcache.specs.Steps.{Step as MStep, is_crash, is_read, step_of}
use Rattle.blockcache.specs.Upstream.{Variables as MVariables}
use Rattle.blockcache.specs.declared.CacheState.{CacheState}
use Rattle.blockcache.specs.declared.Call.{Call}
use Rattle.blockcache.specs.declared.VersionOp.{VersionOp}
use Rattle.blockcache.specs.declared.VersionOp.TheVariants.{StatesInternalOp}
use Rattle.blockdisk.specs.Crash.{crashed}
use Rattle.blockdisk.specs.Narrowings.{crash_narrowed, disk_narrowed}
use Rattle.blockdisk.specs.Upstream.{Dop, Next as DNext, disk_vars, dop_of}
use Rattle.blockdisk.specs.declared.DiskState.{DiskState}
use Rattle.blockdisk.specs.declared.Records.{Records}
use Rattle.blocksystem.specs.Joined.{disk_call, joined, settings_of}
use Rattle.blocksystem.specs.Upstream.{Crash, Machine, Variables, system_vars}

-- the operations of a step; a read takes no V and no D
abbrev pub joined_op : ℕ → Call → Dop
joined_op n q = dop_of (disk_call n q)

abbrev pub joined_vop : ℕ → Call → VersionOp
joined_vop n q = cond (is_read n) StatesInternalOp q.vop

module _ (d n : ℕ) (q : Call) (o : Records) (c : CacheState) (s : DiskState) where
  -- no narrowing of cache or disk applies
  pub record NoNarrowing : Type 0 where
    pub cache : narrowed (settings_of d s) c n q ≡ false
    pub disk : is_crash n ≡ false → disk_narrowed d s (disk_call n q) ≡ false
    pub crash : is_crash n ≡ true → crash_narrowed d s o ≡ false

  -- upstream allows the step of this number to end in s'
  abbrev pub MachineTo : Variables → Type 0
  MachineTo s' =
      (step : MStep) × (step_of n ≡ some step) × Machine d (system_vars d c s) s' (joined_op n q) (joined_vop n q) q.reference q.node step

  -- some next state; of a crash one with the disk that is offered
  pub record SystemAllows : Type 0 where
    pub machine : is_crash n ≡ false → (s' : Variables) × MachineTo s'
    pub crash : is_crash n ≡ true → (m : MVariables)
        × Crash (system_vars d c s) (record { machine = m; disk = disk_vars d (crashed s o) }) q.vop

  abbrev pub handed_back : Variables
  handed_back = system_vars d (joined d n q o c s).cache (joined d n q o c s).disk

  -- the state handed back is one that upstream allows
  pub record SystemMoves : Type 0 where
    pub machine : is_crash n ≡ false → MachineTo handed_back
    pub crash : is_crash n ≡ true → Crash (system_vars d c s) handed_back q.vop

-- document 02's step 19, which upstream doesn't have: the cache lets go of the read, and upstream's disk answers it
pub record SystemLetsGo (d : ℕ) (q : Call) (c : CacheState) (s : DiskState) (s' : Variables) : Type 0 where
  pub machine : LetGo (cache_vars c) s'.machine (call_op q) q.vop
  pub disk : DNext (disk_vars d s) s'.disk (call_op q)
