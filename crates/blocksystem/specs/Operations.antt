-- A lent list of operations on cache and disk (document 02, Q-7), and what it does to the pictures.
use Rattle.std.specs.Prelude.{ℕ, cond, List, [], ◌∷◌, eqb}
use Rattle.blockcache.specs.Operations.{cache_operations, operation_call, operation_number}
use Rattle.blockcache.specs.declared.CacheState.{CacheState}
use Rattle.blockcache.specs.declared.Call.{Call}
use Rattle.blockcache.specs.declared.Operation.{Operation}
use Rattle.blockcache.specs.declared.OperationsOutcome.{OperationsOutcome}
use Rattle.blockdisk.specs.Ops.{disk_step}
use Rattle.blockdisk.specs.declared.DiskOp.TheVariants.{NoDiskOp}
use Rattle.blockdisk.specs.declared.DiskOutcome.{DiskOutcome}
use Rattle.blockdisk.specs.declared.DiskState.{DiskState}
use Rattle.blocksystem.specs.Joined.{settings_of}
use Rattle.blocksystem.specs.Names.{pictures_after}
use Rattle.blocksystem.specs.declared.JoinedOperationsOutcome.{JoinedOperationsOutcome}
use Rattle.blocksystem.specs.declared.Pictures.{Pictures}

-- the disk is asked with no operation, beside the call's node and table
abbrev pub idle_disk : ℕ → Call → DiskState → DiskOutcome
idle_disk d q s = disk_step d s (record { op = NoDiskOp; node = q.node; table = q.table })

-- refused: cache and disk as they were
abbrev pub refused_operations : ℕ → ℕ → CacheState → DiskState → JoinedOperationsOutcome
refused_operations n k c s = record { answer = n; place = k; cache = c; disk = s }

-- what the cache gives, beside a disk
abbrev pub beside : OperationsOutcome → DiskState → JoinedOperationsOutcome
beside o s = record { answer = o.answer; place = o.place; cache = o.cache; disk = s }

-- what the cache answers, joined with the disk: if either refuses, neither moves. Asked with no operation the disk refuses with 1
-- alone, the lowest number, which comes before any operation: at place 0
unfoldable pub joined_with : ℕ → Call → OperationsOutcome → CacheState → DiskState → JoinedOperationsOutcome
joined_with d q o c s =
    cond (eqb (idle_disk d q s).answer 0)
    (beside o (idle_disk d q s).disk)
    (refused_operations (idle_disk d q s).answer 0 c s)

unfoldable pub joined_operations : ℕ → Call → List Operation → CacheState → DiskState → JoinedOperationsOutcome
joined_operations d q l c s = joined_with d q (cache_operations (settings_of d s) c q l) c s

-- names and pictures take the operations in list order, each as Dirty or Alloc
unfoldable pub operations_pictures : List Operation → Pictures → Pictures
operations_pictures [] t = t
operations_pictures (o ∷ os) t = operations_pictures os (pictures_after (operation_number o) (operation_call o) t)
