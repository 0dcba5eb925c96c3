-- The list of operations as the code walks it, by the number of an operation: `walk_is` (proofs/Walk.antt) says that it is the list's
-- outcome.
use Rattle.std.specs.Prelude.{suc, zero, ℕ, cond, false, List, [], eqb, ltb, get_or}
use Rattle.blockcache.specs.Form.{settings_form}
use Rattle.blockcache.specs.Operations.{ended, kept, operation_answer, operation_next, operations_before}
use Rattle.blockcache.specs.declared.CacheState.{CacheState}
use Rattle.blockcache.specs.declared.Call.{Call}
use Rattle.blockcache.specs.declared.Operation.{Operation}
use Rattle.blockcache.specs.declared.OperationsOutcome.{OperationsOutcome}
use Rattle.blockcache.specs.declared.Settings.{Settings}

-- how many operations are taken: none of a list that is longer than 32
abbrev pub limit : ℕ → ℕ
limit n = cond (ltb 32 n) 0 n

-- before the first operation
unfoldable pub begun : Settings → CacheState → Call → ℕ → OperationsOutcome
begun g c q n = ended (operations_before g c q n) 0 c

-- one operation more, at place k; after a refusal nothing moves
unfoldable pub advanced : Settings → OperationsOutcome → Operation → ℕ → OperationsOutcome
advanced g w o k =
    cond (eqb w.answer 0)
    (cond (eqb (operation_answer g w.cache o) 0) (ended 0 0 (operation_next w.cache o)) (ended (operation_answer g w.cache o) k
    w.cache))
    w

-- what a read past the end of a list would give
abbrev pub no_operation : Operation
no_operation = record {
  alloc = false;
  reference = 0;
  node = record {
    contents = record { high = 0; low = 0 };
    succs = record { count = 0; at = [] };
  };
}

-- the first n operations
unfoldable pub walked : Settings → OperationsOutcome → List Operation → ℕ → OperationsOutcome
walked g w l zero = w
walked g w l (suc n) = advanced g (walked g w l n) (get_or l n no_operation) n

-- after the last: marks are made on a device that is made; on another the walk was refused before its first operation
unfoldable pub finished : Settings → CacheState → OperationsOutcome → OperationsOutcome
finished g c w = cond (settings_form g) (kept g.device c w) (ended w.answer w.place c)
