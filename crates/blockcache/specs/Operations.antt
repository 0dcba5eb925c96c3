-- Several changes as one (document 02, Q-7): step 20 takes a lent list of up to 32 operations, each a write (Dirty) or an alloc
-- (Alloc), one after the other. Upstream's OpTransaction isn't in the text; this is its meaning here.
use Rattle.std.specs.Prelude.{◌+◌, ℕ, Bool, ◌&&◌, cond, false, not, List, [], ◌++◌, ◌∷◌, ◌↔◌, ◌≡◌, eqb, leb, ltb, length}
use Rattle.base.specs.Refusals.{Row, ◌when◌, answer}
use Rattle.blockcache.specs.Next.{marks_renewed, step_next}
use Rattle.blockcache.specs.NextStep.{NextStep}
use Rattle.blockcache.specs.Rows.{own_rows}
use Rattle.blockcache.specs.Step.{cache_rows, cache_step}
use Rattle.blockcache.specs.Steps.{Step, alloc_step, dirty_step, number_of, transaction_step}
use Rattle.blockcache.specs.Upstream.{Variables}
use Rattle.blockcache.specs.declared.CacheOutcome.{CacheOutcome}
use Rattle.blockcache.specs.declared.CacheState.{CacheState}
use Rattle.blockcache.specs.declared.Call.{Call}
use Rattle.blockcache.specs.declared.Operation.{Operation}
use Rattle.blockcache.specs.declared.OperationsOutcome.{OperationsOutcome}
use Rattle.blockcache.specs.declared.Settings.{Settings}
use Rattle.blockcache.specs.declared.VersionOp.TheVariants.{AdvanceOp}
use Rattle.blockdisk.specs.Upstream.{no_disk_op}
use Rattle.blockdisk.specs.declared.DiskOp.TheVariants.{NoDiskOp}
use Rattle.sectortype.specs.Form.{empty_table, node_form}

-- AN OPERATION

-- the step that it is
abbrev pub operation_step : Operation → Step
operation_step o = cond o.alloc alloc_step dirty_step

abbrev pub operation_number : Operation → ℕ
operation_number o = number_of (operation_step o)

-- the call that it would be by itself: its reference and node, V AdvanceOp, no D, an empty table
abbrev pub operation_call : Operation → Call
operation_call o = record { reference = o.reference; vop = AdvanceOp false; dop = NoDiskOp; node = o.node; table = empty_table }

-- it is within the limits: the reference is one, the node in its written form
abbrev pub operation_form : Operation → Bool
operation_form o = leb o.reference 63 && node_form o.node

module _ (g : Settings) (c : CacheState) (o : Operation) where
  -- 1 at its turn where it is outside the limits, then the conditions of Dirty or Alloc
  abbrev pub operation_rows : List Row
  operation_rows = (1 when not (operation_form o)) ∷ own_rows g c (operation_call o) (operation_step o)

  unfoldable pub operation_answer : ℕ
  operation_answer = answer operation_rows

-- what Dirty or Alloc leaves
unfoldable pub operation_next : CacheState → Operation → CacheState
operation_next c o = step_next c (operation_call o) (operation_step o)

-- THE LIST

abbrev pub ended : ℕ → ℕ → CacheState → OperationsOutcome
ended n k c = record { answer = n; place = k; cache = c }

-- the operations from place k on, each in turn on the cache left by those before; the first that fails ends it, with its number and its
-- place
unfoldable pub in_turn : Settings → CacheState → ℕ → List Operation → OperationsOutcome
in_turn g c k [] = ended 0 0 c
in_turn g c k (o ∷ os) = cond (eqb (operation_answer g c o) 0) (in_turn g (operation_next c o) (k + 1) os) (ended (operation_answer g c o) k c)

-- accepted: the cache left by the last operation, with the marks of what it has; refused: the cache as it was
unfoldable pub kept : ℕ → CacheState → OperationsOutcome → OperationsOutcome
kept d c o = cond (eqb o.answer 0) (ended 0 0 (marks_renewed d o.cache)) (ended o.answer o.place c)

-- before any operation, by the length of the list: 1 to 4 are those of step 20, 24 where it is longer than 32
abbrev pub operations_rows : Settings → CacheState → Call → ℕ → List Row
operations_rows g c q n = cache_rows g c (number_of transaction_step) q ++ ((24 when ltb 32 n) ∷ [])

unfoldable pub operations_before : Settings → CacheState → Call → ℕ → ℕ
operations_before g c q n = answer (operations_rows g c q n)

-- STEP 20 WITH ITS LIST
unfoldable pub cache_operations : Settings → CacheState → Call → List Operation → OperationsOutcome
cache_operations g c q l =
    cond (eqb (operations_before g c q (length l)) 0) (kept g.device c (in_turn g c 0 l)) (ended (operations_before g c q (length l)) 0 c)

-- ONE BY ONE: the same operations as single calls, by which the list is fixed (`one_by_one`, proofs/Operations.antt)

module _ (g : Settings) where
  abbrev pub single : CacheState → Operation → CacheOutcome
  single c o = cache_step g c (operation_number o) (operation_call o)

  unfoldable pub after_singles : CacheState → List Operation → CacheState
  after_singles c [] = c
  after_singles c (o ∷ os) = after_singles (single c o).cache os

  -- each is accepted, on the cache left by those before
  abbrev pub EachTaken : CacheState → List Operation → Type 0
  EachTaken c [] = Unit {0}
  EachTaken c (o ∷ os) = ((single c o).answer ≡ 0) × EachTaken (single c o).cache os

pub record OneByOne (g : Settings) (c : CacheState) (q : Call) (l : List Operation) : Type 0 where
  -- accepted exactly when each in turn would be ..
  pub accepted : ((cache_operations g c q l).answer ≡ 0) ↔ EachTaken g c l
  -- .. with the cache that is left after those calls made one by one
  pub next : EachTaken g c l → cache_operations g c q l ≡ ended 0 0 (after_singles g c l)
  -- else the answer and the place of the first single call that fails, and nothing changes
  pub failed : (front back : List Operation) (o : Operation) → l ≡ front ++ (o ∷ back) → EachTaken g c front →
      ((single g (after_singles g c front) o).answer ≡ 0 → ⊥) →
      cache_operations g c q l ≡ ended (single g (after_singles g c front) o).answer (length front) c

-- UPSTREAM'S TRANSACTION of a list. OpTransaction isn't in the text: it is read as document 02 says, each operation's own predicate in turn
abbrev pub OpTransaction : ℕ → Variables → Variables → List Operation → Type 0
OpTransaction d s s' [] = s' ≡ s
OpTransaction d s s' (o ∷ os) =
    (m : Variables) × NextStep d s m no_disk_op (AdvanceOp false) o.reference o.node (operation_step o) × OpTransaction d m s' os
