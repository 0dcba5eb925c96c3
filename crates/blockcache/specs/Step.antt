-- A step of the cache: the number decides which rows and which next state apply; a number that is no step's is refused with 1.
use Rattle.std.specs.Prelude.{ℕ, Bool, ◌&&◌, ◌||◌, cond, not, List, [], ◌∷◌, eqb, Result, Ok, Err}
use Rattle.std.proofs.Math.Option.{Option, none, some}
use Rattle.base.specs.Maps.{is_some}
use Rattle.base.specs.Refusals.{Row, ◌when◌, answer}
use Rattle.blockcache.specs.Form.{cache_form, call_form, settings_form}
use Rattle.blockcache.specs.Next.{marks_renewed, step_next}
use Rattle.blockcache.specs.Rows.{gate, own_rows, step_rows, takes}
use Rattle.blockcache.specs.Steps.{Step, is_read, number_of, step_of}
use Rattle.blockcache.specs.declared.CacheOutcome.{CacheOutcome}
use Rattle.blockcache.specs.declared.CacheState.{CacheState}
use Rattle.blockcache.specs.declared.Call.{Call}
use Rattle.blockcache.specs.declared.Phase.{Phase}
use Rattle.blockcache.specs.declared.Refusal.{Refusal}
use Rattle.blockcache.specs.declared.Refusal.TheVariants as refusal
use Rattle.blockcache.specs.declared.Settings.{Settings}
use Rattle.blockcache.specs.declared.VersionOp.{VersionOp}
use Rattle.blockdisk.specs.declared.DiskOp.{DiskOp}
use Rattle.sectortype.specs.Form.{slot_at, zero_node}
use Rattle.sectortype.specs.declared.Node.{Node}

-- THE ROWS AND THE NEXT CACHE OF A NUMBER

-- settings, cache and call are within the limits and in their one written form
abbrev pub well_formed : Settings → CacheState → Call → Bool
well_formed g c q = settings_form g && cache_form g.device c && call_form q

-- 1: they are not, or there is no such step
abbrev pub outside_limits : Settings → CacheState → ℕ → Call → Bool
outside_limits g c n q = not (well_formed g c q) || not (is_some (step_of n))

abbrev pub rows_of : Settings → CacheState → Call → Option Step → List Row
rows_of g c q none = []
rows_of g c q (some step) = step_rows g c q step

-- the step's own part, with the marks of what it leaves
abbrev pub next_of : ℕ → CacheState → Call → Option Step → CacheState
next_of d c q none = c
next_of d c q (some step) = marks_renewed d (step_next c q step)

abbrev pub cache_rows : Settings → CacheState → ℕ → Call → List Row
cache_rows g c n q = (1 when outside_limits g c n q) ∷ rows_of g c q (step_of n)

abbrev pub cache_next : ℕ → CacheState → ℕ → Call → CacheState
cache_next d c n q = next_of d c q (step_of n)

-- a read hands out the cached node
abbrev pub node_of : CacheState → ℕ → Call → Node
node_of c n q = cond (is_read n) (slot_at c.nodes q.reference).node zero_node

-- THE STEP

-- accepted: the next cache and the node; refused: the cache as it was and a node of zeros
abbrev pub outcome : ℕ → Node → CacheState → CacheState → CacheOutcome
outcome n node next c = record { answer = n; node = cond (eqb n 0) node zero_node; cache = cond (eqb n 0) next c }

unfoldable pub cache_step : Settings → CacheState → ℕ → Call → CacheOutcome
cache_step g c n q = outcome (answer (cache_rows g c n q)) (node_of c n q) (cache_next g.device c n q) c

-- ITS PARTS, for the code: what V, D and phase refuse, what the step itself does, and the marks of what it leaves

abbrev pub answered : ℕ → CacheState → CacheOutcome
answered n c = record { answer = n; node = zero_node; cache = c }

-- the numbers of documents 01 and 02
abbrev pub refusal_number : Refusal → ℕ
refusal_number refusal.Limits = 1
refusal_number refusal.Version = 2
refusal_number refusal.Disk = 3
refusal_number refusal.Phase = 4
refusal_number refusal.Id = 5
refusal_number refusal.Place = 6
refusal_number refusal.Held = 7
refusal_number refusal.Reference = 8
refusal_number refusal.Contents = 9
refusal_number refusal.Outstanding = 10
refusal_number refusal.Frozen = 11
refusal_number refusal.Named = 12
refusal_number refusal.Successor = 13
refusal_number refusal.Full = 14
refusal_number refusal.NoBlock = 21
refusal_number refusal.Awaited = 22
refusal_number refusal.TooLong = 24
refusal_number refusal.Rule = 25

-- what a test gives: 0 where it refuses nothing
abbrev pub test_number : {A : Type 0} → Result A Refusal → ℕ
test_number (Ok a) = 0
test_number (Err e) = refusal_number e

-- what a step gives: the next cache, or the number with the cache as it was
abbrev pub settled_outcome : Result CacheState Refusal → CacheState → CacheOutcome
settled_outcome (Ok next) c = answered 0 next
settled_outcome (Err e) c = answered (refusal_number e) c

-- what a read gives: the node, or the number with a node of zeros; the cache as it was
abbrev pub read_outcome : Result Node Refusal → CacheState → CacheOutcome
read_outcome (Ok node) c = record { answer = 0; node = node; cache = c }
read_outcome (Err e) c = answered (refusal_number e) c

-- 0 where V, D and the phase are the step's, 1 where there is no such step
unfoldable pub gated : Phase → VersionOp → DiskOp → Option Step → ℕ
gated p v o none = 1
gated p v o (some step) = answer (gate (takes p v o step) [])

unfoldable pub past_gate : Settings → CacheState → Call → Step → CacheOutcome
past_gate g c q step = outcome (answer (own_rows g c q step)) (node_of c (number_of step) q) (step_next c q step) c

abbrev pub dispatched : Settings → CacheState → Call → Option Step → CacheOutcome
dispatched g c q none = answered 1 c
dispatched g c q (some step) = past_gate g c q step

abbrev pub renewed_outcome : ℕ → CacheOutcome → CacheOutcome
renewed_outcome d o = record { answer = o.answer; node = o.node; cache = marks_renewed d o.cache }

-- the marks made anew where an accepted step may have moved a location or an outstanding write
abbrev pub renewed_if : ℕ → Bool → CacheOutcome → CacheOutcome
renewed_if d moved o = cond (eqb o.answer 0 && moved) (renewed_outcome d o) o
