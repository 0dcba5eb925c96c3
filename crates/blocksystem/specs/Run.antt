-- The run of a list of joined calls from a newly formatted device, and what demand 3 says of it.
use Rattle.std.specs.Prelude.{◌+◌, ◌<◌, ℕ, Bool, ◌&&◌, ◌||◌, cond, false, not, true, List, [], ◌++◌, ◌∷◌, ◌↔◌, ◌≡◌, eqb, ltb, length}
use Rattle.base.specs.Refusals.{Row, holds}
use Rattle.base.specs.Scan.{count_below}
use Rattle.blockcache.specs.Chooser.{next_fit, is_free_block, marked, refused_choice}
use Rattle.blockcache.specs.Form.{cache_form, call_form}
use Rattle.blockcache.specs.Next.{with_last}
use Rattle.blockcache.specs.Operations.{operation_call, operation_number}
use Rattle.blockcache.specs.Ops.{vop_loc}
use Rattle.blockcache.specs.Step.{cache_rows, cache_step}
use Rattle.blockcache.specs.Steps.{is_crash, is_start}
use Rattle.blockcache.specs.declared.CacheState.{CacheState}
use Rattle.blockcache.specs.declared.Call.{Call}
use Rattle.blockcache.specs.declared.Choice.{Choice}
use Rattle.blockcache.specs.declared.Operation.{Operation}
use Rattle.blockdisk.specs.Crash.{crash_rows}
use Rattle.blockdisk.specs.Form.{disk_form}
use Rattle.blockdisk.specs.Ops.{disk_rows}
use Rattle.blockdisk.specs.Records.{empty_records}
use Rattle.blockdisk.specs.declared.DiskState.{DiskState}
use Rattle.blockdisk.specs.declared.Records.{Records}
use Rattle.disklayout.specs.Blocks.{node_block_addr}
use Rattle.disklayout.specs.Device.{device_of}
use Rattle.sectortype.specs.Form.{zero_node}
use Rattle.sectortype.specs.declared.Contents.{Contents}
use Rattle.blocksystem.specs.Audit.{counted, none_counted}
use Rattle.blocksystem.specs.Choosing.{joined_choice, joined_choice_rows}
use Rattle.blocksystem.specs.Format.{formatted}
use Rattle.blocksystem.specs.Joined.{disk_asked, disk_call, joined, settings_of, start_rows}
use Rattle.blocksystem.specs.Names.{first_pictures, is_named, pictures_after}
use Rattle.blocksystem.specs.Operations.{joined_operations, operations_pictures, refused_operations}
use Rattle.blocksystem.specs.declared.JoinedOperationsOutcome.{JoinedOperationsOutcome}
use Rattle.blocksystem.specs.declared.Outcome.{Outcome}
use Rattle.blocksystem.specs.declared.Pictures.{Pictures}

-- a call of a list: a step, by its number, with its arguments and the records offered, which a crash alone looks at; the chooser's
-- call; or step 20's, with its arguments and its list of operations
pub data JoinedCall : Type 0 where
  step : ℕ → Call → Records → JoinedCall
  choose : JoinedCall
  operations : Call → List Operation → JoinedCall

-- cache and disk as the last call handed them back, and the names and pictures
pub record State : Type 0 where
  pub cache : CacheState
  pub disk : DiskState
  pub pictures : Pictures

module _ (d : ℕ) where
  -- a newly formatted device, with its freeze rule
  abbrev pub start : Contents → ℕ → State
  start x r = record { cache = (formatted d x r).cache; disk = (formatted d x r).disk; pictures = first_pictures d x }

  -- A STEP

  -- cache, call and disk are each in their written form, the disk with its rule
  abbrev pub InForm : State → Call → Type 0
  InForm s q = (cache_form d s.cache ≡ true) × (call_form q ≡ true) × (disk_form d s.disk ≡ true)

  abbrev pub asked : State → ℕ → Call → Records → Outcome
  asked s n q o = joined d n q o s.cache s.disk

  abbrev pub accepts_step : State → ℕ → Call → Records → Bool
  accepts_step s n q o = eqb (asked s n q o).answer 0

  -- cache and disk as the call hands them back; names and pictures move where it is accepted
  abbrev pub after_step : State → ℕ → Call → Records → State
  after_step s n q o =
      record {
        cache = (asked s n q o).cache;
        disk = (asked s n q o).disk;
        pictures = cond (accepts_step s n q o) (pictures_after n q s.pictures) s.pictures;
      }

  -- what the disk refuses: a crash has rows of its own
  abbrev pub disk_side : State → ℕ → Call → Records → List Row
  disk_side s n q o = cond (is_crash n) (crash_rows d s.disk o) (disk_rows d s.disk (disk_call n q))

  -- the condition of number k holds: in the rows of the cache, of the disk or of a start
  unfoldable pub conditions : State → ℕ → Call → Records → ℕ → Bool
  conditions s n q o k =
      holds k (cache_rows (settings_of d s.disk) s.cache n q) || holds k (disk_side s n q o) || holds k (start_rows d n q s.disk)

  -- it is answered as documents 01 and 02 fix
  pub record StepAnswered (s : State) (n : ℕ) (q : Call) (o : Records) : Type 0 where
    -- 0 exactly where no condition of any number holds
    pub accepted : ((asked s n q o).answer ≡ 0) ↔ ((k : ℕ) → conditions s n q o k ≡ false)
    -- else the answer's own condition holds, and no lower number's does
    pub refused : ((asked s n q o).answer ≡ 0 → ⊥) → conditions s n q o (asked s n q o).answer ≡ true
    pub lowest : (k : ℕ) → k < (asked s n q o).answer → conditions s n q o k ≡ false
    -- a refused call hands back cache and disk unchanged and a node of zeros
    pub cache_unchanged : ((asked s n q o).answer ≡ 0 → ⊥) → (asked s n q o).cache ≡ s.cache
    pub disk_unchanged : ((asked s n q o).answer ≡ 0 → ⊥) → (asked s n q o).disk ≡ s.disk
    pub no_node : ((asked s n q o).answer ≡ 0 → ⊥) → (asked s n q o).node ≡ zero_node
    -- an accepted one the next cache and disk, and the node of a read
    pub next_cache : (asked s n q o).answer ≡ 0 → (asked s n q o).cache ≡ (cache_step (settings_of d s.disk) s.cache n q).cache
    pub disk_next : (asked s n q o).answer ≡ 0 → (asked s n q o).disk ≡ (disk_asked d n q o s.disk).disk
    pub node_read : (asked s n q o).answer ≡ 0 → (asked s n q o).node ≡ (cache_step (settings_of d s.disk) s.cache n q).node

  -- an accepted start is given a place then named
  abbrev pub step_named : State → ℕ → Call → Records → Bool
  step_named s n q o = not (accepts_step s n q o && is_start n) || is_named s.pictures (vop_loc q.vop)

  -- THE CHOOSER'S CALL

  abbrev pub choice : State → Choice
  choice s = joined_choice d s.cache s.disk

  abbrev pub choice_rows : State → List Row
  choice_rows s = joined_choice_rows d s.cache s.disk

  -- no location of the three tables and no outstanding write has the block's address
  abbrev pub free : State → ℕ → Bool
  free s b = is_free_block (settings_of d s.disk) s.cache b

  -- the cache as the call hands it back; disk, names and pictures stay
  abbrev pub after_choice : State → State
  after_choice s = record { cache = (choice s).cache; disk = s.disk; pictures = s.pictures }

  -- it is answered as document 02 fixes
  pub record ChoiceAnswered (s : State) : Type 0 where
    -- 0 exactly where no condition of any number holds
    pub accepted : ((choice s).answer ≡ 0) ↔ ((k : ℕ) → holds k (choice_rows s) ≡ false)
    -- else the answer's own condition holds, and no lower number's does
    pub refused : ((choice s).answer ≡ 0 → ⊥) → holds (choice s).answer (choice_rows s) ≡ true
    pub lowest : (k : ℕ) → k < (choice s).answer → holds k (choice_rows s) ≡ false
    -- a refused one is zeros, and leaves the cache as it was
    pub unchanged : ((choice s).answer ≡ 0 → ⊥) → choice s ≡ refused_choice (choice s).answer s.cache
    -- an accepted one gives the first free block after the one given last, going round: one of the 128, which is free ..
    pub block : (choice s).answer ≡ 0 → (choice s).block ≡ next_fit (free s) s.cache.blocks.last
    pub small : (choice s).answer ≡ 0 → (choice s).block < 128
    pub is_free : (choice s).answer ≡ 0 → free s (choice s).block ≡ true
    -- .. with its address, and how many are not marked, itself among them
    pub addr : (choice s).answer ≡ 0 → (choice s).addr ≡ node_block_addr (device_of d) (choice s).block
    pub count : (choice s).answer ≡ 0 → (choice s).free + count_below (marked (settings_of d s.disk) s.cache) 128 ≡ 128
    -- the next cache has it as the block given last, and is as it was else
    pub next : (choice s).answer ≡ 0 → (choice s).cache ≡ with_last s.cache (choice s).block

  -- A LIST OF OPERATIONS

  abbrev pub list_asked : State → Call → List Operation → JoinedOperationsOutcome
  list_asked s q l = joined_operations d q l s.cache s.disk

  -- cache and disk as the call hands them back; the pictures take the operations, in list order, where it is accepted
  abbrev pub after_list : State → Call → List Operation → State
  after_list s q l =
      record {
        cache = (list_asked s q l).cache;
        disk = (list_asked s q l).disk;
        pictures = cond (eqb (list_asked s q l).answer 0) (operations_pictures l s.pictures) s.pictures;
      }

  -- one of them as a single call, and the state that it leaves
  abbrev pub single_asked : State → Operation → Outcome
  single_asked s o = asked s (operation_number o) (operation_call o) empty_records

  abbrev pub after_single : State → Operation → State
  after_single s o = after_step s (operation_number o) (operation_call o) empty_records

  -- all of them, one by one
  unfoldable pub after_singles : State → List Operation → State
  after_singles s [] = s
  after_singles s (o ∷ os) = after_singles (after_single s o) os

  -- each is accepted, in the state left by those before
  abbrev pub EachTaken : State → List Operation → Type 0
  EachTaken s [] = Unit {0}
  EachTaken s (o ∷ os) = ((single_asked s o).answer ≡ 0) × EachTaken (after_single s o) os

  -- what is refused before any operation: what step 20 is, without a list, then one of more than 32
  abbrev pub list_before : State → Call → ℕ → ℕ
  list_before s q n = cond (eqb (asked s 20 q empty_records).answer 0) (cond (ltb 32 n) 24 0) (asked s 20 q empty_records).answer

  -- it is answered as document 02 fixes
  pub record ListAnswered (s : State) (q : Call) (l : List Operation) : Type 0 where
    -- before any operation: that number, place 0, cache and disk as they were
    pub before : (list_before s q (length l) ≡ 0 → ⊥) →
        list_asked s q l ≡ refused_operations (list_before s q (length l)) 0 s.cache s.disk
    -- past that it is accepted exactly when each in turn would be ..
    pub accepted : list_before s q (length l) ≡ 0 → ((list_asked s q l).answer ≡ 0) ↔ EachTaken s l
    -- .. and leaves what those calls leave, made one by one: cache, disk, names and pictures
    pub next : (list_asked s q l).answer ≡ 0 → ((list_asked s q l).place ≡ 0) × (after_list s q l ≡ after_singles s l)
    -- else answer and place are those of the first single call that fails
    pub failed : list_before s q (length l) ≡ 0 → (front back : List Operation) (o : Operation) → l ≡ front ++ (o ∷ back) →
        EachTaken s front →
        ((single_asked (after_singles s front) o).answer ≡ 0 → ⊥) →
        list_asked s q l ≡ refused_operations (single_asked (after_singles s front) o).answer (length front) s.cache s.disk
    -- and a refused list changes nothing, names and pictures too
    pub unchanged : ((list_asked s q l).answer ≡ 0 → ⊥) → after_list s q l ≡ s

  -- ANY CALL OF A LIST

  -- each call gets the cache and disk that the last one handed back
  abbrev pub moved : State → JoinedCall → State
  moved s (step n q o) = after_step s n q o
  moved s choose = after_choice s
  moved s (operations q l) = after_list s q l

  abbrev pub AnsweredAs : State → JoinedCall → Type 0
  AnsweredAs s (step n q o) = StepAnswered s n q o
  AnsweredAs s choose = ChoiceAnswered s
  AnsweredAs s (operations q l) = ListAnswered s q l

  abbrev pub start_named : State → JoinedCall → Bool
  start_named s (step n q o) = step_named s n q o
  start_named s choose = true
  start_named s (operations q l) = true

  -- ALONG A LIST

  unfoldable pub after : State → List JoinedCall → State
  after s [] = s
  after s (k ∷ ks) = after (moved s k) ks

  -- something holds of each call of a list, in the state that the call gets
  abbrev pub Every : (State → JoinedCall → Type 0) → State → List JoinedCall → Type 0
  Every P s [] = Unit {0}
  Every P s (k ∷ ks) = P s k × Every P (moved s k) ks

  abbrev pub Answered : State → List JoinedCall → Type 0
  Answered s calls = Every AnsweredAs s calls

  unfoldable pub starts_named : State → List JoinedCall → Bool
  starts_named s [] = true
  starts_named s (k ∷ ks) = start_named s k && starts_named (moved s k) ks

  -- for each named place: lost, added and altered are each 0
  abbrev pub NothingLost : State → Type 0
  NothingLost s =
      (s.pictures.first.present ≡ true → counted d s.disk.records s.pictures.first ≡ none_counted)
      × (s.pictures.second.present ≡ true → counted d s.disk.records s.pictures.second ≡ none_counted)
