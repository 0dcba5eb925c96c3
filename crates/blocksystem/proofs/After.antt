-- What the run of a list is: each call gets the cache and disk that the last one handed back, names and pictures move where a call is accepted, and a list
-- runs as its two parts one after the other. What it is that something holds of each call of a list. And what demand 3 asks of its list. Assumes nothing.
use Prim.Native.Nat.{ℕ}
use mathlib.Core.Bool.{◌&&◌, ◌||◌, Bool, false, false≢true, not, true}
use mathlib.Core.List.{List, [], ◌++◌, ◌∷◌}
use mathlib.Core.Logic.{◌↔◌}
use mathlib.Core.Path.{◌∙◌, ◌≡◌, ap, refl, subst}
use borrow.Author.Tests.{eq-eqb, eqb-true, ne_eqb}
use Rattle.base.proofs.Tests.{and_iff}
use Rattle.blockcache.specs.Operations.{operation_call, operation_number}
use Rattle.blockcache.specs.Ops.{vop_loc}
use Rattle.blockcache.specs.Steps.{is_start}
use Rattle.blockcache.specs.declared.Call.{Call}
use Rattle.blockcache.specs.declared.Operation.{Operation}
use Rattle.blockdisk.specs.Records.{empty_records}
use Rattle.blockdisk.specs.declared.Records.{Records}
use Rattle.blocksystem.specs.Choosing.{joined_choice}
use Rattle.blocksystem.specs.Names.{is_named, pictures_after}
use Rattle.blocksystem.specs.Operations.{joined_operations, operations_pictures}
use Rattle.blocksystem.specs.Run.{Every, JoinedCall, State, accepts_step, after, after_single, after_singles, after_step, asked, choose}
use Rattle.blocksystem.specs.Run.{moved, operations, start_named, starts_named, step, step_named}

-- THE RUN

-- the state after a step
pub record HandsOn (d : ℕ) (s : State) (n : ℕ) (q : Call) (o : Records) : Type 0 where
  pub cache : (after_step d s n q o).cache ≡ (asked d s n q o).cache
  pub disk : (after_step d s n q o).disk ≡ (asked d s n q o).disk
  pub accepted : (asked d s n q o).answer ≡ 0 → (after_step d s n q o).pictures ≡ pictures_after n q s.pictures
  pub refused : ((asked d s n q o).answer ≡ 0 → ⊥) → (after_step d s n q o).pictures ≡ s.pictures

pub hands_on : (d : ℕ) (s : State) (n : ℕ) (q : Call) (o : Records) → HandsOn d s n q o
hands_on d s n q o = record { cache = refl; disk = refl; accepted = λ e. rw (eq-eqb _ _ e); refused = λ ne. rw (ne_eqb _ _ ne) }

-- the state after the chooser's call: it changes no name and no picture, and nothing on the disk
pub record ChoiceHandsOn (d : ℕ) (s : State) : Type 0 where
  pub cache : (after d s (choose ∷ [])).cache ≡ (joined_choice d s.cache s.disk).cache
  pub disk : (after d s (choose ∷ [])).disk ≡ s.disk
  pub pictures : (after d s (choose ∷ [])).pictures ≡ s.pictures

pub choice_hands_on : (d : ℕ) (s : State) → ChoiceHandsOn d s
unfolding after
choice_hands_on d s = record { cache = refl; disk = refl; pictures = refl }

-- the state after a list of operations
pub record ListHandsOn (d : ℕ) (s : State) (q : Call) (l : List Operation) : Type 0 where
  pub cache : (after d s (operations q l ∷ [])).cache ≡ (joined_operations d q l s.cache s.disk).cache
  pub disk : (after d s (operations q l ∷ [])).disk ≡ (joined_operations d q l s.cache s.disk).disk
  pub accepted : (joined_operations d q l s.cache s.disk).answer ≡ 0 →
      (after d s (operations q l ∷ [])).pictures ≡ operations_pictures l s.pictures
  pub refused : ((joined_operations d q l s.cache s.disk).answer ≡ 0 → ⊥) → (after d s (operations q l ∷ [])).pictures ≡ s.pictures

pub list_hands_on : (d : ℕ) (s : State) (q : Call) (l : List Operation) → ListHandsOn d s q l
unfolding after
list_hands_on d s q l = record { cache = refl; disk = refl; accepted = λ e. rw (eq-eqb _ _ e); refused = λ ne. rw (ne_eqb _ _ ne) }

-- the single calls of a list of operations, as calls of a list
abbrev pub single_calls : List Operation → List JoinedCall
single_calls [] = []
single_calls (o ∷ os) = step (operation_number o) (operation_call o) empty_records ∷ single_calls os

pub run_singles : (d : ℕ) (l : List Operation) (s : State) → after d s (single_calls l) ≡ after_singles d s l
unfolding after after_singles
run_singles d [] s = refl
run_singles d (o ∷ os) s = run_singles d os (after_single d s o)

pub run_one : (d : ℕ) (s : State) (n : ℕ) (q : Call) (o : Records) → after d s (step n q o ∷ []) ≡ after_step d s n q o
unfolding after
run_one d s n q o = refl

pub run_cut : (d : ℕ) (front back : List JoinedCall) (s : State) → after d s (front ++ back) ≡ after d (after d s front) back
unfolding after
run_cut d [] back s = refl
run_cut d (k ∷ ks) back s = run_cut d ks back (moved d s k)

-- EACH CALL OF A LIST

module _ (d : ℕ) (P : State → JoinedCall → Type 0) where
  at_cut : (front back : List JoinedCall) (k : JoinedCall) (s : State) → Every d P s (front ++ (k ∷ back)) → P (after d s front) k
  unfolding after
  at_cut [] back k s h = h.0
  at_cut (j ∷ js) back k s h = at_cut js back k (moved d s j) h.1

  from_cuts : (calls : List JoinedCall) (s : State) →
      ((front back : List JoinedCall) (k : JoinedCall) → calls ≡ front ++ (k ∷ back) → P (after d s front) k) → Every d P s calls
  unfolding after
  from_cuts [] s h = tt
  from_cuts (k ∷ ks) s h = (h [] ks k refl, from_cuts ks (moved d s k) (λ front back j e. h (k ∷ front) back j (ap (λ l. k ∷ l) e)))

  -- it is so of each exactly when, wherever the list is cut, it is so of the call right after the first part, in the state after that part
  pub every_iff : (calls : List JoinedCall) (s : State) →
      Every d P s calls ↔ ((front back : List JoinedCall) (k : JoinedCall) → calls ≡ front ++ (k ∷ back) → P (after d s front) k)
  every_iff calls s = ((λ h front back k e. at_cut front back k s (subst (Every d P s) e h)), from_cuts calls s)

-- WHAT IS ASKED OF A LIST

if_then_iff : (x y a : Bool) → ((not (x && y) || a) ≡ true) ↔ (x ≡ true → y ≡ true → a ≡ true)
if_then_iff true true a = ((λ h e f. h), (λ h. h refl refl))
if_then_iff true false a = ((λ h e f. absurd (false≢true f)), (λ h. refl))
if_then_iff false y a = ((λ h e f. absurd (false≢true e)), (λ h. refl))

-- of a step: a start, if it is accepted, is given a place then named, and nothing more
pub step_named_iff : (d : ℕ) (s : State) (n : ℕ) (q : Call) (o : Records) →
    (step_named d s n q o ≡ true) ↔ (accepts_step d s n q o ≡ true → is_start n ≡ true → is_named s.pictures (vop_loc q.vop) ≡ true)
step_named_iff d s n q o = if_then_iff (accepts_step d s n q o) (is_start n) (is_named s.pictures (vop_loc q.vop))

-- of a list: wherever it is cut, a start right after the first part, if it is accepted, is given a place then named
abbrev pub EveryStartNamed : ℕ → State → List JoinedCall → Type 0
EveryStartNamed d s calls =
    (front back : List JoinedCall) (n : ℕ) (q : Call) (o : Records) → calls ≡ front ++ (step n q o ∷ back) →
    (asked d (after d s front) n q o).answer ≡ 0 → is_start n ≡ true →
    is_named (after d s front).pictures (vop_loc q.vop) ≡ true

abbrev CallNamed : ℕ → State → JoinedCall → Type 0
CallNamed d s k = start_named d s k ≡ true

each_named : (d : ℕ) (calls : List JoinedCall) (s : State) → (starts_named d s calls ≡ true) ↔ Every d (CallNamed d) s calls
unfolding starts_named
each_named d [] s = ((λ h. tt), (λ h. refl))
each_named d (k ∷ ks) s =
    let both = and_iff (start_named d s k) (starts_named d (moved d s k) ks) in
    let rest = each_named d ks (moved d s k) in ((λ h. ((both.0 h).0, rest.0 (both.0 h).1)), (λ h. both.1 (h.0, rest.1 h.1)))

-- of the two parts of a list, of the second in the state after the first
pub starts_cut : (d : ℕ) (front back : List JoinedCall) (s : State) → starts_named d s (front ++ back) ≡ true →
    (starts_named d s front ≡ true) × (starts_named d (after d s front) back ≡ true)
unfolding starts_named after
starts_cut d [] back s h = (refl, h)
starts_cut d (k ∷ ks) back s h =
    let both = (and_iff (start_named d s k) (starts_named d (moved d s k) (ks ++ back))).0 h in
    let rest = starts_cut d ks back (moved d s k) both.1 in
    ((and_iff (start_named d s k) (starts_named d (moved d s k) ks)).1 (both.0, rest.0), rest.1)

at_named : (d : ℕ) (s : State) (k : JoinedCall) →
    ((n : ℕ) (q : Call) (o : Records) → k ≡ step n q o → (asked d s n q o).answer ≡ 0 → is_start n ≡ true →
    is_named s.pictures (vop_loc q.vop) ≡ true) → CallNamed d s k
at_named d s (step n q o) h = (step_named_iff d s n q o).1 (λ t. h n q o refl (eqb-true _ _ t))
at_named d s choose h = refl
at_named d s (operations q l) h = refl

pub starts_named_iff : (d : ℕ) (s : State) (calls : List JoinedCall) → (starts_named d s calls ≡ true) ↔ EveryStartNamed d s calls
starts_named_iff d s calls =
    let each = each_named d calls s in
    let cuts = every_iff d (CallNamed d) calls s in (
      (λ h front back n q o e a. (step_named_iff d (after d s front) n q o).0 (cuts.0 (each.0 h) front back (step n q o) e) (eq-eqb _ _ a)),
      (λ h. each.1 (cuts.1 (λ front back k e. at_named d (after d s front) k
          (λ n q o i. h front back n q o (e ∙ ap (λ j. front ++ (j ∷ back)) i))))),
    )
