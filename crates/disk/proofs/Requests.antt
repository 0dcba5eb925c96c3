-- What a request and an answer do to their queue, as the rows of the operation. Assumes nothing.
use mathlib.Core.Bool.{Bool}
use mathlib.Core.Path.{◌≡◌, refl, ap, sym, ◌∙◌}
use Prim.Native.Nat.{ℕ}
use lib.Dec.{leb}
use Rattle.std.specs.Prelude.{Result, Ok, Err}
use Rattle.base.specs.Refusals.{answer}
use Rattle.base.proofs.Tests.{split}
use Rattle.blockdisk.specs.Ops.{answer_outcome, answer_rows, outcome, refusal_number, request_of, request_outcome, request_rows, settled_outcome}
use Rattle.blockdisk.specs.declared.DiskOutcome.{DiskOutcome}
use Rattle.blockdisk.specs.declared.DiskRefusal.{DiskRefusal}
use Rattle.blockdisk.specs.declared.DiskState.{DiskState}
use Rattle.disklayout.specs.declared.Location.{Location}
use Rattle.queue.specs.Queue.{has_of, insert_of, remove_of}
use Rattle.queue.specs.declared.Requests.{Requests}

-- the outcome of an operation whose queue is asked for first: f is the next disk, told by the queue
abbrev pub after_queue : Result Requests DiskRefusal → (Requests → DiskState) → DiskState → DiskOutcome
after_queue (Ok q) f old = record { answer = 0; disk = f q }
after_queue (Err e) f old = record { answer = refusal_number e; disk = old }

pub asked : (q : Requests) (id : ℕ) (l : Location) (allowed : Bool) (f : Requests → DiskState) (old : DiskState) →
    after_queue (request_outcome q id l allowed) f old ≡ outcome (request_rows q id allowed) (f (insert_of q (request_of id l))) old
unfolding answer
asked q id l allowed f old =
    split (has_of q id) (λ h. rw h refl) (λ h. split allowed
    (λ a. split (leb 16 q.count) (λ b. rw (h, a, b) refl) (λ b. rw (h, a, b) refl)) (λ a. rw (h, a) refl))

pub answered : (q : Requests) (id : ℕ) (wrong : Bool) (f : Requests → DiskState) (old : DiskState) →
    after_queue (answer_outcome q id wrong) f old ≡ outcome (answer_rows q id wrong) (f (remove_of q id)) old
unfolding answer
answered q id wrong f old =
    split (has_of q id) (λ h. split wrong (λ w. rw (h, w) refl) (λ w. rw (h, w) refl)) (λ h. rw h refl)

-- refused: its number, and the disk as it was, whatever would have been next
pub asked_no : {r : Result DiskState DiskRefusal} {e : DiskRefusal} {b : Bool} (q : Requests) (id : ℕ) (l : Location) (allowed : Bool)
    (next old : DiskState) → b ≡ allowed → request_outcome q id l b ≡ Err e → r ≡ Err e →
    settled_outcome r old ≡ outcome (request_rows q id allowed) next old
asked_no q id l allowed next old a x h =
    let y : request_outcome q id l allowed ≡ Err _ = rw (← a) x in
    ap (λ o. settled_outcome o old) h ∙ sym (ap (λ o. after_queue o (λ p. next) old) y) ∙ asked q id l allowed (λ p. next) old

pub answered_no : {r : Result DiskState DiskRefusal} {e : DiskRefusal} {b : Bool} (q : Requests) (id : ℕ) (wrong : Bool)
    (next old : DiskState) → b ≡ wrong → answer_outcome q id b ≡ Err e → r ≡ Err e →
    settled_outcome r old ≡ outcome (answer_rows q id wrong) next old
answered_no q id wrong next old a x h =
    let y : answer_outcome q id wrong ≡ Err _ = rw (← a) x in
    ap (λ o. settled_outcome o old) h ∙ sym (ap (λ o. after_queue o (λ p. next) old) y) ∙ answered q id wrong (λ p. next) old

-- accepted: the next disk, f of the queue handed back
pub asked_yes : {p : Requests} {s : DiskState} {b : Bool} (q : Requests) (id : ℕ) (l : Location) (allowed : Bool)
    (f : Requests → DiskState) (old : DiskState) → b ≡ allowed → request_outcome q id l b ≡ Ok p → s ≡ f p →
    settled_outcome (Ok s) old ≡ outcome (request_rows q id allowed) (f (insert_of q (request_of id l))) old
asked_yes q id l allowed f old a x h =
    let y : request_outcome q id l allowed ≡ Ok _ = rw (← a) x in
    ap (λ n. settled_outcome (Ok n) old) h ∙ sym (ap (λ o. after_queue o f old) y) ∙ asked q id l allowed f old

pub answered_yes : {p : Requests} {s : DiskState} {b : Bool} (q : Requests) (id : ℕ) (wrong : Bool) (f : Requests → DiskState)
    (old : DiskState) → b ≡ wrong → answer_outcome q id b ≡ Ok p → s ≡ f p →
    settled_outcome (Ok s) old ≡ outcome (answer_rows q id wrong) (f (remove_of q id)) old
answered_yes q id wrong f old a x h =
    let y : answer_outcome q id wrong ≡ Ok _ = rw (← a) x in
    ap (λ n. settled_outcome (Ok n) old) h ∙ sym (ap (λ o. after_queue o f old) y) ∙ answered q id wrong f old
