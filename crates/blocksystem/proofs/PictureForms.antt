-- Each picture keeps its form, whatever the call and the state: an accepted call is within the limits. Assumes nothing.
use Prim.Native.Nat.{ℕ}
use mathlib.Core.List.{List, [], ◌∷◌}
use mathlib.Core.Path.{◌≡◌}
use borrow.Author.Tests.{eqb-true}
use Rattle.base.proofs.Tests.{split}
use Rattle.blockcache.proofs.Numbers.{call_accepted_iff}
use Rattle.blockcache.specs.Operations.{operation_call, operation_number}
use Rattle.blockcache.specs.declared.Call.{Call}
use Rattle.blockdisk.specs.Records.{empty_records}
use Rattle.blockdisk.specs.declared.Records.{Records}
use Rattle.blocksystem.proofs.Accepting.{joined_zero}
use Rattle.blocksystem.proofs.EveryStep.{number_form}
use Rattle.blocksystem.proofs.Invariant.{PicturesForm}
use Rattle.blocksystem.specs.Joined.{joined, joined_answer, settings_of}
use Rattle.blocksystem.proofs.Operations.{list_keeps}
use Rattle.blocksystem.specs.Run.{JoinedCall, State, accepts_step, after, after_step, choose, moved, operations, step}

step_call_form : (d : ℕ) (s : State) (n : ℕ) (q : Call) (o : Records) → PicturesForm s.pictures →
    PicturesForm (after_step d s n q o).pictures
unfolding joined
step_call_form d s n q o f =
    split (accepts_step d s n q o)
    (λ t. let e : joined_answer d n q o s.cache s.disk ≡ 0 = eqb-true _ _ t in
    let x = (call_accepted_iff (settings_of d s.disk) s.cache n q).0 ((joined_zero d n q o s.cache s.disk).0 e).0 in
    rw t (number_form s.pictures f q x.form.call.reference x.form.call.node n))
    (λ t. rw t f)

call_form_lem : (d : ℕ) (s : State) (k : JoinedCall) → PicturesForm s.pictures → PicturesForm (moved d s k).pictures
call_form_lem d s (step n q o) f = step_call_form d s n q o f
call_form_lem d s choose f = f
call_form_lem d s (operations q l) f =
    list_keeps d s q l (λ t. PicturesForm t.pictures) (λ t o. step_call_form d t (operation_number o) (operation_call o) empty_records) f

pub run_form : (d : ℕ) (calls : List JoinedCall) (s : State) → PicturesForm s.pictures → PicturesForm (after d s calls).pictures
unfolding after
run_form d [] s f = f
run_form d (k ∷ ks) s f = run_form d ks (moved d s k) (call_form_lem d s k f)
