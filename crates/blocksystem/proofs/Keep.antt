-- Every joined call, accepted or refused, keeps the invariant, if an accepted start is given a place then named; so it holds after any list. Assumes nothing.
use Prim.Native.Nat.{ℕ}
use mathlib.Core.Bool.{false, true}
use mathlib.Core.List.{List, [], ◌∷◌}
use mathlib.Core.Option.{some}
use mathlib.Core.Path.{◌∙◌, ◌≡◌, refl, subst, sym}
use borrow.Author.Tests.{eqb-true}
use Rattle.base.proofs.Tests.{and_iff, clash, split}
use Rattle.base.specs.Refusals.{answer}
use Rattle.blockcache.proofs.Demand2.{store_allowed}
use Rattle.blockcache.proofs.Kept.{cache_form_kept, inv_kept}
use Rattle.blockcache.proofs.LetGo.{no_op_unawaited}
use Rattle.blockcache.proofs.Numbers.{call_accepted_iff, step_of_number}
use Rattle.blockcache.specs.Abstract.{cache_vars, call_op}
use Rattle.blockcache.specs.LetGo.{StoreStep}
use Rattle.blockcache.specs.Operations.{operation_call, operation_number}
use Rattle.blockcache.specs.Ops.{vop_loc}
use Rattle.blockcache.specs.Step.{cache_next, cache_rows}
use Rattle.blockcache.specs.Steps.{is_crash, is_start, number_of, step_of, steps}
use Rattle.blockcache.specs.declared.Call.{Call}
use Rattle.blockcache.specs.declared.Operation.{Operation}
use Rattle.blockdisk.proofs.Crashing.{crash_form_kept}
use Rattle.blockdisk.proofs.Demand2.{disk_allowed}
use Rattle.blockdisk.proofs.Kept.{disk_form_kept}
use Rattle.blockdisk.proofs.Moves.{disk_moves, next_vars}
use Rattle.blockdisk.specs.Crash.{crashed, crash_rows}
use Rattle.blockdisk.specs.Ops.{disk_rows, next_disk}
use Rattle.blockdisk.specs.Records.{empty_records}
use Rattle.blockdisk.specs.Upstream.{disk_vars, dop_of, Next}
use Rattle.blockdisk.specs.declared.Records.{Records}
use Rattle.blocksystem.proofs.After.{step_named_iff}
use Rattle.blocksystem.proofs.Accepting.{crash_answer, crash_next, disk_answer, disk_next, joined_cache, joined_disk, joined_zero, survives}
use Rattle.blocksystem.proofs.Choosing.{choice_keeps_form, choice_keeps_vars}
use Rattle.blocksystem.proofs.EveryStep.{number_form, step_kept}
use Rattle.blocksystem.proofs.Invariant.{Invariant, picture_maps}
use Rattle.blocksystem.proofs.KeepQueues.{keep_crash}
use Rattle.blocksystem.proofs.Operations.{list_keeps, no_start}
use Rattle.blocksystem.specs.Joined.{disk_asked, disk_call, joined, joined_answer, settings_of}
use Rattle.blocksystem.specs.Names.{is_named, pictures_after}
use Rattle.blocksystem.specs.Run.{accepts_step, after, after_choice, after_single, after_step, choose, Every, JoinedCall, moved}
use Rattle.blocksystem.specs.Run.{operations, start_named, starts_named, State, step, step_named}

-- AN ACCEPTED STEP

module _ (d : ℕ) (q : Call) (o : Records) (s : State) (v : Invariant d s) where
  abbrev next_state : ℕ → State
  next_state n =
      record { cache = cache_next d s.cache n q; disk = (disk_asked d n q o s.disk).disk; pictures = pictures_after n q s.pictures }

  abbrev Accepted : ℕ → Type 0
  Accepted n = joined_answer d n q o s.cache s.disk ≡ 0

  -- an accepted start is given a place then named
  abbrev Named : ℕ → Type 0
  Named n = is_start n ≡ true → is_named s.pictures (vop_loc q.vop) ≡ true

  crash_keeps : Accepted 18 → Invariant d (next_state 18)
  unfolding pictures_after step_of steps
  crash_keeps e =
      let z = (joined_zero d 18 q o s.cache s.disk).0 e in
      let a : answer (crash_rows d s.disk o) ≡ 0 = sym (crash_answer d 18 q o s.disk refl) ∙ z.1 in
      let after : (disk_asked d 18 q o s.disk).disk ≡ crashed s.disk o = crash_next d 18 q o s.disk refl a in
      record {
        made_device = v.made_device;
        cache_form_lem = cache_form_kept (settings_of d s.disk) s.cache 18 q z.0;
        disk_form_lem = rw after (crash_form_kept d s.disk o a);
        pictures_form = v.pictures_form;
        first_named = v.first_named;
        whole = rw after
            (keep_crash d (cache_vars s.cache) (disk_vars d s.disk) (disk_vars d (crashed s.disk o)) (picture_maps s.pictures) v.whole
            (survives d s.disk o a));
      }

  step_keeps : (n : ℕ) → is_crash n ≡ false → Named n → Accepted n → Invariant d (next_state n)
  unfolding pictures_after
  step_keeps n ne named e =
      let z = (joined_zero d n q o s.cache s.disk).0 e in
      let c = disk_call n q in
      let a : answer (disk_rows d s.disk c) ≡ 0 = sym (disk_answer d n q o s.disk ne) ∙ z.1 in
      let after = disk_next d n q o s.disk ne a in
      let x = (call_accepted_iff (settings_of d s.disk) s.cache n q).0 z.0 in
      let is = step_of_number n x.step x.is in
      let next = next_disk d s.disk c.op q.node q.table in
      let to = store_allowed (settings_of d s.disk) s.cache n q z.0 in
      let same : some x.step ≡ some to.0 = sym x.is ∙ to.1 in
      let one : to.0 ≡ x.step = cc in
      let s' = cache_vars (cache_next d s.cache n q) in
      let inv = inv_kept (settings_of d s.disk) s.cache n q v.whole.inv z.0 in
      let r = step_kept d q (cache_vars s.cache) s' (disk_vars d s.disk)
      (disk_vars d next) s.pictures v.whole v.pictures_form v.first_named inv x.form.call.reference
      x.step (subst (λ m. is_crash m ≡ false) is ne)
      (record {
        cache = subst (λ y. StoreStep d (cache_vars s.cache) s' (call_op q) q.vop q.reference q.node y) one to.2;
        disk = subst (λ m. Next (disk_vars d s.disk) (disk_vars d next) (dop_of (disk_call m q))) is (disk_allowed d s.disk c a);
        move = subst (λ m. disk_vars d next ≡ next_vars (disk_vars d s.disk) (dop_of (disk_call m q))) is (disk_moves d s.disk c a);
        unawaited = λ t.
            let k : n ≡ 14 = is ∙ eqb-true (number_of x.step) 14 t in
            no_op_unawaited (settings_of d s.disk) s.cache q
            (subst (λ m. answer (cache_rows (settings_of d s.disk) s.cache m q) ≡ 0) k z.0);
        start = subst (λ m. Named m) is named;
      }) in
      record {
        made_device = v.made_device;
        cache_form_lem = cache_form_kept (settings_of d s.disk) s.cache n q z.0;
        disk_form_lem = rw after (disk_form_kept d s.disk c a);
        pictures_form = number_form s.pictures v.pictures_form q x.form.call.reference x.form.call.node n;
        first_named = rw x.is r.named;
        whole = rw (after, x.is) (rw x.is at r.whole);
      }

  accepted_keeps : (n : ℕ) → Named n → Accepted n → Invariant d (next_state n)
  accepted_keeps n named e =
      split (is_crash n) (λ t. let h : n ≡ 18 = eqb-true n 18 t in rw h (crash_keeps (rw h at e))) (λ t. step_keeps n t named e)

-- ANY STEP

module _ (d : ℕ) (s : State) (n : ℕ) (q : Call) (o : Records) (v : Invariant d s) (named : step_named d s n q o ≡ true) where
  when_accepted : accepts_step d s n q o ≡ true → Invariant d (after_step d s n q o)
  unfolding joined
  when_accepted t =
      let e : joined_answer d n q o s.cache s.disk ≡ 0 = eqb-true _ _ t in
      let c = joined_cache d n q o s.cache s.disk e in
      let y = joined_disk d n q o s.cache s.disk e in
      let at : (is_start n ≡ true → is_named s.pictures (vop_loc q.vop) ≡ true) =
      (step_named_iff d s n q o).0 named t in
      rw (c, y, t) (accepted_keeps d q o s v n at e)

  when_refused : accepts_step d s n q o ≡ false → Invariant d (after_step d s n q o)
  unfolding joined
  when_refused t = rw t v

  step_call_keeps : Invariant d (after_step d s n q o)
  step_call_keeps = split (accepts_step d s n q o) when_accepted when_refused

-- THE CHOOSER'S CALL: upstream's variables don't see the block given last

choice_keeps : (d : ℕ) (s : State) → Invariant d s → Invariant d (after_choice d s)
choice_keeps d s v =
    record {
      made_device = v.made_device;
      cache_form_lem = choice_keeps_form d s.cache s.disk v.cache_form_lem;
      disk_form_lem = v.disk_form_lem;
      pictures_form = v.pictures_form;
      first_named = v.first_named;
      whole = rw (choice_keeps_vars d s.cache s.disk) v.whole;
    }

-- A LIST OF OPERATIONS: its single calls are no starts

single_keeps : (d : ℕ) (s : State) (o : Operation) → Invariant d s → Invariant d (after_single d s o)
single_keeps d s o v =
    let n = operation_number o in
    let q = operation_call o in
    step_call_keeps d s n q empty_records v ((step_named_iff d s n q empty_records).1 (λ t start. clash start (no_start o)))

-- ANY CALL

pub call_keeps : (d : ℕ) (s : State) (k : JoinedCall) → Invariant d s → start_named d s k ≡ true → Invariant d (moved d s k)
call_keeps d s (step n q o) v named = step_call_keeps d s n q o v named
call_keeps d s choose v named = choice_keeps d s v
call_keeps d s (operations q l) v named = list_keeps d s q l (Invariant d) (single_keeps d) v

-- ANY LIST

-- after its first call, the rest of a list finds what the list found
pub first_keeps : (d : ℕ) (s : State) (k : JoinedCall) (ks : List JoinedCall) → Invariant d s → starts_named d s (k ∷ ks) ≡ true →
    Invariant d (moved d s k) × (starts_named d (moved d s k) ks ≡ true)
unfolding starts_named
first_keeps d s k ks v n = let h = (and_iff (start_named d s k) (starts_named d (moved d s k) ks)).0 n in (call_keeps d s k v h.0, h.1)

pub run_keeps : (d : ℕ) (calls : List JoinedCall) (s : State) → Invariant d s → starts_named d s calls ≡ true →
    Invariant d (after d s calls)
unfolding after
run_keeps d [] s v n = v
run_keeps d (k ∷ ks) s v n = let rest = first_keeps d s k ks v n in run_keeps d ks (moved d s k) rest.0 rest.1

-- what holds of a call wherever the invariant does holds of each call of a list
pub run_every : (d : ℕ) (P : State → JoinedCall → Type 0) → ((s : State) (k : JoinedCall) → Invariant d s → P s k) →
    (calls : List JoinedCall) (s : State) → Invariant d s → starts_named d s calls ≡ true → Every d P s calls
run_every d P h [] s v n = tt
run_every d P h (k ∷ ks) s v n = let rest = first_keeps d s k ks v n in (h s k v, run_every d P h ks (moved d s k) rest.0 rest.1)
