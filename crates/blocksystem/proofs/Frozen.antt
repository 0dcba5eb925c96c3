-- Every joined call keeps the disk's rule. From the invariant, which any list keeps in which each accepted start is given a place then
-- named: under rule 2 a frozen place stays named until a clean-up or a start is accepted.
use Prim.Native.Nat.{ℕ}
use mathlib.Core.Bool.{◌||◌, false, false≢true, true}
use mathlib.Core.List.{List, [], ◌++◌, ◌∷◌}
use mathlib.Core.Logic.{◌↔◌, ◌⊎◌, inl, inr, ⊎_elim}
use mathlib.Core.Option.{some}
use mathlib.Core.Path.{◌∙◌, ◌≡◌, ap, refl, subst, sym}
use native.Mathlib.Omega.{arith}
use borrow.Author.Tests.{eq-eqb, eqb-false, eqb-true}
use lib.Dec.{eqb}
use Rattle.base.proofs.Tests.{and_both, and_false_iff, and_iff, never, or_cases, or_iff, or_inl, or_inr, split}
use Rattle.blockcache.proofs.Demand2.{cache_accepted, store_allowed}
use Rattle.blockcache.proofs.Numbers.{number_decides}
use Rattle.blockcache.specs.Abstract.{cache_vars}
use Rattle.blockcache.specs.Steps.{freeze_step, is_clean_up, is_crash, is_start, step_of, steps, write_back_indirection_table_resp_step}
use Rattle.blockcache.specs.Upstream.{Ready, ready}
use Rattle.blockcache.specs.Operations.{operation_call, operation_number}
use Rattle.blockcache.specs.declared.Call.{Call}
use Rattle.blockcache.specs.declared.Operation.{Operation}
use Rattle.blockcache.specs.declared.Settings.{Settings}
use Rattle.blockdisk.proofs.Rules.{crash_keeps_rule, step_keeps_rule}
use Rattle.blockdisk.specs.Upstream.{disk_vars}
use Rattle.blockdisk.specs.Records.{empty_records}
use Rattle.blockdisk.specs.declared.Records.{Records}
use Rattle.disklayout.specs.declared.Location.{Location}
use Rattle.blocksystem.proofs.Accepting.{joined_zero}
use Rattle.blocksystem.proofs.After.{run_cut, run_one, starts_cut}
use Rattle.blocksystem.proofs.EveryStep.{names_same}
use Rattle.blocksystem.proofs.Freezing.{accepted_form, joined_25_iff}
use Rattle.blocksystem.proofs.Invariant.{InPhase, Invariant, picture_maps}
use Rattle.blocksystem.proofs.Keep.{first_keeps, run_keeps}
use Rattle.blocksystem.proofs.Operations.{list_disk, list_keeps}
use Rattle.blocksystem.specs.Frozen.{FrozenStays, ends_frozen}
use Rattle.blocksystem.specs.Joined.{disk_asked, disk_call, joined, joined_answer, settings_of}
use Rattle.blocksystem.specs.Names.{pictures_after}
use Rattle.blocksystem.specs.Run.{accepts_step, after, after_single, after_step, asked, choose, Every, JoinedCall, moved, operations}
use Rattle.blocksystem.specs.Run.{starts_named, State, step}
use Rattle.blocksystem.specs.Upstream.{unless_writing}

-- THE RULE STAYS

module _ (d : ℕ) where
  step_keeps : (s : State) (n : ℕ) (q : Call) (o : Records) → (after_step d s n q o).disk.rule ≡ s.disk.rule
  unfolding joined disk_asked
  step_keeps s n q o =
      split (eqb (joined_answer d n q o s.cache s.disk) 0)
      (λ t. rw t (split (is_crash n) (λ x. rw x (crash_keeps_rule d s.disk o)) (λ x. rw x (step_keeps_rule d s.disk (disk_call n q)))))
      (λ t. rw t refl)

  pub call_keeps_rule : (s : State) (k : JoinedCall) → (moved d s k).disk.rule ≡ s.disk.rule
  call_keeps_rule s (step n q o) = step_keeps s n q o
  call_keeps_rule s choose = refl
  call_keeps_rule s (operations q l) = ap (λ x. x.rule) (list_disk d s q l)

  pub run_keeps_rule : (calls : List JoinedCall) (s : State) → (after d s calls).disk.rule ≡ s.disk.rule
  unfolding after
  run_keeps_rule [] s = refl
  run_keeps_rule (k ∷ ks) s = run_keeps_rule ks (moved d s k) ∙ call_keeps_rule s k

-- AN ACCEPTED STEP WHILE A FROZEN PLACE IS NAMED

module _ (d : ℕ) (s : State) (v : Invariant d s) (there : s.pictures.second.present ≡ true) (q : Call) (o : Records) where
  abbrev g : Settings
  g = settings_of d s.disk

  abbrev place : Location
  place = s.pictures.second.place

  abbrev Accepted : ℕ → Type 0
  Accepted n = joined_answer d n q o s.cache s.disk ≡ 0

  -- in Ready it is the cache's, and no table write is outstanding
  in_ready : (x : Ready) → cache_vars s.cache ≡ ready x →
      unless_writing x.outstanding_indirection_table_write x.frozen_indirection_table_loc ≡ some place
  in_ready x e =
      let r = subst (λ y. InPhase y (disk_vars d s.disk) (picture_maps s.pictures)) e v.whole.phase in
      sym r.frozen_place.place_is ∙ rw there refl

  -- so no answer to its write is accepted
  pub not_4 : Accepted 4 → ⊥
  unfolding step_of steps
  not_4 e =
      let to = store_allowed g s.cache 4 q ((joined_zero d 4 q o s.cache s.disk).0 e).0 in
      let k = rw (number_decides 4 to.0 write_back_indirection_table_resp_step to.1 refl) at to.2 in
      let on = k.2.2 in
      never (rw on.2.2.awaited at (in_ready on.0 on.1))

  -- nor, under rule 2, a Freeze: it gives 25
  not_12 : s.disk.rule ≡ 2 → Accepted 12 → ⊥
  unfolding joined step_of steps
  not_12 two e =
      let allowed = ((cache_accepted g s.cache 12 q refl).0 ((joined_zero d 12 q o s.cache s.disk).0 e).0).1 in
      let k = rw (number_decides 12 allowed.0 freeze_step allowed.1 refl) at allowed.2.1 in
      let on = k.2 in
      let l = rw on.2.2.no_table_write at (in_ready on.0 on.1) in
      let held = (joined_25_iff d s q o).1 (accepted_form d s q o e, allowed, two, (on.0, on.1, (place, l))) in
      absurd (let w : ◌≡◌ {A = ℕ} 0 25 = sym e ∙ held in omega arith)

  step_stays : (n : ℕ) → s.disk.rule ≡ 2 → Accepted n → (is_clean_up n || is_start n) ≡ false →
      (pictures_after n q s.pictures).second ≡ s.pictures.second
  step_stays n two e h =
      let b = (or_iff (is_clean_up n) (is_start n)).0 h in
      (names_same n q s.pictures (λ x. not_4 (rw x at e)) (eqb-false n 10 b.1) (λ x. not_12 two (rw x at e)) (eqb-false n 13 b.0)).1

-- ANY CALL

-- what ends a frozen name: an accepted clean-up or start, and no other call
pub ends_frozen_iff : (d : ℕ) (s : State) (k : JoinedCall) →
    (ends_frozen d s k ≡ true) ↔ ((n : ℕ) × (q : Call) × (o : Records) × (k ≡ step n q o) × ((asked d s n q o).answer ≡ 0)
    × ((n ≡ 13) ⊎ (n ≡ 10)))
ends_frozen_iff d s k = (to k, (λ (n, q, o, e, a, u). subst (λ j. ends_frozen d s j ≡ true) (sym e) (of_step n q o a u)))
  where
    to : (j : JoinedCall) → ends_frozen d s j ≡ true → (n : ℕ) × (q : Call) × (o : Records) × (j ≡ step n q o)
        × ((asked d s n q o).answer ≡ 0) × ((n ≡ 13) ⊎ (n ≡ 10))
    to (step n q o) h =
        let b = (and_iff (accepts_step d s n q o) (is_clean_up n || is_start n)).0 h in (
          n,
          q,
          o,
          refl,
          eqb-true _ _ b.0,
          ⊎_elim (λ x. inl (eqb-true n 13 x)) (λ x. inr (eqb-true n 10 x)) (or_cases (is_clean_up n) (is_start n) b.1),
        )
    to choose h = absurd (false≢true h)
    to (operations q l) h = absurd (false≢true h)

    of_step : (n : ℕ) (q : Call) (o : Records) → (asked d s n q o).answer ≡ 0 → (n ≡ 13) ⊎ (n ≡ 10) → ends_frozen d s (step n q o) ≡ true
    of_step n q o a u =
        and_both (eq-eqb _ _ a) (⊎_elim (λ x. or_inl (is_start n) (eq-eqb n 13 x)) (λ x. or_inr (is_clean_up n) (eq-eqb n 10 x)) u)

-- what the promise says of a list's last call
pub stays_one : (d : ℕ) (s : State) (front : List JoinedCall) (n : ℕ) (q : Call) (o : Records) →
    FrozenStays d s (front ++ (step n q o ∷ [])) →
    (after d s front).pictures.second.present ≡ true → ends_frozen d (after d s front) (step n q o) ≡ false →
    (after_step d (after d s front) n q o).pictures.second ≡ (after d s front).pictures.second
stays_one d s front n q o h there e =
    let cut = run_cut d front (step n q o ∷ []) s ∙ run_one d (after d s front) n q o in
    sym (ap (λ x. x.pictures.second) cut) ∙ h front (step n q o ∷ []) refl there (e, tt)

module _ (d : ℕ) where
  -- Dirty and Alloc change no name
  single_second : (s : State) (o : Operation) → (after_single d s o).pictures.second ≡ s.pictures.second
  unfolding pictures_after step_of steps
  single_second s o =
      split (accepts_step d s (operation_number o) (operation_call o) empty_records)
      (λ t. rw t (split o.alloc (λ a. rw a) (λ a. rw a)))
      (λ t. rw t)

  call_stays : (s : State) (k : JoinedCall) → Invariant d s → s.disk.rule ≡ 2 → s.pictures.second.present ≡ true →
      ends_frozen d s k ≡ false →
      (moved d s k).pictures.second ≡ s.pictures.second
  unfolding joined
  call_stays s (step n q o) v two there h =
      split (accepts_step d s n q o)
      (λ t. rw t (step_stays d s v there q o n two (eqb-true _ _ t)
      ((and_false_iff (accepts_step d s n q o) (is_clean_up n || is_start n)).0 h t)))
      (λ t. rw t refl)
  call_stays s choose v two there h = refl
  call_stays s (operations q l) v two there h =
      list_keeps d s q l (λ t. t.pictures.second ≡ s.pictures.second) (λ t o e. single_second t o ∙ e) refl

  -- ANY LIST

  run_stays : (calls : List JoinedCall) (s : State) → Invariant d s → starts_named d s calls ≡ true → s.disk.rule ≡ 2 →
      s.pictures.second.present ≡ true →
      Every d (λ t k. ends_frozen d t k ≡ false) s calls → (after d s calls).pictures.second ≡ s.pictures.second
  unfolding after
  run_stays [] s v n two there none = refl
  run_stays (k ∷ ks) s v n two there none =
      let same = call_stays s k v two there none.0 in
      let rest = first_keeps d s k ks v n in
      run_stays ks (moved d s k) rest.0 rest.1 (call_keeps_rule d s k ∙ two) (ap (λ m. m.present) same ∙ there) none.1 ∙ same

  pub frozen_stays : (calls : List JoinedCall) (s : State) → Invariant d s → starts_named d s calls ≡ true → s.disk.rule ≡ 2 →
      FrozenStays d s calls
  frozen_stays calls s v n two front back e there none =
      let cut = starts_cut d front back s (subst (λ l. starts_named d s l ≡ true) e n) in
      let f = after d s front in
      ap (λ l. (after d s l).pictures.second) e ∙ ap (λ x. x.pictures.second) (run_cut d front back s)
      ∙ run_stays back f (run_keeps d front s v cut.0) cut.1 (run_keeps_rule d front s ∙ two) there none
