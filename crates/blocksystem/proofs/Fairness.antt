-- The chooser along a list: every call keeps the cache's written form; a block that is free and stays so comes nearer with each other
-- block given, and so is among the next 128; right after a load the lowest free block is given; and right after a block is given, step 1
-- refuses its address with neither 6 nor 7. Assumes nothing.
use Prim.Native.Nat.{◌<◌, ◌≤◌, suc, zero, ℕ}
use mathlib.Core.Bool.{Bool, ◌&&◌, ◌||◌, and-false, false, false≢true, true}
use mathlib.Core.List.{List, [], ◌++◌, ◌∷◌}
use mathlib.Core.Option.{some}
use mathlib.Core.Path.{◌∙◌, ◌≡◌, ap, refl, subst, sym}
use native.Mathlib.Nat.{le_of_suc-le-suc, not-suc-le-zero}
use native.Mathlib.Omega.{arith}
use borrow.Author.Tests.{eqb-false, eqb-true}
use lib.Dec.{eqb}
use lib.ListN.{length}
use Rattle.base.proofs.Scan.{all_fails}
use Rattle.base.proofs.Tests.{and_both, and_iff, clash, not_true_iff, or_iff, split}
use Rattle.base.specs.Refusals.{answer, holds}
use Rattle.blockcache.proofs.Chooser.{choice_accepted, choice_answer, choice_given, gives_block, gives_cache, given_usable, last_stays}
use Rattle.blockcache.proofs.Chooser.{loaded_last}
use Rattle.blockcache.proofs.Forms.{cache_form_iff}
use Rattle.blockcache.proofs.Loaded.{gives_after_load}
use Rattle.blockcache.proofs.Numbers.{call_accepted_iff}
use Rattle.blockcache.proofs.Outcomes.{step_form}
use Rattle.blockcache.proofs.NextFit.{distance, distance_small, next_fit_from_end, nearer}
use Rattle.blockcache.specs.Chooser.{chooser, chooser_rows, is_free_block, marked, next_fit}
use Rattle.blockcache.specs.Form.{cache_form, is_ready}
use Rattle.blockcache.specs.Step.{cache_rows}
use Rattle.blockcache.specs.Steps.{is_load, is_read, step_of, steps}
use Rattle.blockcache.specs.Operations.{operation_call, operation_number}
use Rattle.blockcache.specs.declared.Call.{Call}
use Rattle.blockcache.specs.declared.Operation.{Operation}
use Rattle.blockdisk.proofs.Forms.{disk_form_iff}
use Rattle.blockdisk.specs.Form.{disk_form, is_rule}
use Rattle.blockdisk.specs.Records.{empty_records}
use Rattle.blockdisk.specs.declared.Records.{Records}
use Rattle.blocksystem.proofs.Accepting.{joined_cache, joined_disk_form, joined_zero}
use Rattle.blocksystem.proofs.Answering.{answered_as}
use Rattle.blocksystem.proofs.Choosing.{choice_formed, choice_is, choice_keeps_form, choice_refused, choice_zero}
use Rattle.blocksystem.proofs.Frozen.{call_keeps_rule}
use Rattle.blocksystem.proofs.Operations.{list_keeps, no_load_number}
use Rattle.blocksystem.proofs.Premises.{loads_iff, loads_none, stays_each}
use Rattle.blocksystem.specs.Joined.{joined, joined_answer, settings_of}
use Rattle.blocksystem.specs.Run.{Every, JoinedCall, State, accepts_step, after, after_choice, after_list, after_step, asked, choice}
use Rattle.blocksystem.specs.Run.{choose}
use Rattle.blocksystem.specs.Run.{conditions, disk_side, free, moved, operations, step}
use Rattle.blocksystem.specs.Fairness.{Among, Fairness, GivenUsable, LowestAfterLoad, NoLoad, StaysFree, given, given_by, loads}

-- THE WRITTEN FORM

module _ (d : ℕ) where
  abbrev pub Formed : State → Type 0
  Formed s = cache_form d s.cache ≡ true

  formed_step : (s : State) (n : ℕ) (q : Call) (o : Records) → Formed s → Formed (after_step d s n q o)
  unfolding joined
  formed_step s n q o f =
      split (eqb (joined_answer d n q o s.cache s.disk) 0)
      (λ t. rw t (step_form (settings_of d s.disk) s.cache n q f))
      (λ t. rw t f)

  formed_next : (s : State) (k : JoinedCall) → Formed s → Formed (moved d s k)
  formed_next s (step n q o) f = formed_step s n q o f
  formed_next s choose f = choice_keeps_form d s.cache s.disk f
  formed_next s (operations q l) f =
      list_keeps d s q l Formed (λ t o. formed_step t (operation_number o) (operation_call o) empty_records) f

  -- whatever the list
  pub formed_after : (calls : List JoinedCall) (s : State) → Formed s → Formed (after d s calls)
  unfolding after
  formed_after [] s f = f
  formed_after (k ∷ ks) s f = formed_after ks (moved d s k) (formed_next s k f)

  -- A STEP THAT IS NO LOAD

  abbrev last : State → ℕ
  last s = s.cache.blocks.last

  no_load_step : (s : State) (n : ℕ) (q : Call) (o : Records) → loads d s (step n q o) ≡ false → (asked d s n q o).answer ≡ 0 →
      is_load n ≡ false
  no_load_step s n q o l a =
      split (is_load n)
      (λ t. let e : n ≡ 9 = eqb-true n 9 t in
      clash ((loads_iff d s (step n q o)).1 (q, o, ap (λ m. step m q o) e, ap (λ m. (asked d s m q o).answer) (sym e) ∙ a)) l)
      (λ t. t)

  -- where it ends in Ready it began there, with the same last block
  step_last : (s : State) (n : ℕ) (q : Call) (o : Records) → loads d s (step n q o) ≡ false → is_ready (after_step d s n q o).cache ≡ true →
      (is_ready s.cache ≡ true) × (last (after_step d s n q o) ≡ last s)
  unfolding joined
  step_last s n q o l t =
      split (accepts_step d s n q o)
      (λ a. let e : joined_answer d n q o s.cache s.disk ≡ 0 = eqb-true _ _ a in
      let c = joined_cache d n q o s.cache s.disk e in
      let z = ((joined_zero d n q o s.cache s.disk).0 e).0 in
      rw c (last_stays (settings_of d s.disk) s.cache n q z (no_load_step s n q o l e) (rw c at t)))
      (λ a. rw a (rw a at t, refl))

  -- a list of operations loads nothing
  list_last : (s : State) (q : Call) (l : List Operation) → is_ready (after_list d s q l).cache ≡ true →
      (is_ready s.cache ≡ true) × (last (after_list d s q l) ≡ last s)
  list_last s q l =
      list_keeps d s q l (λ t. is_ready t.cache ≡ true → (is_ready s.cache ≡ true) × (last t ≡ last s))
      (λ t o p r. let n = operation_number o in
      let call = operation_call o in
      let none : loads d t (step n call empty_records) ≡ false = rw (no_load_number o)
      (and-false (accepts_step d t n call empty_records)) in
      let x = step_last t n call empty_records none r in
      let y = p x.0 in
      (y.0, x.1 ∙ y.1))
      (λ r. (r, refl))

  -- OUTSIDE READY NO BLOCK IS GIVEN, until a load

  accepted : (s : State) → eqb (choice d s).answer 0 ≡ true → answer (chooser_rows (settings_of d s.disk) s.cache) ≡ 0
  accepted s t = (choice_zero d s.cache s.disk (eqb-true (choice d s).answer 0 t)).1

  -- a refused choice leaves the cache as it was
  as_it_was : (s : State) → eqb (choice d s).answer 0 ≡ false → (choice d s).cache ≡ s.cache
  as_it_was s t = choice_refused d s.cache s.disk t

  refused_unready : (s : State) → is_ready s.cache ≡ false → eqb (choice d s).answer 0 ≡ false
  refused_unready s f =
      split (eqb (choice d s).answer 0) (λ t. clash (choice_accepted (settings_of d s.disk) s.cache (accepted s t)).ready f) (λ t. t)

  none_given : (s : State) (k : JoinedCall) → is_ready s.cache ≡ false → given_by d s k ≡ []
  none_given s (step n q o) f = refl
  none_given s choose f = rw (refused_unready s f)
  none_given s (operations q l) f = refl

  pub stays_unready : (s : State) (k : JoinedCall) → is_ready s.cache ≡ false → loads d s k ≡ false → is_ready (moved d s k).cache ≡ false
  stays_unready s (step n q o) f l = split (is_ready (after_step d s n q o).cache) (λ t. clash (step_last s n q o l t).0 f) (λ t. t)
  stays_unready s choose f l = rw (as_it_was s (refused_unready s f)) f
  stays_unready s (operations q os) f l = split (is_ready (after_list d s q os).cache) (λ t. clash (list_last s q os t).0 f) (λ t. t)

  unready_gives_none : (calls : List JoinedCall) (s : State) → is_ready s.cache ≡ false →
      Every d (λ t k. loads d t k ≡ false) s calls → given d s calls ≡ []
  unfolding given
  unready_gives_none [] s f l = refl
  unready_gives_none (k ∷ ks) s f l = rw (none_given s k f) (unready_gives_none ks (moved d s k) (stays_unready s k f l.0) l.1)

  -- FAIRNESS

  -- one block more in front: it is b, or b is nearer
  one_more : (b x away n : ℕ) (rest : List ℕ) → away < n → n ≤ length (x ∷ rest) → ((x ≡ b → ⊥) → distance x b < away) →
      ((m : ℕ) → distance x b < m → m ≤ length rest → Among b m rest) → Among b n (x ∷ rest)
  one_more b x away zero rest near long closer later = absurd (not-suc-le-zero near)
  one_more b x away (suc m) rest near long closer later =
      split (eqb x b)
      (λ t. (0, omega arith, ap some (eqb-true x b t)))
      (λ t. let c : distance x b < away = closer (eqb-false x b t) in
      let (k, l, e) = later m (omega arith) (le_of_suc-le-suc long) in
      (suc k, omega arith, e))

  module _ (b : ℕ) (small : b < 128) where
    abbrev Fair : List JoinedCall → Type 0
    Fair calls =
        (s : State) (n : ℕ) → Formed s → is_ready s.cache ≡ true → free d s b ≡ true →
        Every d (λ t k. free d (moved d t k) b ≡ true) s calls →
        Every d (λ t k. loads d t k ≡ false) s calls → distance (last s) b < n → n ≤ length (given d s calls) → Among b n (given d s calls)

    -- a call that gives none and leaves the last block as it was, or leaves Ready
    fair_same : (ks : List JoinedCall) → Fair ks → (s t : State) (n : ℕ) → Formed t → (is_ready t.cache ≡ true → last t ≡ last s) →
        free d t b ≡ true →
        Every d (λ t k. free d (moved d t k) b ≡ true) t ks → Every d (λ t k. loads d t k ≡ false) t ks → distance (last s) b < n →
        n ≤ length (given d t ks) →
        Among b n (given d t ks)
    fair_same ks rest s t n f same e es ls near long =
        split (is_ready t.cache)
        (λ r. rest t n f r e es ls (rw (same r) near) long)
        (λ r. let none = unready_gives_none ks t r ls in absurd (let z : n ≤ 0 = rw none at long in omega arith))

    -- a choice that gives a block
    fair_given : (ks : List JoinedCall) → Fair ks → (s : State) (n : ℕ) → Formed s → eqb (choice d s).answer 0 ≡ true → free d s b ≡ true →
        free d (after_choice d s) b ≡ true → Every d (λ t k. free d (moved d t k) b ≡ true) (after_choice d s) ks →
        Every d (λ t k. loads d t k ≡ false) (after_choice d s) ks →
        distance (last s) b < n → n ≤ length ((choice d s).block ∷ given d (after_choice d s) ks) →
        Among b n ((choice d s).block ∷ given d (after_choice d s) ks)
    fair_given ks rest s n f t e e' es ls near long =
        let g = settings_of d s.disk in
        let z = accepted s t in
        let own = choice_is d s.cache s.disk (eqb-true (choice d s).answer 0 t) in
        let x = ap (λ y. y.block) own ∙ gives_block g s.cache z in
        let c = ap (λ y. y.cache) own ∙ gives_cache g s.cache z in
        let at_most = ((cache_form_iff d s.cache).0 f).1.last.small in
        let next_last : last (after_choice d s) ≡ (choice d s).block = ap (λ y. y.blocks.last) c ∙ sym x in
        let next_ready : is_ready (after_choice d s).cache ≡ true = rw c (choice_accepted g s.cache z).ready in
        one_more b (choice d s).block (distance (last s) b) n (given d (after_choice d s) ks) near long
        (λ ne. rw x (nearer (is_free_block g s.cache) (last s) at_most b small e (λ y. ne (x ∙ y))))
        (λ m a l. rest (after_choice d s) m (formed_next s choose f) next_ready e' es ls (rw next_last a) l)

    fair : (calls : List JoinedCall) → Fair calls
    unfolding given
    fair [] s n f r e es ls near long = absurd (omega arith)
    fair (step m q o ∷ ks) s n f r e es ls near long =
        fair_same ks (fair ks) s (after_step d s m q o) n (formed_next s (step m q o) f)
        (λ t. (step_last s m q o ls.0 t).1) es.0 es.1 ls.1 near long
    fair (operations q l ∷ ks) s n f r e es ls near long =
        fair_same ks (fair ks) s (after_list d s q l) n (formed_next s (operations q l) f)
        (λ t. (list_last s q l t).1) es.0 es.1 ls.1 near long
    fair (choose ∷ ks) s n f r e es ls near long =
        split (eqb (choice d s).answer 0)
        (λ t. rw t (fair_given ks (fair ks) s n f t e es.0 es.1 ls.1 near (rw t at long)))
        (λ t. rw t (fair_same ks (fair ks) s (after_choice d s) n (formed_next s choose f)
        (λ r. ap (λ y. y.blocks.last) (as_it_was s t)) es.0 es.1 ls.1 near (rw t at long)))

  pub fairness : (calls : List JoinedCall) (s : State) → Formed s → Fairness d s calls
  fairness calls s f front back b cut small staying no_loads long =
      let t = after d s front in
      let g = formed_after front s f in
      let (e, es) = stays_each d b t back staying in
      let ls = loads_none d t back no_loads in
      split (is_ready t.cache)
      (λ r. fair b small back t 128 g r e es ls (distance_small (last t) b ((cache_form_iff d t.cache).0 g).1.last.small small) long)
      (λ r. let none = unready_gives_none back t r ls in absurd (let z : 128 ≤ 0 = rw none at long in omega arith))

  -- RIGHT AFTER A LOAD

  pub lowest_after_load : (s : State) → LowestAfterLoad d s
  unfolding joined
  lowest_after_load s q o e =
      let t = after_step d s 9 q o in
      let g = settings_of d t.disk in
      let z = ((joined_zero d 9 q o s.cache s.disk).0 e).0 in
      let c = joined_cache d 9 q o s.cache s.disk e in
      let rule : is_rule s.disk.rule ≡ true = ((call_accepted_iff (settings_of d s.disk) s.cache 9 q).0 z).form.rule in
      let kept : is_rule t.disk.rule ≡ true = rw (call_keeps_rule d s (step 9 q o)) rule in
      let a : answer (chooser_rows g t.cache) ≡ 0 = rw c (gives_after_load d s.disk.rule s.cache q z t.disk.rule kept) in
      let l : last t ≡ 127 = ap (λ c. c.blocks.last) c ∙ loaded_last d s.cache q in
      let formed = joined_disk_form d 9 q o s.cache s.disk e in
      let own : choice d t ≡ chooser g t.cache = choice_formed d t.cache t.disk formed in
      rw own (
        choice_answer g t.cache ∙ a,
        gives_block g t.cache a ∙ ap (next_fit (is_free_block g t.cache)) l
            ∙ next_fit_from_end (is_free_block g t.cache) (choice_accepted g t.cache a).free,
      )

  -- RIGHT AFTER A BLOCK IS GIVEN

  -- a number whose condition doesn't hold is not answered
  not_answered : (s : State) (n : ℕ) (q : Call) (o : Records) (k : ℕ) → 0 < k → conditions d s n q o k ≡ false →
      (asked d s n q o).answer ≡ k → ⊥
  not_answered s n q o k above c is =
      let a = (asked d s n q o).answer in
      clash (subst (λ m. conditions d s n q o m ≡ true) is ((answered_as d s (step n q o)).refused (λ (z : a ≡ 0). omega arith))) c

  pub block_usable : (s : State) → GivenUsable d s
  unfolding conditions step_of steps
  block_usable s e q o id len op positive most =
      let g = settings_of d s.disk in
      let t = after_choice d s in
      let own = choice_is d s.cache s.disk e in
      let u = rw (← own) at (given_usable g s.cache q id len (choice_zero d s.cache s.disk e).1 (rw own at op) positive most) in
      let rows = cache_rows g t.cache 1 q in
      let disk = disk_side d t 1 q o in
      let six : holds 6 disk ≡ false = rw op refl in
      let seven : holds 7 disk ≡ false = rw op refl in (
        not_answered t 1 q o 6 (omega arith)
            ((or_iff (holds 6 rows || holds 6 disk) _).1 ((or_iff (holds 6 rows) (holds 6 disk)).1 (u.0, six), refl)),
        not_answered t 1 q o 7 (omega arith)
            ((or_iff (holds 7 rows || holds 7 disk) _).1 ((or_iff (holds 7 rows) (holds 7 disk)).1 (u.1, seven), refl)),
      )

  -- THE PROMISE IN USE: chooser's calls and reads, in any order, while a block is free

  -- a call that changes neither table nor outstanding write: the chooser's, or a read, accepted or refused
  abbrev pub is_quiet : JoinedCall → Bool
  is_quiet (step n q o) = is_read n
  is_quiet choose = true
  is_quiet (operations q l) = false

  unfoldable pub all_quiet : List JoinedCall → Bool
  all_quiet [] = true
  all_quiet (k ∷ ks) = is_quiet k && all_quiet ks

  -- how many of a list are the chooser's
  unfoldable pub choices : List JoinedCall → ℕ
  choices [] = 0
  choices (step n q o ∷ ks) = choices ks
  choices (choose ∷ ks) = suc (choices ks)
  choices (operations q l ∷ ks) = choices ks

  module _ (b : ℕ) (small : b < 128) where
    -- what is asked of the state
    pub record CanChoose (s : State) : Type 0 where
      pub disk : disk_form d s.disk ≡ true
      pub form : Formed s
      pub ready : is_ready s.cache ≡ true
      pub stays : free d s b ≡ true

    -- then a block is given
    own_rows_lem : (s : State) → CanChoose s → answer (chooser_rows (settings_of d s.disk) s.cache) ≡ 0
    own_rows_lem s h =
        let g = settings_of d s.disk in
        let f = (disk_form_iff d s.disk).0 h.disk in
        choice_given g s.cache (and_both f.on f.rule) h.form h.ready
        (all_fails (marked g s.cache) 128 b small ((not_true_iff (marked g s.cache b)).0 h.stays))

    gives : (s : State) → CanChoose s → (choice d s).answer ≡ 0
    gives s h = rw (choice_formed d s.cache s.disk h.disk) (choice_answer (settings_of d s.disk) s.cache ∙ own_rows_lem s h)

    -- and it is so again, after a read too
    after_choice_lem : (s : State) → CanChoose s → CanChoose (after_choice d s)
    after_choice_lem s h =
        let own = choice_formed d s.cache s.disk h.disk in
        let c = ap (λ x. x.cache) own ∙ gives_cache (settings_of d s.disk) s.cache (own_rows_lem s h) in
        record { disk = h.disk; form = formed_next s choose h.form; ready = rw c h.ready; stays = rw c h.stays }

    after_read : (s : State) (q : Call) (o : Records) → CanChoose s → CanChoose (after_step d s 17 q o)
    unfolding joined step_of steps
    after_read s q o h =
        split (accepts_step d s 17 q o)
        (λ t. let e : joined_answer d 17 q o s.cache s.disk ≡ 0 = eqb-true _ _ t in
        let c = joined_cache d 17 q o s.cache s.disk e in
        record {
          disk = joined_disk_form d 17 q o s.cache s.disk e;
          form = formed_next s (step 17 q o) h.form;
          ready = rw c h.ready;
          stays = rw c h.stays;
        })
        (λ t. rw t h)

    again : (s : State) (k : JoinedCall) → is_quiet k ≡ true → CanChoose s → CanChoose (moved d s k)
    again s (step n q o) e h = let r : n ≡ 17 = eqb-true n 17 e in rw r (after_read s q o h)
    again s choose e h = after_choice_lem s h
    again s (operations q l) e h = absurd (false≢true e)

    no_load_one : (s : State) (k : JoinedCall) → is_quiet k ≡ true → loads d s k ≡ false
    no_load_one s (step n q o) e = let r : n ≡ 17 = eqb-true n 17 e in rw r (and-false (accepts_step d s 17 q o))
    no_load_one s choose e = refl
    no_load_one s (operations q l) e = refl

    -- each chooser's call gives one, the block stays free, and no load is accepted
    all_given : (calls : List JoinedCall) (s : State) → all_quiet calls ≡ true → CanChoose s → length (given d s calls) ≡ choices calls
    unfolding given all_quiet choices
    all_given [] s q h = refl
    all_given (step n x o ∷ ks) s q h =
        let e = (and_iff (is_read n) (all_quiet ks)).0 q in
        all_given ks (after_step d s n x o) e.1 (again s (step n x o) e.0 h)
    all_given (operations x l ∷ ks) s q h = absurd (false≢true q)
    all_given (choose ∷ ks) s q h = rw (gives s h) (ap suc (all_given ks (after_choice d s) q (after_choice_lem s h)))

    free_throughout : (calls : List JoinedCall) (s : State) → all_quiet calls ≡ true → CanChoose s → StaysFree d b s calls
    unfolding all_quiet
    free_throughout [] s q h = (h.stays, tt)
    free_throughout (k ∷ ks) s q h =
        let e = (and_iff (is_quiet k) (all_quiet ks)).0 q in
        let rest = free_throughout ks (moved d s k) e.1 (again s k e.0 h) in
        (h.stays, (rest.0, rest.1))

    no_load : (calls : List JoinedCall) (s : State) → all_quiet calls ≡ true → NoLoad d s calls
    unfolding all_quiet
    no_load [] s q = tt
    no_load (k ∷ ks) s q = let e = (and_iff (is_quiet k) (all_quiet ks)).0 q in (no_load_one s k e.0, no_load ks (moved d s k) e.1)

    -- 128 chooser's calls give it, wherever they stand and whatever reads stand between them
    pub given_in_time : (s : State) (front back : List JoinedCall) → Fairness d s (front ++ back) → CanChoose (after d s front) →
        all_quiet back ≡ true → 128 ≤ choices back →
        Among b 128 (given d (after d s front) back)
    given_in_time s front back fair h q enough =
        let t = after d s front in
        fair front back b refl small (free_throughout back t q h) (no_load back t q) (let e = all_given back t q h in omega arith)
