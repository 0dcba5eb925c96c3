-- A list of operations is its single calls, made one by one: answer, place and cache. Assumes nothing.
use Prim.Native.Nat.{◌+◌, ◌≤◌, ℕ}
use mathlib.Core.Bool.{◌&&◌, Bool, cond, false, not, true}
use mathlib.Core.List.{List, [], ◌++◌, ◌∷◌}
use mathlib.Core.Logic.{◌↔◌, ◌⊎◌, inl, inr, ⊎_elim}
use mathlib.Core.Option.{some}
use mathlib.Core.Path.{◌∙◌, ◌≡◌, ap, refl, subst, sym}
use native.Mathlib.Nat.{add-zero}
use native.Mathlib.Omega.{arith}
use borrow.Author.Tests.{eq-eqb, eqb-false, eqb-true, ne_eqb}
use lib.Dec.{eqb}
use lib.ListN.{length}
use Rattle.base.proofs.Refusals.{Clear}
use Rattle.base.proofs.Tests.{and_iff, and_left, split}
use Rattle.base.specs.Refusals.{answer}
use Rattle.blockcache.proofs.EveryStep.{number_of_step}
use Rattle.blockcache.proofs.Forms.{cache_form_iff, well_formed_iff}
use Rattle.blockcache.proofs.Frames.{gate_iff}
use Rattle.blockcache.proofs.MarkLaws.{right_marks}
use Rattle.blockcache.proofs.Numbers.{call_accepted_iff, number_decides}
use Rattle.blockcache.proofs.Outcomes.{step_answer, step_form, step_taken}
use Rattle.blockcache.proofs.Walk.{before_iff, kept_accepted, kept_refused, operations_begun}
use Rattle.blockcache.specs.Form.{cache_form, call_form, is_ready, settings_form}
use Rattle.blockcache.specs.Marks.{marks_of}
use Rattle.blockcache.specs.Next.{marks_renewed, step_next, with_marks}
use Rattle.blockcache.specs.Operations.{EachTaken, OneByOne, after_singles, cache_operations, ended, in_turn, kept, operation_answer}
use Rattle.blockcache.specs.Operations.{operation_call, operation_form}
use Rattle.blockcache.specs.Operations.{operation_next, operation_number, operation_step, single}
use Rattle.blockcache.specs.Ops.{advance, is_d, is_v, no_dop}
use Rattle.blockcache.specs.Rows.{own_rows, step_rows, takes, taking}
use Rattle.blockcache.specs.Step.{cache_rows, cache_step, well_formed}
use Rattle.blockcache.specs.Steps.{Step, step_of, transaction_step}
use Rattle.blockcache.specs.declared.CacheState.{CacheState}
use Rattle.blockcache.specs.declared.Call.{Call}
use Rattle.blockcache.specs.declared.Marks.{Marks}
use Rattle.blockcache.specs.declared.Operation.{Operation}
use Rattle.blockcache.specs.declared.OperationsOutcome.{OperationsOutcome}
use Rattle.blockcache.specs.declared.Settings.{Settings}
use Rattle.sectortype.proofs.Forms.{empty_table_form}

-- A CALL WHOSE V, D AND PHASE ARE THE STEP'S: 1, then the step's own conditions

module _ (g : Settings) (c : CacheState) (q : Call) (n : ℕ) (step : Step) (e : step_of n ≡ some step)
    (t : takes c.phase q.vop q.dop step ≡ taking true true true) where
  taken_answer : (cache_step g c n q).answer ≡ cond (not (well_formed g c q)) 1 (answer (own_rows g c q step))
  unfolding answer
  taken_answer = step_answer g c n q ∙ split (well_formed g c q) (λ w. rw (w, e, t)) (λ w. rw w)

  taken_next : (cache_step g c n q).answer ≡ 0 → (cache_step g c n q).cache ≡ marks_renewed g.device (step_next c q step)
  taken_next z = step_taken g c n q (sym (step_answer g c n q) ∙ z) ∙ rw e refl

-- THE OPERATION AS A SINGLE CALL, on a Ready cache in its written form

but_one : {a b d : Bool} (c : Bool) → a ≡ true → b ≡ true → d ≡ true → (a && b && (c && d)) ≡ c
but_one true a b d = rw (a, b, d)
but_one false a b d = rw (a, b)

module _ (g : Settings) (c : CacheState) (o : Operation) (s : settings_form g ≡ true) (f : cache_form g.device c ≡ true)
    (r : is_ready c ≡ true) where
  formed : well_formed g c (operation_call o) ≡ operation_form o
  formed = but_one (operation_form o) s f empty_table_form

  abbrev n : ℕ
  n = operation_number o

  has_step : step_of n ≡ some (operation_step o)
  has_step = number_of_step (operation_step o)

  takes_it : takes c.phase (operation_call o).vop (operation_call o).dop (operation_step o) ≡ taking true true true
  takes_it = split o.alloc (λ a. rw (a, r)) (λ a. rw (a, r))

  pub single_answer : (single g c o).answer ≡ operation_answer g c o
  unfolding operation_answer answer
  single_answer = taken_answer g c (operation_call o) n (operation_step o) has_step takes_it ∙ rw formed

  pub single_next : (single g c o).answer ≡ 0 → (single g c o).cache ≡ marks_renewed g.device (operation_next c o)
  unfolding operation_next
  single_next e = taken_next g c (operation_call o) n (operation_step o) has_step takes_it e

-- no operation looks at the marks or moves them: they are made once, after the last
module _ (g : Settings) (d : ℕ) (before : CacheState) (m : Marks) where
  unread_answer : (c : CacheState) (o : Operation) → operation_answer g (with_marks c m) o ≡ operation_answer g c o
  unfolding operation_answer
  unread_answer c o = split o.alloc (λ a. rw a) (λ a. rw a)

  unread_next : (c : CacheState) (o : Operation) → operation_next (with_marks c m) o ≡ with_marks (operation_next c o) m
  unfolding operation_next
  unread_next c o = split o.alloc (λ a. rw a) (λ a. rw a)

  marks_unread : (l : List Operation) (c : CacheState) (k : ℕ) →
      kept d before (in_turn g (with_marks c m) k l) ≡ kept d before (in_turn g c k l)
  unfolding in_turn kept
  marks_unread [] c k = refl
  marks_unread (o ∷ os) c k =
      split (eqb (operation_answer g c o) 0)
      (λ t. rw (unread_answer c o, t, unread_next c o) (marks_unread os (operation_next c o) (k + 1)))
      (λ t. rw (unread_answer c o, t) (rw t refl))

-- a single call that is accepted leaves a Ready cache in its written form
module _ (g : Settings) (c : CacheState) (o : Operation) (s : settings_form g ≡ true) (f : cache_form g.device c ≡ true)
    (r : is_ready c ≡ true) where
  single_form : cache_form g.device (single g c o).cache ≡ true
  single_form = step_form g c (operation_number o) (operation_call o) f

  next_ready : is_ready (operation_next c o) ≡ true
  unfolding operation_next
  next_ready = split o.alloc (λ a. rw a r) (λ a. rw a r)

  single_ready : (single g c o).answer ≡ 0 → is_ready (single g c o).cache ≡ true
  single_ready e = subst (λ x. is_ready x ≡ true) (sym (single_next g c o s f r e)) next_ready

-- THE LIST, one operation after the other

module _ (g : Settings) (s : settings_form g ≡ true) (before : CacheState) where
  abbrev d : ℕ
  d = g.device

  abbrev ends : CacheState → ℕ → List Operation → OperationsOutcome
  ends c k l = kept d before (in_turn g c k l)

  -- an operation that would be accepted is taken, and the rest goes on from what it leaves
  goes_on : (c : CacheState) (k : ℕ) (o : Operation) (os : List Operation) → cache_form d c ≡ true → is_ready c ≡ true →
      (single g c o).answer ≡ 0 →
      ends c k (o ∷ os) ≡ ends (single g c o).cache (k + 1) os
  unfolding in_turn
  goes_on c k o os f r e =
      let a : operation_answer g c o ≡ 0 = sym (single_answer g c o s f r) ∙ e in
      let x = operation_next c o in
      let marks = marks_of d x.tables x.outstanding.writes in
      let taken : ends c k (o ∷ os) ≡ ends x (k + 1) os = rw (eq-eqb _ _ a) in
      taken ∙ sym (marks_unread g d before marks os x (k + 1)) ∙ ap (λ y. ends y (k + 1) os) (sym (single_next g c o s f r e))

  all_taken : (l : List Operation) (c : CacheState) (k : ℕ) → cache_form d c ≡ true → is_ready c ≡ true → EachTaken g c l →
      ends c k l ≡ ended 0 0 (after_singles g c l)
  unfolding after_singles in_turn
  all_taken [] c k f r h = kept_accepted d before (ended 0 0 c) refl ∙ ap (ended 0 0) (right_marks d c ((cache_form_iff d c).0 f).1.marks)
  all_taken (o ∷ os) c k f r (e, h) =
      goes_on c k o os f r e ∙ all_taken os (single g c o).cache (k + 1) (single_form g c o s f r) (single_ready g c o s f r e) h

  one_fails : (front back : List Operation) (o : Operation) (c : CacheState) (k : ℕ) → cache_form d c ≡ true → is_ready c ≡ true →
      EachTaken g c front →
      ((single g (after_singles g c front) o).answer ≡ 0 → ⊥) →
      ends c k (front ++ (o ∷ back)) ≡ ended (single g (after_singles g c front) o).answer (k + length front) before
  unfolding after_singles in_turn
  one_fails [] back o c k f r h ne =
      let a : (single g c o).answer ≡ operation_answer g c o = single_answer g c o s f r in
      let z : eqb (operation_answer g c o) 0 ≡ false = ne_eqb _ _ (λ (e : operation_answer g c o ≡ 0). ne (a ∙ e)) in
      let fails : ends c k (o ∷ back) ≡ kept d before (ended (operation_answer g c o) k c) = rw z in
      fails ∙ kept_refused d before (ended (operation_answer g c o) k c) z
      ∙ ap (λ j. ended (operation_answer g c o) j before) (sym (add-zero k))
      ∙ ap (λ n. ended n (k + 0) before) (sym a)
  one_fails (p ∷ ps) back o c k f r (e, h) ne =
      goes_on c k p (ps ++ (o ∷ back)) f r e
      ∙ one_fails ps back o (single g c p).cache (k + 1) (single_form g c p s f r) (single_ready g c p s f r e) h ne
      ∙ ap (λ n. ended (single g (after_singles g (single g c p).cache ps) o).answer n before) (omega arith)

-- WHICH OF THE TWO IT IS

-- the first single call that fails
pub record FirstFails (g : Settings) (c : CacheState) (l : List Operation) : Type 0 where
  pub front : List Operation
  pub back : List Operation
  pub operation : Operation
  pub cut : l ≡ front ++ (operation ∷ back)
  pub taken : EachTaken g c front
  pub fails : (single g (after_singles g c front) operation).answer ≡ 0 → ⊥

pub taken_or_fails : (g : Settings) (l : List Operation) (c : CacheState) → EachTaken g c l ⊎ FirstFails g c l
unfolding after_singles
taken_or_fails g [] c = inl tt
taken_or_fails g (o ∷ os) c =
    split (eqb (single g c o).answer 0)
    (λ t. let e = eqb-true _ _ t in
    ⊎_elim (λ h. inl (e, h))
    (λ (x : FirstFails g (single g c o).cache os).
    inr (record {
      front = o ∷ x.front;
      back = x.back;
      operation = x.operation;
      cut = ap
          (λ r. o ∷ r) x.cut;
      taken = (e, x.taken);
      fails = x.fails;
    }))
    (taken_or_fails g os (single g c o).cache))
    (λ t. inr (record { front = []; back = os; operation = o; cut = refl; taken = tt; fails = eqb-false _ _ t }))

-- WHAT 1 TO 4 ASK: the written forms, V AdvanceOp, no D, Ready

pub record Begins (g : Settings) (c : CacheState) (q : Call) : Type 0 where
  pub limits : well_formed g c q ≡ true
  pub version : is_v advance q.vop ≡ true
  pub disk : is_d no_dop q.dop ≡ true
  pub ready : is_ready c ≡ true

pub begins_iff : (g : Settings) (c : CacheState) (q : Call) → (answer (cache_rows g c 20 q) ≡ 0) ↔ Begins g c q
begins_iff g c q =
    let a = call_accepted_iff g c 20 q in
    let opens = gate_iff (takes c.phase q.vop q.dop transaction_step) [] in (
      (λ e. let x = a.0 e in
          let k = opens.0 (subst (λ z. Clear (step_rows g c q z)) (number_decides 20 x.step transaction_step x.is refl) x.clear) in
          record { limits = (well_formed_iff g c q).1 x.form; version = k.0.0; disk = k.0.1; ready = k.0.2 }),
      (λ b. a.1 (record {
        form = (well_formed_iff g c q).0 b.limits;
        step = transaction_step;
        is = number_of_step transaction_step;
        clear = opens.1 ((b.version, b.disk, b.ready), tt);
      })),
    )

-- THE LAW: where none of 1 to 4 holds and the list has at most 32, it is its single calls

module _ (g : Settings) (c : CacheState) (q : Call) (l : List Operation) (e : answer (cache_rows g c 20 q) ≡ 0) (few : length l ≤ 32) where
  begins : cache_operations g c q l ≡ kept g.device c (in_turn g c 0 l)
  begins = operations_begun g c q l (eq-eqb _ _ ((before_iff g c q (length l)).1 (e, few)))

  stated : (settings_form g ≡ true) × (cache_form g.device c ≡ true) × (is_ready c ≡ true)
  stated =
      let b = (begins_iff g c q).0 e in
      let h = (and_iff (settings_form g) (cache_form g.device c)).0 (and_left (settings_form g && cache_form g.device c) (call_form q)
      b.limits) in
      (h.0, h.1, b.ready)

  takes_all : EachTaken g c l → cache_operations g c q l ≡ ended 0 0 (after_singles g c l)
  takes_all h = begins ∙ all_taken g stated.0 c l c 0 stated.1 stated.2 h

  first_fails : (front back : List Operation) (o : Operation) → l ≡ front ++ (o ∷ back) → EachTaken g c front →
      ((single g (after_singles g c front) o).answer ≡ 0 → ⊥) →
      cache_operations g c q l ≡ ended (single g (after_singles g c front) o).answer (length front) c
  first_fails front back o cut h ne =
      begins ∙ ap (λ r. kept g.device c (in_turn g c 0 r)) cut ∙ one_fails g stated.0 c front back o c 0 stated.1 stated.2 h ne
      ∙ ap (λ k. ended (single g (after_singles g c front) o).answer k c) (omega arith)

  pub one_by_one : OneByOne g c q l
  one_by_one =
      record {
        accepted = (
          (λ z. ⊎_elim (λ h. h)
              (λ (x : FirstFails g c l). absurd (x.fails (ap
              (λ w. w.answer) (sym (first_fails x.front x.back x.operation x.cut x.taken x.fails)) ∙ z)))
              (taken_or_fails g l c)),
          (λ h. ap (λ w. w.answer) (takes_all h)),
        );
        next = takes_all;
        failed = first_fails;
      }
