-- A list of operations on cache and disk is its single joined calls, made one by one: answer, place, cache, disk, names and pictures.
-- So what each single call keeps, the list keeps (`list_keeps`), and the theorems over a list of calls have no other case for it.
-- Assumes nothing.
use Prim.Native.Nat.{◌≤◌, ℕ}
use mathlib.Core.Bool.{◌&&◌, cond, false, true}
use mathlib.Core.List.{List, [], ◌++◌, ◌∷◌}
use mathlib.Core.Logic.{◌↔◌}
use mathlib.Core.Path.{◌∙◌, ◌≡◌, ap, refl, subst, sym}
use native.Mathlib.Omega.{arith}
use borrow.Author.Tests.{eq-eqb, eqb-false, eqb-true, ltb-false, ltb-true, ne_eqb}
use lib.Dec.{eqb, ltb}
use lib.ListN.{length}
use Rattle.base.proofs.Tests.{and_left, split}
use Rattle.blockcache.proofs.ListLaws.{list_long, list_refused, list_shut, twenty_same as cache_same}
use Rattle.blockcache.proofs.Operations.{begins_iff, one_by_one}
use Rattle.blockcache.proofs.Outcomes.{step_answer}
use Rattle.blockcache.specs.Operations.{OneByOne, cache_operations, operation_call, operation_number}
use Rattle.blockcache.specs.Operations as cache
use Rattle.blockcache.specs.Step.{cache_step}
use Rattle.blockcache.specs.Steps.{is_crash, is_load, is_start, step_of, steps}
use Rattle.blockcache.specs.declared.CacheState.{CacheState}
use Rattle.blockcache.specs.declared.Call.{Call}
use Rattle.blockcache.specs.declared.Operation.{Operation}
use Rattle.blockcache.specs.declared.Settings.{Settings}
use Rattle.blockdisk.specs.Form.{disk_form}
use Rattle.blockdisk.specs.Records.{empty_records}
use Rattle.blockdisk.specs.declared.DiskOp.TheVariants.{NoDiskOp}
use Rattle.blockdisk.specs.declared.DiskState.{DiskState}
use Rattle.blockdisk.specs.declared.Records.{Records}
use Rattle.sectortype.specs.Form.{node_form, table_form}
use Rattle.blocksystem.proofs.Accepting.{refused_unmoved}
use Rattle.blocksystem.proofs.After.{run_singles, single_calls}
use Rattle.blocksystem.proofs.IdleDisk.{Idle, idle_answer, idle_disk_lem, idle_joined, is_none, twenty_joined}
use Rattle.blocksystem.specs.Joined.{disk_asked, disk_call, joined, joined_answer, settings_of}
use Rattle.blocksystem.specs.Names.{pictures_after}
use Rattle.blocksystem.specs.Operations.{beside, idle_disk, joined_operations, joined_with, operations_pictures, refused_operations}
use Rattle.blocksystem.specs.Run.{EachTaken, ListAnswered, State, after, after_list, after_single, after_singles, after_step, asked}
use Rattle.blocksystem.specs.Run.{list_asked, list_before, operations, single_asked}

-- THE STEP OF AN OPERATION is no crash, no start and no load

pub no_crash : (o : Operation) → is_crash (operation_number o) ≡ false
no_crash o = split o.alloc (λ a. rw a) (λ a. rw a)

pub no_start : (o : Operation) → is_start (operation_number o) ≡ false
no_start o = split o.alloc (λ a. rw a) (λ a. rw a)

pub no_load_number : (o : Operation) → is_load (operation_number o) ≡ false
no_load_number o = split o.alloc (λ a. rw a) (λ a. rw a)

asks_none : (o : Operation) → (disk_call (operation_number o) (operation_call o)).op ≡ NoDiskOp
asks_none o = split o.alloc (λ a. rw a) (λ a. rw a)

-- SINGLE CALLS ON A DISK IN ITS WRITTEN FORM: the cache's, and the disk stays

module _ (d : ℕ) (s : DiskState) (f : disk_form d s ≡ true) where
  abbrev g : Settings
  g = settings_of d s

  -- a state with this cache and this disk
  record At (t : State) (c : CacheState) : Type 0 where
    cache : t.cache ≡ c
    disk : t.disk ≡ s

  module _ (c : CacheState) (o : Operation) where
    single_idle : Idle d (operation_number o) (operation_call o) empty_records c s (no_crash o) (no_start o) (asks_none o) f
    single_idle = idle_joined d (operation_number o) (operation_call o) empty_records c s (no_crash o) (no_start o) (asks_none o) f

    single_at : (t : State) → At t c → single_asked d t o ≡ joined d (operation_number o) (operation_call o) empty_records c s
    single_at t h =
        let n = operation_number o in
        let q = operation_call o in
        ap (λ x. joined d n q empty_records x t.disk) h.cache ∙ ap (λ x. joined d n q empty_records c x) h.disk

    answer_at : (t : State) → At t c → (single_asked d t o).answer ≡ (cache.single g c o).answer
    answer_at t h = ap (λ x. x.answer) (single_at t h) ∙ single_idle.answer

    after_at : (t : State) → At t c → At (after_single d t o) (cache.single g c o).cache
    after_at t h = record {
      cache = ap (λ x. x.cache) (single_at t h) ∙ single_idle.cache;
      disk = ap (λ x. x.disk) (single_at t h)
          ∙ single_idle.disk;
    }

  singles_at : (l : List Operation) (t : State) (c : CacheState) → At t c → At (after_singles d t l) (cache.after_singles g c l)
  unfolding after_singles cache.after_singles
  singles_at [] t c h = h
  singles_at (o ∷ os) t c h = singles_at os (after_single d t o) (cache.single g c o).cache (after_at c o t h)

  taken_at : (l : List Operation) (t : State) (c : CacheState) → At t c → EachTaken d t l ↔ cache.EachTaken g c l
  taken_at [] t c h = ((λ x. tt), (λ x. tt))
  taken_at (o ∷ os) t c h =
      let rest = taken_at os (after_single d t o) (cache.single g c o).cache (after_at c o t h) in
      let a = answer_at c o t h in
      ((λ (e, r). (sym a ∙ e, rest.0 r)), (λ (e, r). (a ∙ e, rest.1 r)))

-- the pictures that single calls leave are those that a list does
pub pictures_singles : (d : ℕ) (l : List Operation) (t : State) → EachTaken d t l →
    (after_singles d t l).pictures ≡ operations_pictures l t.pictures
unfolding after_singles operations_pictures
pictures_singles d [] t h = refl
pictures_singles d (o ∷ os) t (e, h) =
    pictures_singles d os (after_single d t o) h ∙ ap (operations_pictures os) (rw (eq-eqb _ _ e))

-- what each single call keeps, those of a list keep, made one by one
singles_keep : (d : ℕ) (P : State → Type 0) → ((t : State) (o : Operation) → P t → P (after_single d t o)) →
    (l : List Operation) (s : State) → P s →
    P (after_singles d s l)
unfolding after_singles
singles_keep d P keep [] s p = p
singles_keep d P keep (o ∷ os) s p = singles_keep d P keep os (after_single d s o) (keep s o p)

state_ext : {s t : State} → s.cache ≡ t.cache → s.disk ≡ t.disk → s.pictures ≡ t.pictures → s ≡ t
state_ext a b p = λ i. record { cache = a i; disk = b i; pictures = p i }

-- THE LIST

module _ (d : ℕ) (s : State) (q : Call) (l : List Operation) where
  abbrev c : CacheState
  c = s.cache

  abbrev settings : Settings
  settings = settings_of d s.disk

  abbrev idle : ℕ
  idle = (idle_disk d q s.disk).answer

  abbrev twenty : ℕ
  twenty = (cache_step settings c 20 q).answer

  abbrev joined20 : ℕ
  joined20 = (asked d s 20 q empty_records).answer

  abbrev before : ℕ
  before = list_before d s q (length l)

  -- the disk refuses: 1, at place 0; else what the cache answers
  misformed : eqb idle 0 ≡ false → list_asked d s q l ≡ refused_operations idle 0 c s.disk
  unfolding joined_operations joined_with
  misformed t = rw t

  asks_cache : eqb idle 0 ≡ true → list_asked d s q l ≡ beside (cache_operations settings c q l) s.disk
  unfolding joined_operations joined_with
  asks_cache t = rw (t, idle_disk_lem d q s.disk)

  twenty_is : eqb idle 0 ≡ true → joined20 ≡ twenty
  twenty_is t = twenty_joined d q empty_records c s.disk ∙ rw t

  twenty_misformed : eqb idle 0 ≡ false → joined20 ≡ idle
  twenty_misformed t = twenty_joined d q empty_records c s.disk ∙ rw t

  -- WHAT IS REFUSED BEFORE ANY OPERATION

  before_refused : eqb joined20 0 ≡ false → before ≡ joined20
  before_refused t = rw t

  before_open : eqb joined20 0 ≡ true → before ≡ cond (ltb 32 (length l)) 24 0
  before_open t = rw t

  pub record Open : Type 0 where
    pub idle_open : eqb idle 0 ≡ true
    pub accepted : twenty ≡ 0
    pub few : length l ≤ 32

  -- nothing is: the disk and step 20 refuse nothing, and the list has at most 32
  opens : before ≡ 0 → Open
  opens e =
      split (eqb joined20 0)
      (λ t. split (eqb idle 0)
      (λ i. split (ltb 32 (length l))
      (λ n. absurd (let h : 24 ≡ 0 = sym (before_open t ∙ rw n) ∙ e in omega (arith, h)))
      (λ n. record { idle_open = i; accepted = sym (twenty_is i) ∙ eqb-true _ _ t; few = ltb-false 32 (length l) n }))
      (λ i. absurd (eqb-false _ _ i (sym (twenty_misformed i) ∙ eqb-true _ _ t))))
      (λ t. absurd (eqb-false _ _ t (sym (before_refused t) ∙ e)))

  shuts : (before ≡ 0 → ⊥) → list_asked d s q l ≡ refused_operations before 0 c s.disk
  shuts ne =
      split (eqb idle 0)
      (λ i. split (eqb joined20 0)
      (λ t. split (ltb 32 (length l))
      (λ n. asks_cache i ∙ ap (λ w. beside w s.disk) (list_long settings c q l (sym (twenty_is i)
      ∙ eqb-true _ _ t) (ltb-true 32 (length l) n))
      ∙ ap (λ k. refused_operations k 0 c s.disk) (sym (before_open t ∙ rw n)))
      (λ n. absurd (ne (before_open t ∙ rw n))))
      (λ t. asks_cache i ∙ ap (λ w. beside w s.disk) (list_shut settings c q l (λ e. eqb-false _ _ t (twenty_is i ∙ e)))
      ∙ ap (λ k. refused_operations k 0 c s.disk) (sym (before_refused t ∙ twenty_is i))))
      (λ i. let t : eqb joined20 0 ≡ false = ap (λ n. eqb n 0) (twenty_misformed i) ∙ i in
      misformed i ∙ ap (λ k. refused_operations k 0 c s.disk) (sym (before_refused t ∙ twenty_misformed i)))

  -- PAST THAT, ONE BY ONE

  -- the disk is in its written form
  formed : eqb idle 0 ≡ true → disk_form d s.disk ≡ true
  formed i =
      split (disk_form d s.disk && node_form q.node && table_form q.table)
      (λ t. and_left (disk_form d s.disk) (node_form q.node) (and_left (disk_form d s.disk && node_form q.node) (table_form
      q.table) t))
      (λ t. absurd (let h : 1 ≡ 0 = sym (idle_answer d q s.disk ∙ rw t) ∙ eqb-true _ _ i in omega (arith, h)))

  module _ (o : Open) where
    law : OneByOne settings c q l
    law = one_by_one settings c q l (sym (step_answer settings c 20 q) ∙ o.accepted) o.few

    at_first : At d s.disk (formed o.idle_open) s c
    at_first = record { cache = refl; disk = refl }

    each_iff : (os : List Operation) → EachTaken d s os ↔ cache.EachTaken settings c os
    each_iff os = taken_at d s.disk (formed o.idle_open) os s c at_first

    accepted_iff : ((list_asked d s q l).answer ≡ 0) ↔ EachTaken d s l
    accepted_iff =
        let a = ap (λ w. w.answer) (asks_cache o.idle_open) in
        ((λ e. (each_iff l).1 (law.accepted.0 (sym a ∙ e))), (λ h. a ∙ law.accepted.1 ((each_iff l).0 h)))

    takes_all : EachTaken d s l → ((list_asked d s q l).place ≡ 0) × (after_list d s q l ≡ after_singles d s l)
    takes_all h =
        let is : list_asked d s q l ≡ beside (cache.ended 0 0 (cache.after_singles settings c l)) s.disk =
        asks_cache o.idle_open ∙ ap (λ w. beside w s.disk) (law.next ((each_iff l).0 h)) in
        let to = singles_at d s.disk (formed o.idle_open) l s c at_first in
        let pictures : (after_list d s q l).pictures ≡ (after_singles d s l).pictures = rw (eq-eqb _ _ (ap
        (λ w. w.answer) is)) (sym (pictures_singles d l s h)) in
        (ap (λ w. w.place) is, state_ext (ap (λ w. w.cache) is ∙ sym to.cache) (ap (λ w. w.disk) is ∙ sym to.disk) pictures)

    first_fails : (front back : List Operation) (p : Operation) → l ≡ front ++ (p ∷ back) → EachTaken d s front →
        ((single_asked d (after_singles d s front) p).answer ≡ 0 → ⊥) →
        list_asked d s q l ≡ refused_operations (single_asked d (after_singles d s front) p).answer (length front) c s.disk
    first_fails front back p cut h ne =
        let to = singles_at d s.disk (formed o.idle_open) front s c at_first in
        let a = answer_at d s.disk (formed o.idle_open) (cache.after_singles settings c front) p (after_singles d s front) to in
        asks_cache o.idle_open ∙ ap (λ w. beside w s.disk) (law.failed front back p cut ((each_iff front).0 h) (λ e. ne (a ∙ e)))
        ∙ ap (λ n. refused_operations n (length front) c s.disk) (sym a)

  -- the disk stays as it is, whatever the answer
  pub list_disk : (list_asked d s q l).disk ≡ s.disk
  list_disk = split (eqb idle 0) (λ i. ap (λ w. w.disk) (asks_cache i)) (λ i. ap (λ w. w.disk) (misformed i))

  -- THE LAW

  begins : (list_asked d s q l).answer ≡ 0 → before ≡ 0
  begins e = split (eqb before 0) (eqb-true before 0) (λ t. let ne = eqb-false before 0 t in absurd (ne (sym (ap
      (λ w. w.answer) (shuts ne)) ∙ e)))

  same_state : ((list_asked d s q l).answer ≡ 0 → ⊥) → after_list d s q l ≡ s
  same_state ne =
      split (eqb idle 0)
      (λ i. let is = asks_cache i in
      state_ext (ap (λ w. w.cache) is ∙ list_refused settings c q l (λ e. ne (ap (λ w. w.answer) is
      ∙ e))) (ap (λ w. w.disk) is) (rw (ne_eqb _ _ ne)))
      (λ i. let is = misformed i in state_ext (ap (λ w. w.cache) is) (ap (λ w. w.disk) is) (rw (ne_eqb _ _ ne)))

  pub list_answered : ListAnswered d s q l
  list_answered =
      record {
        before = shuts;
        accepted = λ e. accepted_iff (opens e);
        next = λ e. takes_all (opens (begins e)) ((accepted_iff (opens (begins e))).0 e);
        failed = λ e. first_fails (opens e);
        unchanged = same_state;
      }

  -- along a list of calls: an accepted list of operations is the run of its single calls, a refused one changes nothing
  pub run_list : (list_asked d s q l).answer ≡ 0 → after d s (operations q l ∷ []) ≡ after d s (single_calls l)
  unfolding after
  run_list e = (list_answered.next e).1 ∙ sym (run_singles d l s)

  pub run_list_refused : ((list_asked d s q l).answer ≡ 0 → ⊥) → after d s (operations q l ∷ []) ≡ s
  unfolding after
  run_list_refused ne = list_answered.unchanged ne

  -- what each single call keeps, the list keeps
  pub list_keeps : (P : State → Type 0) → ((t : State) (o : Operation) → P t → P (after_single d t o)) → P s → P (after_list d s q l)
  list_keeps P keep p =
      split (eqb (list_asked d s q l).answer 0)
      (λ t. subst P (sym (list_answered.next (eqb-true _ _ t)).1) (singles_keep d P keep l s p))
      (λ t. subst P (sym (list_answered.unchanged (eqb-false _ _ t))) p)

-- AN EMPTY LIST is step 20 without one: it changes nothing, accepted or refused

module _ (d : ℕ) (s : State) (q : Call) (o : Records) where
  -- step 20 looks at no records
  any_records : asked d s 20 q o ≡ asked d s 20 q empty_records
  unfolding joined joined_answer disk_asked
  any_records = refl

  pub list_empty : ((list_asked d s q []).answer ≡ (asked d s 20 q o).answer) × ((list_asked d s q []).place ≡ 0)
      × (after_list d s q [] ≡ s)
  unfolding after_singles
  list_empty =
      let a = list_answered d s q [] in
      split (eqb (asked d s 20 q empty_records).answer 0)
      (λ t. let none : list_before d s q 0 ≡ 0 = rw t in
      let e = (a.accepted none).1 tt in
      (e ∙ sym (ap (λ x. x.answer) any_records ∙ eqb-true _ _ t), (a.next e).0, (a.next e).1))
      (λ t. let is : list_before d s q 0 ≡ (asked d s 20 q empty_records).answer = rw t in
      let ne : (list_before d s q 0 ≡ 0 → ⊥) = λ e. eqb-false _ _ t (sym is ∙ e) in
      let r = a.before ne in
      let answer = ap (λ w. w.answer) r in
      (answer ∙ is ∙ sym (ap (λ x. x.answer) any_records), ap (λ w. w.place) r, a.unchanged (λ e. ne (sym answer ∙ e))))

  pub twenty_same : after_step d s 20 q o ≡ s
  unfolding pictures_after step_of steps
  twenty_same =
      split (eqb (asked d s 20 q o).answer 0)
      (λ t. let z = eqb-true _ _ t in
      let open_list = opens d s q [] (rw (sym (ap (λ x. x.answer) any_records) ∙ z)) in
      let b = (begins_iff (settings_of d s.disk) s.cache q).0 (sym (step_answer (settings_of d s.disk) s.cache 20 q)
      ∙ open_list.accepted) in
      let kept = idle_joined d 20 q o s.cache s.disk refl refl (is_none q.dop b.disk) (formed d s q []
      open_list.idle_open) in
      state_ext (kept.cache ∙ cache_same (settings_of d s.disk) s.cache q) kept.disk (rw t))
      (λ t. let u = refused_unmoved d 20 q o s.cache s.disk (eqb-false _ _ t) in state_ext u.cache u.disk (rw t))
