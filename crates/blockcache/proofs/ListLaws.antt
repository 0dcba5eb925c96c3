-- What a list of operations keeps and what upstream says of it, and that a refused and an empty list change nothing: by the law that a
-- list is its single calls. Assumes nothing.
use Prim.Native.Nat.{◌<◌, ℕ}
use mathlib.Core.Bool.{Bool, false, true}
use mathlib.Core.List.{List, [], ◌∷◌}
use mathlib.Core.Logic.{⊎_elim}
use mathlib.Core.Option.{some}
use mathlib.Core.Path.{◌∙◌, ◌≡◌, ap, refl, subst, sym}
use native.Mathlib.Omega.{arith}
use borrow.Author.Tests.{eq-eqb, eqb-false, eqb-true, lt-ltb, ne_eqb}
use lib.Dec.{eqb}
use lib.ListN.{length}
use Rattle.base.proofs.Tests.{split}
use Rattle.base.specs.Refusals.{answer}
use Rattle.blockcache.proofs.Demand2.{cache_allowed}
use Rattle.blockcache.proofs.EveryStep.{number_of_step}
use Rattle.blockcache.proofs.Forms.{well_formed_iff}
use Rattle.blockcache.proofs.MarkLaws.{right_marks}
use Rattle.blockcache.proofs.Operations.{FirstFails, begins_iff, one_by_one, taken_or_fails}
use Rattle.blockcache.proofs.Outcomes.{step_answer, step_form, step_inv, step_refused, step_taken}
use Rattle.blockcache.proofs.Walk.{before_iff, before_is, kept_accepted, kept_refused, operations_begun, operations_refused}
use Rattle.blockcache.specs.Abstract.{cache_vars}
use Rattle.blockcache.specs.Form.{cache_form}
use Rattle.blockcache.specs.Operations.{EachTaken, OpTransaction, after_singles, cache_operations, ended, in_turn, operation_call}
use Rattle.blockcache.specs.Operations.{operation_number, operation_step, operations_before, single}
use Rattle.blockcache.specs.NextStep.{NextStep}
use Rattle.blockcache.specs.Step.{cache_next, cache_rows, cache_step}
use Rattle.blockcache.specs.Steps.{step_of, steps}
use Rattle.blockcache.specs.UpstreamInv.{Inv}
use Rattle.blockcache.specs.declared.CacheState.{CacheState}
use Rattle.blockcache.specs.declared.Call.{Call}
use Rattle.blockcache.specs.declared.Operation.{Operation}
use Rattle.blockcache.specs.declared.OperationsOutcome.{OperationsOutcome}
use Rattle.blockcache.specs.declared.Settings.{Settings}
use Rattle.blockcache.specs.declared.VersionOp.TheVariants.{AdvanceOp}
use Rattle.blockdisk.specs.Upstream.{no_disk_op}
use Rattle.blockdisk.specs.declared.DiskOp.TheVariants.{NoDiskOp}
use Rattle.sectortype.specs.Form.{empty_table}

-- what each single call keeps, those of a list keep, made one by one
singles_keep : (g : Settings) (P : CacheState → Type 0) → ((x : CacheState) (o : Operation) → P x → P (single g x o).cache) →
    (l : List Operation) (c : CacheState) → P c → P (after_singles g c l)
unfolding after_singles
singles_keep g P keep [] c p = p
singles_keep g P keep (o ∷ os) c p = singles_keep g P keep os (single g c o).cache (keep c o p)

-- REFUSED BEFORE ANY OPERATION: that number, place 0, the cache as it was

module _ (g : Settings) (c : CacheState) (q : Call) (l : List Operation) where
  abbrev twenty : ℕ
  twenty = (cache_step g c 20 q).answer

  -- 1 to 4, which are step 20's
  pub list_shut : (twenty ≡ 0 → ⊥) → cache_operations g c q l ≡ ended twenty 0 c
  list_shut ne =
      let a = step_answer g c 20 q in
      let shut : eqb (answer (cache_rows g c 20 q)) 0 ≡ false = ne_eqb _ _ (λ (e : answer (cache_rows g c 20 q) ≡ 0). ne (a ∙ e)) in
      let b : operations_before g c q (length l) ≡ answer (cache_rows g c 20 q) = before_is g c q (length l) ∙ rw shut in
      operations_refused g c q l (ap (λ n. eqb n 0) b ∙ shut) ∙ ap (λ n. ended n 0 c) (b ∙ sym a)

  -- 24 past them, where the list is longer than 32
  pub list_long : twenty ≡ 0 → 32 < length l → cache_operations g c q l ≡ ended 24 0 c
  list_long e long =
      let open_rows : eqb (answer (cache_rows g c 20 q)) 0 ≡ true = eq-eqb _ _ (sym (step_answer g c 20 q) ∙ e) in
      let b : operations_before g c q (length l) ≡ 24 = before_is g c q (length l) ∙ rw (open_rows, lt-ltb 32 (length l) long) in
      operations_refused g c q l (ap (λ n. eqb n 0) b) ∙ ap (λ n. ended n 0 c) b

  -- refused anywhere: the cache as it was
  pub list_refused : ((cache_operations g c q l).answer ≡ 0 → ⊥) → (cache_operations g c q l).cache ≡ c
  list_refused ne =
      split (eqb (operations_before g c q (length l)) 0)
      (λ t. let is = operations_begun g c q l t in
      let w = in_turn g c 0 l in
      split (eqb w.answer 0)
      (λ u. absurd (ne (ap (λ x. x.answer) (is ∙ kept_accepted g.device c w u))))
      (λ u. ap (λ x. x.cache) (is ∙ kept_refused g.device c w u)))
      (λ t. ap (λ x. x.cache) (operations_refused g c q l t))

  -- WHAT A LIST KEEPS: what each single call keeps

  pub list_keeps : (P : CacheState → Type 0) → ((x : CacheState) (o : Operation) → P x → P (single g x o).cache) → P c →
      P (cache_operations g c q l).cache
  list_keeps P keep p =
      split (eqb (operations_before g c q (length l)) 0)
      (λ t. let h = (before_iff g c q (length l)).0 (eqb-true _ _ t) in
      let law = one_by_one g c q l h.0 h.1 in
      ⊎_elim (λ taken. subst (λ (w : OperationsOutcome). P w.cache) (sym (law.next taken)) (singles_keep g P keep l c p))
      (λ (x : FirstFails g c l). subst
      (λ (w : OperationsOutcome). P w.cache) (sym (law.failed x.front x.back x.operation x.cut x.taken
      x.fails)) p)
      (taken_or_fails g l c))
      (λ t. subst (λ (w : OperationsOutcome). P w.cache) (sym (operations_refused g c q l t)) p)

  -- the written form, marks and all, and upstream's Inv
  pub list_form : cache_form g.device c ≡ true → cache_form g.device (cache_operations g c q l).cache ≡ true
  list_form f = list_keeps (λ x. cache_form g.device x ≡ true) (λ x o. step_form g x (operation_number o) (operation_call o)) f

  pub list_inv : Inv g.device (cache_vars c) → Inv g.device (cache_vars (cache_operations g c q l).cache)
  list_inv i = list_keeps (λ x. Inv g.device (cache_vars x)) (λ x o. step_inv g x (operation_number o) (operation_call o)) i

-- DEMAND 2 of an accepted list: upstream allows each of its operations in turn

single_allowed : (g : Settings) (c : CacheState) (o : Operation) → (single g c o).answer ≡ 0 →
    NextStep g.device (cache_vars c) (cache_vars (single g c o).cache) no_disk_op (AdvanceOp false) o.reference o.node
    (operation_step o)
single_allowed g c o e =
    let n = operation_number o in
    let q = operation_call o in
    let a : answer (cache_rows g c n q) ≡ 0 = sym (step_answer g c n q) ∙ e in
    let x = cache_allowed g c n q (split o.alloc (λ t. rw t) (λ t. rw t)) a in
    let same : some x.0 ≡ some (operation_step o) = sym x.1 ∙ number_of_step (operation_step o) in
    let one : x.0 ≡ operation_step o = cc in
    let is : cache_vars (cache_next g.device c n q) ≡ cache_vars (single g c o).cache = ap cache_vars (sym (step_taken g c n q a)) in
    subst (λ z. NextStep g.device (cache_vars c) z no_disk_op (AdvanceOp false) o.reference o.node (operation_step o)) is
    (subst (λ z. NextStep g.device (cache_vars c) (cache_vars (cache_next g.device c n q)) no_disk_op (AdvanceOp false) o.reference
    o.node z) one x.2)

singles_allowed : (g : Settings) (l : List Operation) (c : CacheState) → EachTaken g c l →
    OpTransaction g.device (cache_vars c) (cache_vars (after_singles g c l)) l
unfolding after_singles
singles_allowed g [] c h = refl
singles_allowed g (o ∷ os) c (e, h) = (
  cache_vars (single g c o).cache,
  single_allowed g c o e,
  singles_allowed g os (single g c o).cache h,
)

pub list_allowed : (g : Settings) (c : CacheState) (q : Call) (l : List Operation) → (cache_operations g c q l).answer ≡ 0 →
    OpTransaction g.device (cache_vars c) (cache_vars (cache_operations g c q l).cache) l
list_allowed g c q l e =
    let b : operations_before g c q (length l) ≡ 0 = split (eqb (operations_before g c q (length l)) 0) (eqb-true _ _)
    (λ t. sym (ap (λ w. w.answer) (operations_refused g c q l t)) ∙ e) in
    let h = (before_iff g c q (length l)).0 b in
    let law = one_by_one g c q l h.0 h.1 in
    let taken = law.accepted.0 e in
    subst (λ (w : OperationsOutcome). OpTransaction g.device (cache_vars c) (cache_vars w.cache) l) (sym (law.next taken))
    (singles_allowed g l c taken)

-- AN EMPTY LIST: the plain entry's step 20, which where it is accepted changes nothing

module _ (g : Settings) (c : CacheState) (q : Call) where
  pub twenty_same : (cache_step g c 20 q).cache ≡ c
  unfolding step_of steps
  twenty_same =
      split (eqb (answer (cache_rows g c 20 q)) 0)
      (λ t. let e = eqb-true _ _ t in
      let b = (begins_iff g c q).0 e in
      let f = (well_formed_iff g c q).0 b.limits in
      step_taken g c 20 q e ∙ right_marks g.device c f.blocks.marks)
      (λ t. step_refused g c 20 q (eqb-false _ _ t))

  pub list_empty : cache_operations g c q [] ≡ ended (cache_step g c 20 q).answer 0 (cache_step g c 20 q).cache
  unfolding after_singles
  list_empty =
      let a = step_answer g c 20 q in
      split (eqb (cache_step g c 20 q).answer 0)
      (λ t. let e = eqb-true _ _ t in
      (one_by_one g c q [] (sym a ∙ e) (omega arith)).next tt ∙ rw (e, twenty_same))
      (λ t. list_shut g c q [] (eqb-false _ _ t) ∙ rw twenty_same)

-- THE UIOP of a single call's AdvanceOp is not looked at

module _ (g : Settings) (c : CacheState) (o : Operation) (b : Bool) where
  abbrev with_uiop : Call
  with_uiop = record { reference = o.reference; vop = AdvanceOp b; dop = NoDiskOp; node = o.node; table = empty_table }

  pub uiop_same : cache_step g c (operation_number o) with_uiop ≡ single g c o
  unfolding cache_step step_of steps
  uiop_same = split o.alloc (λ a. rw a) (λ a. rw a)

-- WHICH STEP AN OPERATION IS: an alloc is step 16, a write step 15

pub operation_number_lem : (o : Operation) → ((o.alloc ≡ true) → operation_number o ≡ 16) × ((o.alloc ≡ false) → operation_number o ≡ 15)
operation_number_lem o = ((λ a. rw a), (λ a. rw a))
