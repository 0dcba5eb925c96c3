-- The code's walk over a list of operations is the list's outcome. Assumes nothing.
use Prim.Native.Nat.{◌+◌, ◌≤◌, suc, zero, ℕ}
use mathlib.Core.Bool.{◌&&◌, cond, false, true}
use mathlib.Core.List.{List, [], ◌∷◌}
use mathlib.Core.Logic.{◌↔◌}
use mathlib.Core.Path.{◌∙◌, ◌≡◌, ap, refl, sym}
use native.Mathlib.Numerals.{add-one}
use native.Mathlib.Omega.{arith}
use borrow.Author.Tests.{eq-eqb, eqb-false, eqb-true, le-ltb, ltb-false}
use lib.Dec.{eqb, ltb}
use lib.ListN.{drop, get_or, length}
use lib.Seq.{drop-cons, drop-length}
use Rattle.base.proofs.Refusals.{accepted_iff, answer_append}
use Rattle.base.proofs.Tests.{and_left, split}
use Rattle.base.specs.Refusals.{◌when◌, answer}
use Rattle.blockcache.proofs.Numbers.{limits_iff, rows_ascending}
use Rattle.blockcache.specs.Form.{cache_form, call_form, settings_form}
use Rattle.blockcache.specs.Next.{marks_renewed}
use Rattle.blockcache.specs.Operations.{cache_operations, ended, in_turn, kept, operation_answer, operation_next, operations_before}
use Rattle.blockcache.specs.Step.{cache_rows}
use Rattle.blockcache.specs.Walk.{advanced, begun, finished, limit, no_operation, walked}
use Rattle.blockcache.specs.declared.CacheState.{CacheState}
use Rattle.blockcache.specs.declared.Call.{Call}
use Rattle.blockcache.specs.declared.Operation.{Operation}
use Rattle.blockcache.specs.declared.OperationsOutcome.{OperationsOutcome}
use Rattle.blockcache.specs.declared.Settings.{Settings}

-- THE TURNS OF THE LOOP

pub limit_le : (n : ℕ) → limit n ≤ n
limit_le n = split (ltb 32 n) (λ t. rw t (omega arith)) (λ t. rw t (omega arith))

pub walked_none : (g : Settings) (w : OperationsOutcome) (l : List Operation) → w ≡ walked g w l 0
unfolding walked
walked_none g w l = refl

pub walked_more : (g : Settings) (w : OperationsOutcome) (l : List Operation) (i : ℕ) →
    advanced g (walked g w l i) (get_or l i no_operation) i ≡ walked g w l (i + 1)
unfolding walked
walked_more g w l i = rw add-one

-- ONE OPERATION MORE: it is taken, it fails, or the walk was refused before

module _ (g : Settings) (w : OperationsOutcome) (o : Operation) (k : ℕ) where
  advanced_taken : eqb w.answer 0 ≡ true → eqb (operation_answer g w.cache o) 0 ≡ true →
      advanced g w o k ≡ ended 0 0 (operation_next w.cache o)
  unfolding advanced
  advanced_taken t a = rw (t, a)

  advanced_failed : eqb w.answer 0 ≡ true → eqb (operation_answer g w.cache o) 0 ≡ false →
      advanced g w o k ≡ ended (operation_answer g w.cache o) k w.cache
  unfolding advanced
  advanced_failed t a = rw (t, a)

  advanced_refused : eqb w.answer 0 ≡ false → advanced g w o k ≡ w
  unfolding advanced
  advanced_refused t = rw t

-- what is left of a walk whose next operation is that of place k: nothing after a refusal
unfoldable resumed : Settings → OperationsOutcome → ℕ → List Operation → OperationsOutcome
resumed g w k os = cond (eqb w.answer 0) (in_turn g w.cache k os) w

resumed_refused : (g : Settings) (w : OperationsOutcome) (k : ℕ) (os : List Operation) → eqb w.answer 0 ≡ false → resumed g w k os ≡ w
unfolding resumed
resumed_refused g w k os t = rw t

-- the next operation is taken, and the others are left
resumed_more : (g : Settings) (w : OperationsOutcome) (k : ℕ) (o : Operation) (os : List Operation) →
    resumed g w k (o ∷ os) ≡ resumed g (advanced g w o k) (k + 1) os
unfolding resumed in_turn
resumed_more g w k o os =
    split (eqb w.answer 0)
    (λ t. split (eqb (operation_answer g w.cache o) 0)
    (λ a. rw (advanced_taken g w o k t a, t, a))
    (λ a. let e = advanced_failed g w o k t a in rw (e, t, a)))
    (λ t. let e = advanced_refused g w o k t in rw (e, t))

-- the first i operations are taken, and the others are left
walked_left : (g : Settings) (w : OperationsOutcome) (l : List Operation) (i : ℕ) → i ≤ length l →
    resumed g w 0 l ≡ resumed g (walked g w l i) i (drop i l)
unfolding walked
walked_left g w l zero h = refl
walked_left g w l (suc i) h =
    let before = walked_left g w l i (omega arith) in
    before ∙ ap (resumed g (walked g w l i) i) (drop-cons l i no_operation h)
    ∙ resumed_more g (walked g w l i) i (get_or l i no_operation) (drop (suc i) l)
    ∙ ap (λ k. resumed g (walked g w l (suc i)) k (drop (suc i) l)) (add-one i)

-- a walk that was refused stays as it is
walked_refused : (g : Settings) (w : OperationsOutcome) (l : List Operation) → eqb w.answer 0 ≡ false → (n : ℕ) → walked g w l n ≡ w
unfolding walked
walked_refused g w l f zero = refl
walked_refused g w l f (suc n) =
    let e = walked_refused g w l f n in
    advanced_refused g (walked g w l n) (get_or l n no_operation) n (ap (λ x. eqb x.answer 0) e ∙ f) ∙ e

-- WHAT IS REFUSED BEFORE ANY OPERATION: what step 20 is, then a list that is too long

module _ (g : Settings) (c : CacheState) (q : Call) where
  abbrev twenty : ℕ
  twenty = answer (cache_rows g c 20 q)

  pub before_is : (n : ℕ) → operations_before g c q n ≡ cond (eqb twenty 0) (cond (ltb 32 n) 24 0) twenty
  unfolding operations_before answer
  before_is n = answer_append (cache_rows g c 20 q) ((24 when ltb 32 n) ∷ []) (rows_ascending g c 20 q)

  -- nothing is refused exactly where step 20 is accepted and the list has at most 32
  pub before_iff : (n : ℕ) → (operations_before g c q n ≡ 0) ↔ ((twenty ≡ 0) × (n ≤ 32))
  before_iff n = (
    (λ e. let z : cond (eqb twenty 0) (cond (ltb 32 n) 24 0) twenty ≡ 0 = sym (before_is n) ∙ e in
        split (eqb twenty 0)
        (λ t. split (ltb 32 n) (λ l. absurd (let h : 24 ≡ 0 = rw (t, l) at z in omega (arith, h)))
        (λ l. (eqb-true twenty 0 t, ltb-false 32 n l)))
        (λ t. absurd (eqb-false twenty 0 t (rw t at z)))),
    (λ (e, l). before_is n ∙ rw (eq-eqb twenty 0 e, le-ltb 32 n l)),
  )

-- AFTER THE LAST OPERATION

pub kept_accepted : (d : ℕ) (c : CacheState) (w : OperationsOutcome) → eqb w.answer 0 ≡ true →
    kept d c w ≡ ended 0 0 (marks_renewed d w.cache)
unfolding kept
kept_accepted d c w t = rw t

pub kept_refused : (d : ℕ) (c : CacheState) (w : OperationsOutcome) → eqb w.answer 0 ≡ false →
    kept d c w ≡ ended w.answer w.place c
unfolding kept
kept_refused d c w t = rw t

finished_refused : (g : Settings) (c : CacheState) (w : OperationsOutcome) → eqb w.answer 0 ≡ false →
    finished g c w ≡ ended w.answer w.place c
unfolding finished
finished_refused g c w t = split (settings_form g) (λ s. rw s (kept_refused g.device c w t)) (λ s. rw s)

finished_made : (g : Settings) (c : CacheState) (w : OperationsOutcome) → settings_form g ≡ true → finished g c w ≡ kept g.device c w
unfolding finished
finished_made g c w s = rw s

-- nothing is left
resumed_none : (g : Settings) (d : ℕ) (c : CacheState) (w : OperationsOutcome) (k : ℕ) → kept d c (resumed g w k []) ≡ kept d c w
unfolding resumed in_turn
resumed_none g d c w k =
    split (eqb w.answer 0)
    (λ t. rw t (kept_accepted d c (ended 0 0 w.cache) refl ∙ sym (kept_accepted d c w t)))
    (λ t. rw t)

-- THE WALK AND THE LIST

module _ (g : Settings) (c : CacheState) (q : Call) (l : List Operation) where
  abbrev before : ℕ
  before = operations_before g c q (length l)

  abbrev w : OperationsOutcome
  w = walked g (begun g c q (length l)) l (limit (length l))

  -- refused before any operation: that number, place 0, and the cache as it was
  pub operations_refused : eqb before 0 ≡ false → cache_operations g c q l ≡ ended before 0 c
  unfolding cache_operations
  operations_refused f = rw f

  pub operations_begun : eqb before 0 ≡ true → cache_operations g c q l ≡ kept g.device c (in_turn g c 0 l)
  unfolding cache_operations
  operations_begun t = rw t

  walk_refused : eqb before 0 ≡ false → finished g c w ≡ cache_operations g c q l
  unfolding begun
  walk_refused f =
      let b = begun g c q (length l) in
      ap (finished g c) (walked_refused g b l f (limit (length l))) ∙ finished_refused g c b f ∙ sym (operations_refused f)

  walk_begun : eqb before 0 ≡ true → finished g c w ≡ cache_operations g c q l
  unfolding begun resumed
  walk_begun t =
      let b = begun g c q (length l) in
      let h = (before_iff g c q (length l)).0 (eqb-true before 0 t) in
      let made = and_left (settings_form g) (cache_form g.device c) (and_left (settings_form g && cache_form g.device c) (call_form q)
      ((limits_iff g c 20 q).0 ((accepted_iff (cache_rows g c 20 q) (rows_ascending g c 20 q)).0 h.0).0).0) in
      let all : limit (length l) ≡ length l = rw (le-ltb 32 (length l) h.1) in
      let walk = walked g b l (length l) in
      let whole : resumed g b 0 l ≡ in_turn g c 0 l = rw t in
      let left = walked_left g b l (length l) (omega arith) ∙ ap (resumed g walk (length l)) (drop-length l) in
      ap (λ k. finished g c (walked g b l k)) all ∙ finished_made g c walk made ∙ sym (resumed_none g g.device c walk (length l))
      ∙ ap (kept g.device c) (sym left ∙ whole) ∙ sym (operations_begun t)

  pub walk_is : finished g c w ≡ cache_operations g c q l
  walk_is = split (eqb before 0) walk_begun walk_refused
