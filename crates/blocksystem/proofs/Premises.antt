-- What fairness asks of a list, fixed by laws over any list, steps among its calls: what a load is, that a block stays free, that no load
-- is accepted. Assumes nothing.
use Prim.Native.Nat.{ℕ}
use mathlib.Core.Bool.{false, false≢true, true}
use mathlib.Core.List.{List, [], ◌++◌, ◌∷◌, append_assoc}
use mathlib.Core.Logic.{◌↔◌}
use mathlib.Core.Path.{◌∙◌, ◌≡◌, ap, refl, subst, sym}
use borrow.Author.Tests.{eq-eqb, eqb-true}
use Rattle.base.proofs.Tests.{and_both, and_iff, clash, split}
use Rattle.blockcache.specs.Steps.{is_load}
use Rattle.blockcache.specs.declared.Call.{Call}
use Rattle.blockdisk.specs.declared.Records.{Records}
use Rattle.blocksystem.proofs.After.{every_iff, run_cut}
use Rattle.blocksystem.specs.Fairness.{NoLoad, StaysFree, loads}
use Rattle.blocksystem.specs.Run.{Every, JoinedCall, State, accepts_step, after, asked, choose, free, moved, operations, step}

module _ (d : ℕ) where
  -- what counts as a load: an accepted step 9, and nothing else
  pub loads_iff : (s : State) (k : JoinedCall) →
      (loads d s k ≡ true) ↔ ((q : Call) × (o : Records) × (k ≡ step 9 q o) × ((asked d s 9 q o).answer ≡ 0))
  loads_iff s k = (to k, (λ (q, o, e, z). subst (λ j. loads d s j ≡ true) (sym e) (from q o z)))
    where
      from : (q : Call) (o : Records) → (asked d s 9 q o).answer ≡ 0 → loads d s (step 9 q o) ≡ true
      from q o z = and_both (eq-eqb _ _ z) refl

      to : (j : JoinedCall) → loads d s j ≡ true → (q : Call) × (o : Records) × (j ≡ step 9 q o) × ((asked d s 9 q o).answer ≡ 0)
      to (step n q o) t =
          let h = (and_iff (accepts_step d s n q o) (is_load n)).0 t in
          let e : n ≡ 9 = eqb-true n 9 h.1 in
          (q, o, ap (λ m. step m q o) e, ap (λ m. (asked d s m q o).answer) (sym e) ∙ eqb-true _ _ h.0)
      to choose t = absurd (false≢true t)
      to (operations q l) t = absurd (false≢true t)

  -- A BLOCK STAYS FREE

  -- after one call more than a list
  one_more_call : (front : List JoinedCall) (k : JoinedCall) (s : State) → after d s (front ++ (k ∷ [])) ≡ moved d (after d s front) k
  unfolding after
  one_more_call front k s = run_cut d front (k ∷ []) s

  abbrev FreeAtCuts : ℕ → State → List JoinedCall → Type 0
  FreeAtCuts b s calls = (front back : List JoinedCall) → calls ≡ front ++ back → free d (after d s front) b ≡ true

  -- before the list and after each of its calls
  abbrev EachFree : ℕ → State → List JoinedCall → Type 0
  EachFree b s calls = (free d s b ≡ true) × Every d (λ t k. free d (moved d t k) b ≡ true) s calls

  free_at_cut : (b : ℕ) (front back : List JoinedCall) (s : State) → EachFree b s (front ++ back) → free d (after d s front) b ≡ true
  unfolding after
  free_at_cut b [] back s h = h.0
  free_at_cut b (k ∷ ks) back s h = free_at_cut b ks back (moved d s k) h.1

  each_free : (b : ℕ) (s : State) (calls : List JoinedCall) → FreeAtCuts b s calls → EachFree b s calls
  unfolding after
  each_free b s calls h = (
    h [] calls refl,
    (every_iff d (λ t k. free d (moved d t k) b ≡ true) calls s).1
        (λ front back k e. let cut = e ∙ sym (append_assoc front (k ∷ []) back) in
        subst (λ t. free d t b ≡ true) (one_more_call front k s) (h (front ++ (k ∷ [])) back cut)),
  )

  -- it does exactly when, wherever the list is cut, it is free after the first part
  pub stays_free_iff : (b : ℕ) (s : State) (calls : List JoinedCall) → StaysFree d b s calls ↔ FreeAtCuts b s calls
  stays_free_iff b s calls =
      let from : (FreeAtCuts b s calls → StaysFree d b s calls) = each_free b s calls in
      ((λ h front back e. free_at_cut b front back s (subst (StaysFree d b s) e h)), from)

  pub stays_each : (b : ℕ) (s : State) (calls : List JoinedCall) → StaysFree d b s calls → EachFree b s calls
  stays_each b s calls h = each_free b s calls ((stays_free_iff b s calls).0 h)

  -- NO LOAD

  abbrev LoadsRefused : State → List JoinedCall → Type 0
  LoadsRefused s calls =
      (front back : List JoinedCall) (q : Call) (o : Records) → calls ≡ front ++ (step 9 q o ∷ back) →
      (asked d (after d s front) 9 q o).answer ≡ 0 → ⊥

  each_no_load : (s : State) (calls : List JoinedCall) → LoadsRefused s calls → Every d (λ t k. loads d t k ≡ false) s calls
  each_no_load s calls h =
      (every_iff d (λ t k. loads d t k ≡ false) calls s).1
      (λ front back k e. split (loads d (after d s front) k)
      (λ t. let (q, o, i, a) = (loads_iff (after d s front) k).0 t in absurd (h front back q o (e ∙ ap (λ j. front ++ (j ∷ back)) i) a))
      (λ t. t))

  -- none is accepted exactly when, wherever the list is cut, a step 9 right after the first part is refused
  pub no_load_iff : (s : State) (calls : List JoinedCall) → NoLoad d s calls ↔ LoadsRefused s calls
  no_load_iff s calls =
      let from : (LoadsRefused s calls → NoLoad d s calls) = each_no_load s calls in (
        (λ h front back q o e a. clash ((loads_iff (after d s front) (step 9 q o)).1 (q, o, refl, a))
            ((every_iff d (λ t k. loads d t k ≡ false) calls s).0 h front back (step 9 q o) e)),
        from,
      )

  pub loads_none : (s : State) (calls : List JoinedCall) → NoLoad d s calls → Every d (λ t k. loads d t k ≡ false) s calls
  loads_none s calls h = each_no_load s calls ((no_load_iff s calls).0 h)
