-- Laws of partial maps. Assumes nothing.
use mathlib.Core.Path.{◌∙◌, ◌≡◌, fun_ext, refl, sym}
use mathlib.Core.Bool.{Bool, true, false}
use mathlib.Core.Logic.{◌⊎◌, inl, inr}
use mathlib.Core.Option.{some, none}
use Prim.Native.Nat.{ℕ}
use lib.Dec.{eqb}
use borrow.Author.Tests.{eqb-true, eqb-false, eq-eqb, ne_eqb}
use Rattle.base.specs.Maps.{Map, put, del, is_some, flagged}
use Rattle.base.proofs.Tests.{split, never, some_iff}

module _ {A : Type 0} where
  pub put_same : (m : Map A) (k : ℕ) (v : A) → put m k v k ≡ some v
  unfolding put
  put_same m k v = rw (eq-eqb k k refl)

  pub put_other : (m : Map A) (k : ℕ) (v : A) (j : ℕ) → (j ≡ k → ⊥) → put m k v j ≡ m j
  unfolding put
  put_other m k v j h = rw (ne_eqb j k h)

  pub del_same : (m : Map A) (k : ℕ) → del m k k ≡ none
  unfolding del
  del_same m k = rw (eq-eqb k k refl)

  pub del_other : (m : Map A) (k j : ℕ) → (j ≡ k → ⊥) → del m k j ≡ m j
  unfolding del
  del_other m k j h = rw (ne_eqb j k h)

  -- what a lookup that succeeds tells
  pub put_some : (m : Map A) (k : ℕ) (v : A) (j : ℕ) {l : A} → put m k v j ≡ some l → ((j ≡ k) × (v ≡ l)) ⊎ ((j ≡ k → ⊥) × (m j ≡ some l))
  unfolding put
  put_some m k v j p = split (eqb j k) (λ e. inl (eqb-true j k e, cc)) (λ e. inr (eqb-false j k e, cc))

  pub del_some : (m : Map A) (k j : ℕ) {l : A} → del m k j ≡ some l → (j ≡ k → ⊥) × (m j ≡ some l)
  unfolding del
  del_some m k j p = split (eqb j k) (λ e. never (rw e at p)) (λ e. (eqb-false j k e, cc))

  pub put_put : (m : Map A) (k : ℕ) (v w : A) → put (put m k v) k w ≡ put m k w
  unfolding put
  put_put m k v w = fun_ext (λ j. split (eqb j k) (λ e. cc) (λ e. cc))

  pub del_put : (m : Map A) (k : ℕ) (v : A) → del (put m k v) k ≡ del m k
  unfolding del put
  del_put m k v = fun_ext (λ j. split (eqb j k) (λ e. cc) (λ e. cc))

  -- a key that a map has, or lacks
  pub in_of : (m : Map A) (k : ℕ) {a : A} → m k ≡ some a → is_some (m k) ≡ true
  in_of m k e = rw e

  pub some_of : (m : Map A) (k : ℕ) → is_some (m k) ≡ true → (a : A) × (m k ≡ some a)
  some_of m k i = (some_iff (m k)).0 i

  pub not_both : {X : Type 0} (m : Map A) (k : ℕ) → is_some (m k) ≡ true → m k ≡ none → X
  not_both m k i e = never (sym e ∙ (some_of m k i).1)

  pub in_put : (m : Map A) (k : ℕ) (v : A) (j : ℕ) → is_some (m j) ≡ true → is_some (put m k v j) ≡ true
  unfolding put
  in_put m k v j i = split (eqb j k) (λ e. rw e) (λ e. rw e i)

  pub in_put_same : (m : Map A) (k : ℕ) (v : A) → is_some (put m k v k) ≡ true
  in_put_same m k v = rw (put_same m k v)

  pub put_in : (m : Map A) (k : ℕ) (v : A) (j : ℕ) → (j ≡ k → ⊥) → is_some (put m k v j) ≡ true → is_some (m j) ≡ true
  put_in m k v j ne i = rw (put_other m k v j ne) at i

  pub put_none : (m : Map A) (k : ℕ) (v : A) (j : ℕ) → put m k v j ≡ none → (j ≡ k → ⊥) × (m j ≡ none)
  unfolding put
  put_none m k v j p = split (eqb j k) (λ e. never (sym (rw e at p))) (λ e. (eqb-false j k e, rw e at p))

  pub in_del : (m : Map A) (k j : ℕ) → (j ≡ k → ⊥) → is_some (m j) ≡ true → is_some (del m k j) ≡ true
  in_del m k j ne i = rw (del_other m k j ne) i

  pub del_in : (m : Map A) (k j : ℕ) → is_some (del m k j) ≡ true → (j ≡ k → ⊥) × (is_some (m j) ≡ true)
  del_in m k j i = let h = del_some m k j (some_of (del m k) j i).1 in (h.0, in_of m j h.1)

  pub none_del : (m : Map A) (k j : ℕ) → m j ≡ none → del m k j ≡ none
  unfolding del
  none_del m k j p = split (eqb j k) (λ e. rw e) (λ e. rw e p)

  pub del_absent : (m : Map A) (k : ℕ) → m k ≡ none → del m k ≡ m
  unfolding del
  del_absent m k p = fun_ext (λ j. split (eqb j k) (λ e. let q : j ≡ k = eqb-true j k e in cc) (λ e. rw e))

  -- a map at each of whose keys two maps agree is one map
  pub map_ext : (m n : Map A) → ((k : ℕ) → m k ≡ n k) → m ≡ n
  map_ext m n h = fun_ext h

  -- a thing with a flag beside it
  pub flagged_some : (b : Bool) (a : A) {v : A} → flagged b a ≡ some v → (b ≡ true) × (a ≡ v)
  flagged_some true a e = (refl, cc)
  flagged_some false a e = never e

  pub flagged_is_some : (b : Bool) (a : A) → is_some (flagged b a) ≡ b
  flagged_is_some true a = refl
  flagged_is_some false a = refl
