-- A queue by ascending key as a partial map: what a lookup gives, also after an entry is put in or taken out. Assumes nothing.
use mathlib.Core.Path.{◌≡◌, refl, ap, sym, ◌∙◌, fun_ext}
use mathlib.Core.Bool.{Bool, true, false, ◌&&◌}
use mathlib.Core.List.{List}
use mathlib.Core.Logic.{◌↔◌, ◌⊎◌, inl, inr, ⊎_elim}
use mathlib.Core.Option.{Option, some, none}
use Prim.Native.Nat.{ℕ, zero, suc, ◌+◌, ◌-◌, ◌≤◌, ◌<◌}
use native.Mathlib.Omega.{arith}
use native.Mathlib.Nat.{lt_trans, not-suc-le-zero}
use native.Mathlib.Numerals.{add-one}
use lib.Dec.{ltb, eqb}
use lib.ListN.{get_or}
use borrow.Author.Tests.{ltb-true, ltb-false, lt-ltb, eqb-true, eqb-false, eq-eqb, ne_eqb}
use Rattle.base.specs.Scan.{some_below}
use Rattle.base.specs.Maps.{put, del, is_some, empty}
use Rattle.base.specs.Queue.{key_at, has_in, find_in, spot_in, insert_in, remove_in, lookup_in, queue_form}
use Rattle.base.proofs.Tests.{split, never, and_left, and_right}
use Rattle.base.proofs.Scan.{some_at, none_at, some_of_none, first_is, first_found, first_passes, below_or_last}
use Rattle.base.proofs.Maps.{put_same, put_other, del_same, del_other, flagged_some, flagged_is_some}
use Rattle.base.proofs.QueueForm.{form_count, form_step, insert_form, remove_form, spot_used, now_before, now_at, now_behind, left_before}
use Rattle.base.proofs.QueueForm.{left_behind}

module _ {A : Type 0} (key : A → ℕ) (z : A) (cap : ℕ) where
  -- an id that no entry in use has
  pub lookup_none : (n : ℕ) (l : List A) (id : ℕ) → ((k : ℕ) → k < n → key (get_or l k z) ≡ id → ⊥) → lookup_in key z cap n l id ≡ none
  lookup_none n l id h =
      rw (some_of_none (key_at key z cap n l id) cap
      (λ k b. split (ltb k n) (λ t. rw (t, ne_eqb (key (get_or l k z)) id (h k (ltb-true k n t)))) (λ t. rw t)))

  -- a lookup that succeeds names an entry in use
  pub lookup_place : (n : ℕ) (l : List A) (id : ℕ) {w : A} → lookup_in key z cap n l id ≡ some w → (k : ℕ) × (k < n) × (get_or l k z ≡ w)
      × (key w ≡ id)
  lookup_place n l id {w} e =
      let f = flagged_some (has_in key z cap n l id) (get_or l (find_in key z cap n l id) z) e in
      let p = first_passes (key_at key z cap n l id) cap (first_found (key_at key z cap n l id) cap f.0) in
      let k = find_in key z cap n l id in
      let same : key (get_or l k z) ≡ id = eqb-true _ _ (and_right (ltb k n) (eqb (key (get_or l k z)) id) p) in
      (k, ltb-true _ _ (and_left (ltb k n) (eqb (key (get_or l k z)) id) p), f.1, sym (ap key f.1) ∙ same)

  pub lookup_is_some : (n : ℕ) (l : List A) (id : ℕ) → is_some (lookup_in key z cap n l id) ≡ has_in key z cap n l id
  lookup_is_some n l id = flagged_is_some (has_in key z cap n l id) (get_or l (find_in key z cap n l id) z)

  pub lookup_empty : (l : List A) → lookup_in key z cap 0 l ≡ empty
  lookup_empty l = fun_ext (λ id. lookup_none 0 l id (λ k b e. not-suc-le-zero b))

  module _ (ok blank : A → Bool) (n : ℕ) (l : List A) (form : queue_form key z cap ok blank n l ≡ true) where
    -- a later place has a larger key
    pub rising : (k j : ℕ) → j < k → k < n → key (get_or l j z) < key (get_or l k z)
    rising zero j a b = absurd (not-suc-le-zero a)
    rising (suc k) j a b =
        let s : key (get_or l k z) < key (get_or l (suc k) z) = rw add-one at (form_step key z cap ok blank n l form k (omega arith)) in
        below_or_last j k a (λ t. lt_trans (rising k j t (omega arith)) s) (λ e. rw e s)

    -- each entry in use is found under its key
    pub lookup_at : (k id : ℕ) → k < n → key (get_or l k z) ≡ id → lookup_in key z cap n l id ≡ some (get_or l k z)
    lookup_at k id b e =
        let c = form_count key z cap ok blank n l form in
        let here : key_at key z cap n l id k ≡ true = rw (lt-ltb k n b, eq-eqb _ _ e) in
        let lower : (j : ℕ) → j < k → key_at key z cap n l id j ≡ false =
        λ j a. let r = rising k j a b in
        rw (lt-ltb j n (omega arith), ne_eqb (key (get_or l j z)) id (λ (q : key (get_or l j z) ≡ id). omega arith)) in
        rw (some_at (key_at key z cap n l id) cap k (omega arith) here, first_is (key_at key z cap n l id) cap k (omega arith) here lower)

    -- a test that fails at each entry in use
    pub none_iff_lookup : (p : A → Bool) →
        (some_below (λ k. ltb k n && p (get_or l k z)) cap ≡ false) ↔ ((id : ℕ) (w : A) → lookup_in key z cap n l id ≡ some w → p w ≡ false)
    none_iff_lookup p = (to, from)
      where
        to : some_below (λ k. ltb k n && p (get_or l k z)) cap ≡ false → (id : ℕ) (w : A) → lookup_in key z cap n l id ≡ some w →
            p w ≡ false
        to e id w h =
            let c = form_count key z cap ok blank n l form in
            let f = lookup_place n l id h in
            let k = f.0 in
            let b : k < n = f.1 in
            let g : (ltb k n && p (get_or l k z)) ≡ false = none_at (λ k. ltb k n && p (get_or l k z)) cap k e (omega arith) in
            rw (lt-ltb k n b, f.2) at g

        from : ((id : ℕ) (w : A) → lookup_in key z cap n l id ≡ some w → p w ≡ false) →
            some_below (λ k. ltb k n && p (get_or l k z)) cap ≡ false
        from h =
            some_of_none (λ k. ltb k n && p (get_or l k z)) cap
            (λ k b. split (ltb k n) (λ t. rw
            (t, h (key (get_or l k z)) (get_or l k z) (lookup_at k (key (get_or l k z)) (ltb-true k n t) refl))) (λ t. rw t))

    -- nothing outstanding
    pub count_zero_iff : (n ≡ 0) ↔ ((id : ℕ) → lookup_in key z cap n l id ≡ none)
    count_zero_iff = (
      (λ e id. lookup_none n l id (λ k b q. omega arith)),
      (λ h. split (eqb n 0) (λ t. eqb-true n 0 t)
          (λ f. let ne : (n ≡ 0 → ⊥) = eqb-false n 0 f in
          never (sym (h (key (get_or l 0 z))) ∙ lookup_at 0 (key (get_or l 0 z)) (omega arith) refl))),
    )

  -- AFTER AN ENTRY WITH A NEW KEY IS PUT IN

  module _ (ok blank : A → Bool) (n : ℕ) (l : List A) (w : A) (room : n < cap) (new : has_in key z cap n l (key w) ≡ false)
      (good : ok w ≡ true) (form : queue_form key z cap ok blank n l ≡ true) where
    abbrev grown : List A
    grown = insert_in key z cap n l w

    abbrev spot : ℕ
    spot = spot_in key z cap n l (key w)

    grown_form : queue_form key z cap ok blank (n + 1) grown ≡ true
    grown_form = insert_form key z cap ok blank n l w room new good form

    -- an entry that was there is there still
    grown_old : (k : ℕ) → k < n → lookup_in key z cap (n + 1) grown (key (get_or l k z)) ≡ some (get_or l k z)
    grown_old k b =
        split (ltb k spot)
        (λ t. let e : get_or grown k z ≡ get_or l k z = now_before key z cap ok blank n l w room new good form k (ltb-true _ _ t) in
        rw e at (lookup_at ok blank (n + 1) grown grown_form k (key (get_or l k z)) (omega arith) (ap key e)))
        (λ t. let a : spot ≤ k = ltb-false _ _ t in
        let q : k + 1 - 1 ≡ k = omega arith in
        let e : get_or grown (k + 1) z ≡ get_or l k z = rw q at
        (now_behind key z cap ok blank n l w room new good form (k + 1) (omega arith) (omega arith)) in
        rw e at (lookup_at ok blank (n + 1) grown grown_form (k + 1) (key (get_or l k z)) (omega arith) (ap key e)))

    grown_new : lookup_in key z cap (n + 1) grown (key w) ≡ some w
    grown_new =
        let u = spot_used key z cap ok blank n l w room new good form in
        let e = now_at key z cap ok blank n l w room new good form in
        rw e at (lookup_at ok blank (n + 1) grown grown_form spot (key w) (omega arith) (ap key e))

    -- and nothing else is
    grown_none : (id : ℕ) → (id ≡ key w → ⊥) → lookup_in key z cap n l id ≡ none → lookup_in key z cap (n + 1) grown id ≡ none
    grown_none id ne miss = lookup_none (n + 1) grown id away
      where
        old : (k : ℕ) → k < n → key (get_or l k z) ≡ id → ⊥
        old k b e = never (sym miss ∙ lookup_at ok blank n l form k id b e)

        away : (k : ℕ) → k < n + 1 → key (get_or grown k z) ≡ id → ⊥
        away k b =
            split (ltb k spot)
            (λ t. let u = spot_used key z cap ok blank n l w room new good form in
            let lt : k < spot = ltb-true _ _ t in
            rw (now_before key z cap ok blank n l w room new good form k lt) (old k (omega arith)))
            (λ t. let a : spot ≤ k = ltb-false _ _ t in
            split (eqb k spot)
            (λ s. rw (eqb-true k spot s, now_at key z cap ok blank n l w room new good form) (λ e. ne (sym e)))
            (λ s. let o : (k ≡ spot → ⊥) = eqb-false _ _ s in
            rw (now_behind key z cap ok blank n l w room new good form k (omega arith) (omega arith)) (old (k - 1) (omega arith))))

    pub lookup_insert : lookup_in key z cap (n + 1) grown ≡ put (lookup_in key z cap n l) (key w) w
    lookup_insert = fun_ext at
      where
        kept : (id : ℕ) (o : Option A) → (id ≡ key w → ⊥) → lookup_in key z cap n l id ≡ o → lookup_in key z cap (n + 1) grown id ≡ o
        kept id none ne e = grown_none id ne e
        kept id (some v) ne e =
            let f = lookup_place n l id e in
            let s : key (get_or l f.0 z) ≡ id = ap key f.2 ∙ f.3 in
            rw (s, f.2) at (grown_old f.0 f.1)

        at : (id : ℕ) → lookup_in key z cap (n + 1) grown id ≡ put (lookup_in key z cap n l) (key w) w id
        at id =
            split (eqb id (key w))
            (λ t. let e : id ≡ key w = eqb-true _ _ t in rw e (grown_new ∙ sym (put_same (lookup_in key z cap n l) (key w) w)))
            (λ t. let ne : (id ≡ key w → ⊥) = eqb-false _ _ t in
            kept id (lookup_in key z cap n l id) ne refl ∙ sym (put_other (lookup_in key z cap n l) (key w) w id ne))

  -- AFTER THE ENTRY OF AN ID IS TAKEN OUT

  module _ (ok blank : A → Bool) (n : ℕ) (l : List A) (id : ℕ) (there : has_in key z cap n l id ≡ true) (none_blank : blank z ≡ true)
      (form : queue_form key z cap ok blank n l ≡ true) where
    abbrev spot' : ℕ
    spot' = find_in key z cap n l id

    abbrev shrunk : List A
    shrunk = remove_in key z cap n l id

    found : key_at key z cap n l id spot' ≡ true
    found = first_passes (key_at key z cap n l id) cap (first_found (key_at key z cap n l id) cap there)

    pub find_used : find_in key z cap n l id < n
    find_used = ltb-true _ _ (and_left (ltb spot' n) (eqb (key (get_or l spot' z)) id) found)

    pub find_key : key (get_or l (find_in key z cap n l id) z) ≡ id
    find_key = eqb-true _ _ (and_right (ltb spot' n) (eqb (key (get_or l spot' z)) id) found)

    pub shrunk_form : queue_form key z cap ok blank (n - 1) (remove_in key z cap n l id) ≡ true
    shrunk_form = remove_form key z cap ok blank n l spot' find_used none_blank form

    -- another entry that was there is there still
    shrunk_old : (k : ℕ) → k < n → (k ≡ spot' → ⊥) → lookup_in key z cap (n - 1) shrunk (key (get_or l k z)) ≡ some (get_or l k z)
    shrunk_old k b ne =
        let u = find_used in
        split (ltb k spot')
        (λ t. let lt : k < spot' = ltb-true _ _ t in
        let e : get_or shrunk k z ≡ get_or l k z = left_before key z cap ok blank n l spot' u none_blank form k lt in
        rw e at (lookup_at ok blank (n - 1) shrunk shrunk_form k (key (get_or l k z)) (omega arith) (ap key e)))
        (λ t. let a : spot' ≤ k = ltb-false _ _ t in
        let q : k - 1 + 1 ≡ k = omega arith in
        let e : get_or shrunk (k - 1) z ≡ get_or l k z = rw q at
        (left_behind key z cap ok blank n l spot' u none_blank form (k - 1) (omega arith)) in
        rw e at (lookup_at ok blank (n - 1) shrunk shrunk_form (k - 1) (key (get_or l k z)) (omega arith) (ap key e)))

    -- no entry but those that were there, and not the one taken out
    shrunk_none : (j : ℕ) → (j ≡ id) ⊎ (lookup_in key z cap n l j ≡ none) → lookup_in key z cap (n - 1) shrunk j ≡ none
    shrunk_none j why = lookup_none (n - 1) shrunk j away
      where
        -- at no place but the one taken out
        old : (k : ℕ) → k < n → (k ≡ spot' → ⊥) → key (get_or l k z) ≡ j → ⊥
        old k b ne e =
            ⊎_elim
            (λ (q : j ≡ id). let s = find_key in
            let u = find_used in
            split (ltb k spot')
            (λ t. let r = rising ok blank n l form spot' k (ltb-true _ _ t) u in omega arith)
            (λ t. let a : spot' ≤ k = ltb-false _ _ t in let r = rising ok blank n l form k spot' (omega arith) b in omega arith))
            (λ miss. never (sym miss ∙ lookup_at ok blank n l form k j b e))
            why

        away : (k : ℕ) → k < n - 1 → key (get_or shrunk k z) ≡ j → ⊥
        away k b =
            let u = find_used in
            split (ltb k spot')
            (λ t. let lt : k < spot' = ltb-true _ _ t in
            rw (left_before key z cap ok blank n l spot' u none_blank form k lt) (old k (omega arith) (λ (q : k ≡ spot'). omega arith)))
            (λ t. let a : spot' ≤ k = ltb-false _ _ t in
            rw (left_behind key z cap ok blank n l spot' u none_blank form k a)
            (old (k + 1) (omega arith) (λ (q : k + 1 ≡ spot'). omega arith)))

    pub lookup_remove : lookup_in key z cap (n - 1) (remove_in key z cap n l id) ≡ del (lookup_in key z cap n l) id
    lookup_remove = fun_ext at
      where
        kept : (j : ℕ) (o : Option A) → (j ≡ id → ⊥) → lookup_in key z cap n l j ≡ o → lookup_in key z cap (n - 1) shrunk j ≡ o
        kept j none ne e = shrunk_none j (inr e)
        kept j (some v) ne e =
            let f = lookup_place n l j e in
            let s : key (get_or l f.0 z) ≡ j = ap key f.2 ∙ f.3 in
            let other : (f.0 ≡ spot' → ⊥) = λ q. ne (sym s ∙ ap (λ k. key (get_or l k z)) q ∙ find_key) in
            rw (s, f.2) at (shrunk_old f.0 f.1 other)

        at : (j : ℕ) → lookup_in key z cap (n - 1) shrunk j ≡ del (lookup_in key z cap n l) id j
        at j =
            split (eqb j id)
            (λ t. let e : j ≡ id = eqb-true _ _ t in rw e (shrunk_none id (inl refl) ∙ sym (del_same (lookup_in key z cap n l) id)))
            (λ t. let ne : (j ≡ id → ⊥) = eqb-false _ _ t in
            kept j (lookup_in key z cap n l j) ne refl ∙ sym (del_other (lookup_in key z cap n l) id j ne))
