-- A queue by ascending key keeps its one written form when an entry with a new key is put in, and when one is taken out. Assumes nothing.
use mathlib.Core.Path.{◌≡◌, refl, ap, sym, ◌∙◌}
use mathlib.Core.Bool.{Bool, true, false, ◌&&◌, ◌||◌, or-true}
use mathlib.Core.List.{List, [], ◌∷◌, ◌++◌}
use mathlib.Core.Logic.{◌⊎◌, inl, inr, ⊎_elim}
use Prim.Native.Nat.{ℕ, ◌+◌, ◌-◌, ◌≤◌, ◌<◌}
use native.Mathlib.Omega.{arith}
use native.Mathlib.Nat.{lt_trans}
use native.Mathlib.Numerals.{add-one}
use lib.Dec.{ltb, leb, eqb}
use lib.ListN.{get_or, length, length-append, get_or-eq_default}
use lib.Seq.{get_or-take, length-take-le}
use borrow.Author.Tests.{ltb-true, ltb-false, leb-true, leb-false, le-leb, lt-leb, lt-ltb, le-ltb, eqb-true, eqb-false, eq-eqb}
use Rattle.base.specs.Scan.{all_below}
use Rattle.base.specs.Lists.{opened, closed}
use Rattle.base.specs.Queue.{key_at, has_in, spot_in, insert_in, spot_ok, queue_form}
use Rattle.base.proofs.Tests.{split, clash, and_left, and_right, or_right}
use Rattle.base.proofs.Scan.{all_at, all_of, some_at, first_before, first_passes, first_at_most}
use Rattle.base.proofs.Lists.{length_opened, opened_before, opened_at, opened_behind, length_closed, closed_before, closed_behind}
use Rattle.base.proofs.Lists.{get_d_pad}

module _ {A : Type 0} (key : A → ℕ) (z : A) (cap : ℕ) (ok blank : A → Bool) where
  -- A PLACE

  ok_used : (n k : ℕ) (p w : A) → k < n → ok w ≡ true → (k ≡ 0) ⊎ (key p < key w) → spot_ok key z cap ok blank n k p w ≡ true
  ok_used n k p w b r e =
      rw (lt-ltb k n b, r) (⊎_elim (λ t. rw (eq-eqb k 0 t)) (λ t. rw (lt-ltb (key p) (key w) t) (or-true (eqb k 0))) e)

  ok_free : (n k : ℕ) (p w : A) → n ≤ k → blank w ≡ true → spot_ok key z cap ok blank n k p w ≡ true
  ok_free n k p w b t = rw (le-ltb k n b, t)

  of_used : (n k : ℕ) (p w : A) → k < n → spot_ok key z cap ok blank n k p w ≡ true → (ok w ≡ true) × ((k ≡ 0) ⊎ (key p < key w))
  of_used n k p w b e =
      let f : (ok w && (eqb k 0 || ltb (key p) (key w))) ≡ true = rw (lt-ltb k n b) at e in (
        and_left (ok w) (eqb k 0 || ltb (key p) (key w)) f,
        split (eqb k 0) (λ t. inl (eqb-true k 0 t))
            (λ t. inr (ltb-true _ _ (rw t at (and_right (ok w) (eqb k 0 || ltb (key p) (key w)) f)))),
      )

  of_free : (n k : ℕ) (p w : A) → n ≤ k → spot_ok key z cap ok blank n k p w ≡ true → blank w ≡ true
  of_free n k p w b e = ends (blank w) (rw (le-ltb k n b) at e)
    where
      ends : (t : Bool) → (t || false) ≡ true → t ≡ true
      ends true x = refl
      ends false x = x

  -- WHAT THE FORM SAYS

  module _ (n : ℕ) (l : List A) (form : queue_form key z cap ok blank n l ≡ true) where
    abbrev spots : Bool
    spots = all_below (λ k. spot_ok key z cap ok blank n k (get_or l (k - 1) z) (get_or l k z)) cap

    pub form_length : length l ≡ cap
    form_length =
        eqb-true (length l) cap (and_left (eqb (length l) cap) (leb n cap) (and_left (eqb (length l) cap && leb n cap) spots form))

    pub form_count : n ≤ cap
    form_count = leb-true n cap (and_right (eqb (length l) cap) (leb n cap) (and_left (eqb (length l) cap && leb n cap) spots form))

    ok_at : (k : ℕ) → k < cap → spot_ok key z cap ok blank n k (get_or l (k - 1) z) (get_or l k z) ≡ true
    ok_at k b =
        all_at (λ k. spot_ok key z cap ok blank n k (get_or l (k - 1) z) (get_or l k z)) cap k
        (and_right (eqb (length l) cap && leb n cap) spots form) b

    used_at : (k : ℕ) → k < n → (ok (get_or l k z) ≡ true) × ((k ≡ 0) ⊎ (key (get_or l (k - 1) z) < key (get_or l k z)))
    used_at k a = let f = form_count in of_used n k (get_or l (k - 1) z) (get_or l k z) a (ok_at k (omega arith))

    -- an entry in use passes the test
    pub form_ok : (k : ℕ) → k < n → ok (get_or l k z) ≡ true
    form_ok k a = (used_at k a).0

    -- a place that is not in use is blank
    pub form_blank : (k : ℕ) → k < cap → n ≤ k → blank (get_or l k z) ≡ true
    form_blank k b a = of_free n k (get_or l (k - 1) z) (get_or l k z) a (ok_at k b)

    -- keys rise from place to place
    pub form_step : (k : ℕ) → k + 1 < n → key (get_or l k z) < key (get_or l (k + 1) z)
    form_step k c =
        let o = used_at (k + 1) c in
        let e : k + 1 - 1 ≡ k = omega arith in
        rw e at (⊎_elim (λ (y : k + 1 ≡ 0). absurd (omega arith)) (λ y. y) o.1)

  -- AN ENTRY PUT IN

  module _ (n : ℕ) (l : List A) (w : A) (room : n < cap) (new : has_in key z cap n l (key w) ≡ false) (good : ok w ≡ true)
      (form : queue_form key z cap ok blank n l ≡ true) where
    abbrev spot : ℕ
    spot = spot_in key z cap n l (key w)

    pub spot_used : spot ≤ n
    spot_used = first_at_most (λ k. leb n k || leb (key w) (key (get_or l k z))) cap n (rw (le-leb n n (omega arith)))

    below_spot : (k : ℕ) → k < spot → key (get_or l k z) < key w
    below_spot k b =
        leb-false _ _ (or_right (leb n k) (leb (key w) (key (get_or l k z)))
        (first_before (λ k. leb n k || leb (key w) (key (get_or l k z))) cap k b))

    at_spot : spot < n → key w < key (get_or l spot z)
    at_spot b =
        let e : (leb n spot || leb (key w) (key (get_or l spot z))) ≡ true = first_passes
        (λ k. leb n k || leb (key w) (key (get_or l k z))) cap (omega arith) in
        let f : leb n spot ≡ false = lt-leb _ _ b in
        let le : key w ≤ key (get_or l spot z) = leb-true _ _ (rw f at e) in
        let ne : (key (get_or l spot z) ≡ key w) → ⊥ =
        λ s. clash (some_at (key_at key z cap n l (key w)) cap spot (omega arith) (rw (lt-ltb _ _ b, eq-eqb _ _ s))) new in
        omega arith

    abbrev now : ℕ → A
    now k = get_or (insert_in key z cap n l w) k z

    -- before, at and behind the new entry
    pub now_before : (k : ℕ) → k < spot → now k ≡ get_or l k z
    now_before k b =
        let u = spot_used in let m = form_length n l form in
        get_or-take cap (opened l spot w) k z (omega arith) ∙ opened_before l spot w z k b (omega arith)

    pub now_at : now spot ≡ w
    now_at =
        let u = spot_used in let m = form_length n l form in
        get_or-take cap (opened l spot w) spot z (omega arith) ∙ opened_at l spot w z (omega arith)

    pub now_behind : (k : ℕ) → k < cap → spot < k → now k ≡ get_or l (k - 1) z
    now_behind k a b =
        let u = spot_used in let m = form_length n l form in
        get_or-take cap (opened l spot w) k z a ∙ opened_behind l spot w z k b (omega arith)

    prior : (k : ℕ) → k < cap → spot < k → k ≤ n → key (now (k - 1)) < key (get_or l (k - 1) z)
    prior k b a c =
        split (eqb (k - 1) spot) (λ t. let e : k - 1 ≡ spot = eqb-true _ _ t in rw (e, now_at) (at_spot (omega arith)))
        (λ t. let e : (k - 1 ≡ spot) → ⊥ = eqb-false _ _ t in
        let o = used_at n l form (k - 1) (omega arith) in
        rw (now_behind (k - 1) (omega arith) (omega arith)) (⊎_elim (λ (y : k - 1 ≡ 0). absurd (omega arith)) (λ y. y) o.1))

    ok_before : (k : ℕ) → k < cap → k < spot → spot_ok key z cap ok blank (n + 1) k (now (k - 1)) (now k) ≡ true
    ok_before k b a =
        let u = spot_used in
        let o = used_at n l form k (omega arith) in
        rw (now_before k a, now_before (k - 1) (omega arith)) (ok_used (n + 1) k (get_or l (k - 1) z) (get_or l k z) (omega arith) o.0 o.1)

    ok_new : spot_ok key z cap ok blank (n + 1) spot (now (spot - 1)) (now spot) ≡ true
    ok_new =
        let u = spot_used in
        let first : (spot ≡ 0) ⊎ (key (now (spot - 1)) < key w) = split (eqb spot 0) (λ t. inl (eqb-true _ _ t))
        (λ t. let nz : (spot ≡ 0) → ⊥ = eqb-false _ _ t in
        inr (rw (now_before (spot - 1) (omega arith)) (below_spot (spot - 1) (omega arith)))) in
        rw now_at (ok_used (n + 1) spot (now (spot - 1)) w (omega arith) good first)

    ok_behind : (k : ℕ) → k < cap → spot < k → k ≤ n → spot_ok key z cap ok blank (n + 1) k (now (k - 1)) (now k) ≡ true
    ok_behind k b a c =
        let o = used_at n l form (k - 1) (omega arith) in
        rw (now_behind k b a) (ok_used (n + 1) k (now (k - 1)) (get_or l (k - 1) z) (omega arith) o.0 (inr (prior k b a c)))

    ok_rest : (k : ℕ) → k < cap → n < k → spot_ok key z cap ok blank (n + 1) k (now (k - 1)) (now k) ≡ true
    ok_rest k b c =
        let u = spot_used in
        rw (now_behind k b (omega arith))
        (ok_free (n + 1) k (now (k - 1)) (get_or l (k - 1) z) (omega arith) (form_blank n l form (k - 1) (omega arith) (omega arith)))

    new_ok : (k : ℕ) → k < cap → spot_ok key z cap ok blank (n + 1) k (now (k - 1)) (now k) ≡ true
    new_ok k b =
        split (ltb k spot) (λ t. ok_before k b (ltb-true _ _ t))
        (λ t. split (eqb k spot) (λ s. rw (eqb-true k spot s) ok_new)
        (λ s. split (leb k n) (λ x. ok_behind k b (lower t s) (leb-true _ _ x)) (λ x. ok_rest k b (leb-false _ _ x))))
      where
        lower : ltb k spot ≡ false → eqb k spot ≡ false → spot < k
        lower t s = let a : spot ≤ k = ltb-false _ _ t in let e : (k ≡ spot) → ⊥ = eqb-false _ _ s in omega arith

    pub insert_form : queue_form key z cap ok blank (n + 1) (insert_in key z cap n l w) ≡ true
    insert_form =
        let u = spot_used in
        let m = form_length n l form in
        let s = length_opened l spot w (omega arith) in
        rw (eq-eqb _ _ (length-take-le cap (opened l spot w) (omega arith)), le-leb (n + 1) cap (omega arith))
        (all_of (λ k. spot_ok key z cap ok blank (n + 1) k (now (k - 1)) (now k)) cap new_ok)

  -- AN ENTRY TAKEN OUT

  module _ (n : ℕ) (l : List A) (p : ℕ) (used : p < n) (none : blank z ≡ true) (form : queue_form key z cap ok blank n l ≡ true) where
    abbrev left : ℕ → A
    left k = get_or (closed l p ++ (z ∷ [])) k z

    -- before and behind the place
    pub left_before : (k : ℕ) → k < p → left k ≡ get_or l k z
    left_before k b = get_d_pad (closed l p) z k ∙ closed_before l p z k b

    pub left_behind : (k : ℕ) → p ≤ k → left k ≡ get_or l (k + 1) z
    left_behind k b = get_d_pad (closed l p) z k ∙ closed_behind l p z k b ∙ ap (λ m. get_or l m z) (sym (add-one k))

    -- the entry before a place behind the closed one is less
    c_prior : (k : ℕ) → p ≤ k → k + 1 < n → (k ≡ 0) ⊎ (key (left (k - 1)) < key (get_or l (k + 1) z))
    c_prior k a b =
        split (eqb k 0) (λ t. inl (eqb-true k 0 t))
        (λ t. let nz : (k ≡ 0) → ⊥ = eqb-false _ _ t in
        let e : k - 1 + 1 ≡ k = omega arith in
        inr (split (ltb (k - 1) p)
        (λ s. let c : k - 1 < p = ltb-true _ _ s in
        let one = form_step n l form (k - 1) (omega arith) in
        rw (left_before (k - 1) c) (lt_trans (rw e at one) (form_step n l form k b)))
        (λ s. let c : p ≤ k - 1 = ltb-false _ _ s in rw (left_behind (k - 1) c, e) (form_step n l form k b))))

    c_new : (k : ℕ) → k < cap → spot_ok key z cap ok blank (n - 1) k (left (k - 1)) (left k) ≡ true
    c_new k b =
        split (ltb k p)
        (λ t. let a : k < p = ltb-true _ _ t in let o = used_at n l form k (omega arith) in
        rw (left_before k a, left_before (k - 1) (omega arith))
        (ok_used (n - 1) k (get_or l (k - 1) z) (get_or l k z) (omega arith) o.0 o.1))
        (λ t. let a : p ≤ k = ltb-false _ _ t in
        split (ltb (k + 1) n)
        (λ s. let c : k + 1 < n = ltb-true _ _ s in let o = used_at n l form (k + 1) c in
        rw (left_behind k a) (ok_used (n - 1) k (left (k - 1)) (get_or l (k + 1) z) (omega arith) o.0 (c_prior k a c)))
        (λ s. let c : n ≤ k + 1 = ltb-false _ _ s in
        rw (left_behind k a) (ok_free (n - 1) k (left (k - 1)) (get_or l (k + 1) z) (omega arith) (rest c))))
      where
        rest : n ≤ k + 1 → blank (get_or l (k + 1) z) ≡ true
        rest c =
            let f = form_length n l form in
            split (ltb (k + 1) cap) (λ t. form_blank n l form (k + 1) (ltb-true _ _ t) c)
            (λ t. let e : cap ≤ k + 1 = ltb-false _ _ t in rw (get_or-eq_default l z (let g : length l ≤ k + 1 = omega arith in g)) none)

    pub remove_form : queue_form key z cap ok blank (n - 1) (closed l p ++ (z ∷ [])) ≡ true
    remove_form =
        let f = form_count n l form in
        let m = form_length n l form in
        let s = length_closed l p (omega arith) in
        let u = length-append (closed l p) (z ∷ []) in
        rw (eq-eqb (length (closed l p ++ (z ∷ []))) cap (omega arith), le-leb (n - 1) cap (omega arith))
        (all_of (λ k. spot_ok key z cap ok blank (n - 1) k (left (k - 1)) (left k)) cap c_new)
