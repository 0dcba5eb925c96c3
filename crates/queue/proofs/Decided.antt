-- A queue in its one written form is decided by the map that it stands for: two such queues that stand for the same map are equal.
-- By the first place where they could differ: the request that one has there is further on in the other, and the reverse, so the two
-- ids are the same. Assumes nothing.
use Prim.Native.Nat.{◌<◌, ◌≤◌, suc, zero, ℕ}
use mathlib.Core.Bool.{Bool, true}
use mathlib.Core.Option.{Option, map, none, some}
use mathlib.Core.Path.{◌∙◌, ◌≡◌, ap, fun_ext, refl, sym}
use native.Mathlib.Nat.{le_antisymm, not-suc-le-zero}
use native.Mathlib.Omega.{arith}
use borrow.Author.Tests.{eqb-false, eqb-true, ltb-false, ltb-true}
use lib.Dec.{eqb, ltb}
use lib.Seq.{ext_get_or}
use Rattle.base.proofs.Lookup.{lookup_at, lookup_place, rising}
use Rattle.base.proofs.QueueForm.{form_blank}
use Rattle.base.proofs.Scan.{below_or_last}
use Rattle.base.proofs.Tests.{never, split, tests}
use Rattle.queue.proofs.Laws.{form_length, map_id}
use Rattle.queue.specs.Queue.{any_request, blank, id_of, mapped, request_at, requests_form, requests_map, zero_request}
use Rattle.queue.specs.declared.Request.{Request}
use Rattle.queue.specs.declared.Requests.{Requests}

pub request_ext : {v w : Request} → v.id ≡ w.id → v.reference ≡ w.reference → v.loc ≡ w.loc → v ≡ w
request_ext a b c = λ i. record { id = a i; reference = b i; loc = c i }

blank_is : (w : Request) → blank w ≡ true → w ≡ zero_request
blank_is w e = let h = simp tests at e in request_ext h.0.0.0 h.0.0.1 (λ i. record { addr = h.0.1 i; len = h.1 i })

-- A QUEUE IN ITS FORM

module _ (q : Requests) (form : requests_form q ≡ true) where
  -- a request in use is what the map has at its id
  map_at : (k : ℕ) → k < q.count → requests_map q (request_at q k).id ≡ some (request_at q k)
  unfolding requests_form requests_map
  map_at k b = lookup_at id_of zero_request 16 any_request blank q.count q.at form k (request_at q k).id b refl

  ids_rise : (k j : ℕ) → j < k → k < q.count → (request_at q j).id < (request_at q k).id
  unfolding requests_form
  ids_rise = rising id_of zero_request 16 any_request blank q.count q.at form

  unused : (k : ℕ) → k < 16 → q.count ≤ k → request_at q k ≡ zero_request
  unfolding requests_form
  unused k b a = blank_is (request_at q k) (form_blank id_of zero_request 16 any_request blank q.count q.at form k b a)

map_place : (q : Requests) (id : ℕ) {w : Request} → requests_map q id ≡ some w → (k : ℕ) × (k < q.count) × (request_at q k ≡ w)
unfolding requests_map
map_place q id e = let f = lookup_place id_of zero_request 16 q.count q.at id e in (f.0, f.1, f.2)

-- TWO QUEUES OF ONE MAP

module _ (q p : Requests) (f : requests_form q ≡ true) (g : requests_form p ≡ true) (same : requests_map q ≡ requests_map p) where
  abbrev Agree : ℕ → Type 0
  Agree k = (j : ℕ) → j < k → request_at q j ≡ request_at p j

  -- where they agree before place k, the request that q has there is at k or behind it in p
  behind : (k : ℕ) → Agree k → k < q.count → (k < p.count) × ((request_at p k).id ≤ (request_at q k).id)
  behind k agree b =
      let x = map_place p (request_at q k).id (ap (λ m. m (request_at q k).id) (sym same) ∙ map_at q f k b) in
      let j = x.0 in
      let used : j < p.count = x.1 in
      split (ltb j k)
      (λ t. let s : j < k = ltb-true j k t in
      let r = ids_rise q f k j s b in
      let e : (request_at q j).id ≡ (request_at q k).id = ap id_of (agree j s ∙ x.2) in
      absurd (omega arith))
      (λ t. let s : k ≤ j = ltb-false j k t in
      let e : (request_at p j).id ≡ (request_at q k).id = ap id_of x.2 in (
        omega arith,
        split (eqb j k)
            (λ u. let i : j ≡ k = eqb-true j k u in let h : (request_at p k).id ≡ (request_at q k).id = rw i at e in omega arith)
            (λ u. let i : (j ≡ k → ⊥) = eqb-false j k u in let r = ids_rise p g j k (omega arith) used in omega arith),
      ))

module _ (q p : Requests) (f : requests_form q ≡ true) (g : requests_form p ≡ true) (same : requests_map q ≡ requests_map p) where
  -- so they agree at place k too
  agree_at : (k : ℕ) → Agree q p f g same k → k < q.count → request_at q k ≡ request_at p k
  agree_at k agree b =
      let x = behind q p f g same k agree b in
      let y = behind p q g f (sym same) k (λ j s. sym (agree j s)) x.0 in
      let e : (request_at q k).id ≡ (request_at p k).id = le_antisymm y.1 x.1 in
      let u : some (request_at q k) ≡ some (request_at p k) = sym (map_at q f k b) ∙ ap (λ m. m (request_at q k).id) same
      ∙ ap (requests_map p) e ∙ map_at p g k x.0 in
      cc

  agree : (k j : ℕ) → j < k → j < q.count → request_at q j ≡ request_at p j
  agree zero j s b = absurd (not-suc-le-zero s)
  agree (suc k) j s b = below_or_last j k s (λ t. agree k j t b) (λ e. rw e (agree_at k (λ i r. agree k i r (omega arith)) (rw e at b)))

  -- q has no more requests than p
  count_le : q.count ≤ p.count
  count_le =
      split (ltb p.count q.count)
      (λ t. let b : p.count < q.count = ltb-true _ _ t in
      let x = behind q p f g same p.count (λ j s. agree p.count j s (omega arith)) b in
      let y : p.count < p.count = x.0 in
      absurd (omega arith))
      (λ t. ltb-false _ _ t)

pub requests_decided : (q p : Requests) → requests_form q ≡ true → requests_form p ≡ true → requests_map q ≡ requests_map p → q ≡ p
requests_decided q p f g same =
    let n : q.count ≡ p.count = le_antisymm (count_le q p f g same) (count_le p q g f (sym same)) in
    let l = form_length q f in
    let at : q.at ≡ p.at = ext_get_or zero_request q.at p.at (l ∙ sym (form_length p g))
    (λ k b. split (ltb k q.count) (λ t. agree q p f g same q.count k (ltb-true _ _ t) (ltb-true _ _ t))
    (λ t. let u : q.count ≤ k = ltb-false _ _ t in unused q f k (omega arith) u ∙ sym (unused p g k (omega arith) (omega arith)))) in
    λ i. record { count = n i; at = at i }

-- THE MAP OF WHAT A REQUEST STANDS FOR

-- the written form, with a test that each request passes
abbrev pub Passing : (Request → Bool) → Requests → Type 0
Passing ok q = (requests_form q ≡ true) × ((id : ℕ) (w : Request) → requests_map q id ≡ some w → ok w ≡ true)

-- where an id and what its request stands for settle a request that passes
pub mapped_decided : {A : Type 0} (f : Request → A) (ok : Request → Bool) →
    ((v w : Request) → ok v ≡ true → ok w ≡ true → v.id ≡ w.id → f v ≡ f w → v ≡ w) →
    (q p : Requests) → Passing ok q → Passing ok p → mapped f q ≡ mapped f p → q ≡ p
mapped_decided f ok settles q p g h same =
    requests_decided q p g.0 h.0 (fun_ext (λ id. go id (requests_map q id) (requests_map p id) refl refl (ap (λ m. m id) same)))
  where
    go : (id : ℕ) (x y : Option Request) → requests_map q id ≡ x → requests_map p id ≡ y → map f x ≡ map f y → x ≡ y
    go id none none a b e = refl
    go id none (some w) a b e = never e
    go id (some v) none a b e = never (sym e)
    go id (some v) (some w) a b e = ap some (settles v w (g.1 id v a) (h.1 id w b) (map_id q id a ∙ sym (map_id p id b)) cc)
