-- The disk's queues as upstream's maps from ids to places, and what their written form says, for any test of a request. Assumes nothing.
use Prim.Native.Nat.{◌<◌, ℕ}
use mathlib.Core.Bool.{Bool, ◌&&◌, ◌||◌, false, not, true}
use mathlib.Core.Logic.{◌↔◌, ⊎_elim}
use mathlib.Core.Option.{some}
use mathlib.Core.Path.{◌≡◌, refl, sym}
use borrow.Author.Tests.{eqb-false, ne_eqb}
use lib.Dec.{eqb, ltb}
use Rattle.base.proofs.Maps.{del_some, put_some}
use Rattle.base.proofs.Scan.{all_at, all_of, none_at, some_of_none}
use Rattle.base.proofs.Tests.{and_both, and_iff, not_iff}
use Rattle.base.specs.Maps.{del, empty, is_some, put}
use Rattle.base.specs.Scan.{all_below, some_below}
use Rattle.blockdisk.specs.Ops.{request_of}
use Rattle.blockdisk.specs.Upstream.{places}
use Rattle.disklayout.specs.declared.Location.{Location}
use Rattle.queue.proofs.Laws.{insert_form, insert_map, none_form, remove_form, remove_map, scan_iff}
use Rattle.queue.proofs.Mapped.{mapped_at, mapped_empty_iff, mapped_has, mapped_insert, mapped_none_iff, mapped_remove, mapped_some}
use Rattle.queue.specs.Queue.{entry_of, has_addr, has_of, insert_of, empty_requests, remove_of, request_at, requests_form, requests_map}
use Rattle.queue.specs.declared.Request.{Request}
use Rattle.queue.specs.declared.Requests.{Requests}

-- A MAP OF PLACES

-- the place that a request stands for
abbrev place_in : Request → Location
place_in w = w.loc

pub places_has : (q : Requests) (id : ℕ) → is_some (places q id) ≡ has_of q id
unfolding places
places_has = mapped_has place_in

pub places_at : (q : Requests) (id : ℕ) → has_of q id ≡ true → places q id ≡ some (entry_of q id).loc
unfolding places
places_at = mapped_at place_in

pub places_some : (q : Requests) (id : ℕ) {l : Location} → places q id ≡ some l → (w : Request) × (requests_map q id ≡ some w) × (w.loc ≡ l)
unfolding places
places_some q id e = mapped_some place_in q id e

pub places_none : places empty_requests ≡ empty
unfolding places
places_none = (mapped_empty_iff place_in empty_requests none_form).0 refl

module _ (q : Requests) (id : ℕ) (form : requests_form q ≡ true) where
  pub places_insert : (l : Location) → q.count < 16 → has_of q id ≡ false → places (insert_of q (request_of id l)) ≡ put (places q) id l
  unfolding places
  places_insert l = mapped_insert place_in q form (request_of id l)

  pub places_remove : has_of q id ≡ true → places (remove_of q id) ≡ del (places q) id
  unfolding places
  places_remove = mapped_remove place_in q form id

-- no write is outstanding at the address
pub written_iff : (q : Requests) (a : ℕ) → requests_form q ≡ true →
    (has_addr q a ≡ false) ↔ ((id : ℕ) (l : Location) → places q id ≡ some l → l.addr ≡ a → ⊥)
unfolding has_addr places
written_iff q a form =
    let h = mapped_none_iff place_in q form (λ l. eqb l.addr a) in
    ((λ e id l m. eqb-false l.addr a (h.0 e id l m)), (λ k. h.1 (λ id l m. ne_eqb l.addr a (k id l m))))

-- THE WRITTEN FORM, WITH A TEST THAT EACH REQUEST PASSES

abbrev pub queue_ok : (Request → Bool) → Requests → Bool
queue_ok ok q = requests_form q && all_below (λ k. not (ltb k q.count) || ok (request_at q k)) 16

-- a test that each place in use passes
pub all_used_iff : (n : ℕ) (g : ℕ → Bool) →
    (all_below (λ k. not (ltb k n) || g k) 16 ≡ true) ↔ (some_below (λ k. ltb k n && not (g k)) 16 ≡ false)
all_used_iff n g = (
  (λ e. some_of_none (λ k. ltb k n && not (g k)) 16 (λ k b. (turn (ltb k n) (g k)).0 (all_at (λ k. not (ltb k n) || g k) 16 k e b))),
  (λ e. all_of (λ k. not (ltb k n) || g k) 16 (λ k b. (turn (ltb k n) (g k)).1 (none_at (λ k. ltb k n && not (g k)) 16 k e b))),
)
  where
    turn : (x y : Bool) → ((not x || y) ≡ true) ↔ ((x && not y) ≡ false)
    turn true true = ((λ e. refl), (λ e. refl))
    turn true false = ((λ e. sym e), (λ e. sym e))
    turn false y = ((λ e. refl), (λ e. refl))

pub queue_iff : (ok : Request → Bool) (q : Requests) →
    (queue_ok ok q ≡ true) ↔ ((requests_form q ≡ true) × ((id : ℕ) (w : Request) → requests_map q id ≡ some w → ok w ≡ true))
queue_iff ok q = (
  (λ e. let h = (and_iff (requests_form q) (all_below (λ k. not (ltb k q.count) || ok (request_at q k)) 16)).0 e in
      let s = (scan_iff q h.0 (λ w. not (ok w))).0 ((all_used_iff q.count (λ k. ok (request_at q k))).0 h.1) in
      (h.0, λ id w m. (not_iff (ok w)).0 (s id w m))),
  (λ h. and_both h.0
      ((all_used_iff q.count (λ k. ok (request_at q k))).1
      ((scan_iff q h.0 (λ w. not (ok w))).1 (λ id w m. (not_iff (ok w)).1 (h.1 id w m))))),
)

pub queue_insert : (ok : Request → Bool) (q : Requests) (w : Request) → queue_ok ok q ≡ true → q.count < 16 → has_of q w.id ≡ false →
    ok w ≡ true → queue_ok ok (insert_of q w) ≡ true
queue_insert ok q w f room new fine =
    let h = (queue_iff ok q).0 f in
    (queue_iff ok (insert_of q w)).1 (
      insert_form q h.0 w room new,
      λ id v m.
          ⊎_elim (λ x. rw (← x.1) fine) (λ x. h.1 id v x.1) (put_some (requests_map q) w.id w id (rw (insert_map q h.0 w room new) at m)),
    )

pub queue_remove : (ok : Request → Bool) (q : Requests) (id : ℕ) → queue_ok ok q ≡ true → has_of q id ≡ true →
    queue_ok ok (remove_of q id) ≡ true
queue_remove ok q id f there =
    let h = (queue_iff ok q).0 f in
    (queue_iff ok (remove_of q id)).1
    (remove_form q h.0 id there, λ j v m. h.1 j v (del_some (requests_map q) id j (rw (remove_map q h.0 id there) at m)).1)
