-- A queue as a map from ids to what a request stands for, whatever that is: the disk's places, the cache's writes and reads.
-- Assumes nothing.
use Prim.Native.Nat.{◌<◌, ℕ}
use mathlib.Core.Bool.{Bool, ◌&&◌, false, true}
use mathlib.Core.Logic.{◌↔◌}
use mathlib.Core.Option.{Option, map, map-eq-some_iff, none, some}
use mathlib.Core.Path.{◌∙◌, ◌≡◌, ap, fun_ext, refl, sym}
use lib.Dec.{eqb, ltb}
use Rattle.base.proofs.Tests.{none_iff, split}
use Rattle.base.specs.Maps.{Map, del, empty, is_some, put}
use Rattle.base.specs.Scan.{some_below}
use Rattle.queue.proofs.Laws.{count_iff, entry_map, has_map, insert_map, remove_map, scan_iff}
use Rattle.queue.specs.Queue.{entry_of, has_of, insert_of, mapped, remove_of, request_at, requests_form, requests_map}
use Rattle.queue.specs.declared.Request.{Request}
use Rattle.queue.specs.declared.Requests.{Requests}

module _ {A : Type 0} (f : Request → A) where
  pub mapped_has : (q : Requests) (id : ℕ) → is_some (mapped f q id) ≡ has_of q id
  mapped_has q id = go (requests_map q id) ∙ has_map q id
    where
      go : (o : Option Request) → is_some (map f o) ≡ is_some o
      go none = refl
      go (some w) = refl

  pub mapped_at : (q : Requests) (id : ℕ) → has_of q id ≡ true → mapped f q id ≡ some (f (entry_of q id))
  mapped_at q id h = rw (entry_map q id, h)

  pub mapped_some : (q : Requests) (id : ℕ) {a : A} → mapped f q id ≡ some a → (w : Request) × (requests_map q id ≡ some w) × (f w ≡ a)
  mapped_some q id e = (map-eq-some_iff f (requests_map q id)).0 e

  pub mapped_of : (q : Requests) (id : ℕ) (w : Request) → requests_map q id ≡ some w → mapped f q id ≡ some (f w)
  mapped_of q id w e = rw e

  module _ (q : Requests) (form : requests_form q ≡ true) where
    pub mapped_insert : (w : Request) → q.count < 16 → has_of q w.id ≡ false → mapped f (insert_of q w) ≡ put (mapped f q) w.id (f w)
    unfolding put
    mapped_insert w room new =
        ap (λ (m : Map Request). λ id. map f (m id)) (insert_map q form w room new)
        ∙ fun_ext (λ j. split (eqb j w.id) (λ t. rw t) (λ t. rw t))

    pub mapped_remove : (id : ℕ) → has_of q id ≡ true → mapped f (remove_of q id) ≡ del (mapped f q) id
    unfolding del
    mapped_remove id there =
        ap (λ (m : Map Request). λ id. map f (m id)) (remove_map q form id there) ∙ fun_ext (λ j. split (eqb j id) (λ t. rw t) (λ t. rw t))

    -- a test that no request in use passes
    pub mapped_none_iff : (p : A → Bool) →
        (some_below (λ k. ltb k q.count && p (f (request_at q k))) 16 ≡ false) ↔ ((id : ℕ) (a : A) → mapped f q id ≡ some a → p a ≡ false)
    mapped_none_iff p = (
      (λ e id a h. let w = mapped_some q id h in rw w.2 at ((scan_iff q form (λ w. p (f w))).0 e id w.0 w.1)),
      (λ h. (scan_iff q form (λ w. p (f w))).1 (λ id w e. h id (f w) (mapped_of q id w e))),
    )

    pub mapped_empty_iff : (q.count ≡ 0) ↔ (mapped f q ≡ empty)
    mapped_empty_iff = (
      (λ e. fun_ext (λ id. rw ((count_iff q form).0 e id))),
      (λ e. (count_iff q form).1 (λ id. (none_iff (requests_map q id)).0
          (has_map q id ∙ sym (mapped_has q id) ∙ ap (λ m. is_some (m id)) e))),
    )
