-- What callers cite of the queue: its written form is kept, and it stands for a partial map that an insert and a remove change at one id. Assumes nothing.
use Prim.Native.Nat.{◌<◌, ◌≤◌, ℕ}
use mathlib.Core.Bool.{Bool, ◌&&◌, false, true}
use mathlib.Core.Logic.{◌↔◌}
use mathlib.Core.Option.{none, some}
use mathlib.Core.Path.{◌∙◌, ◌≡◌, ap, refl, sym}
use native.Mathlib.Omega.{arith}
use borrow.Author.Tests.{lt-leb, ltb-true}
use lib.Dec.{eqb, ltb}
use lib.ListN.{length}
use Rattle.base.proofs.Lookup.{count_zero_iff as zero_iff_map, lookup_empty, lookup_insert as map_inserted, lookup_is_some, lookup_place}
use Rattle.base.proofs.Lookup.{lookup_remove as map_removed, none_iff_lookup as none_iff_map}
use Rattle.base.proofs.Maps.{del_same}
use Rattle.base.proofs.QueueForm.{form_count as count_of_form, form_length as length_of_form, insert_form as form_inserted}
use Rattle.base.proofs.QueueForm.{remove_form as form_removed}
use Rattle.base.proofs.Scan.{first_found, first_passes}
use Rattle.base.proofs.Tests.{and_left}
use Rattle.base.specs.Maps.{del, empty, flagged, is_some, put}
use Rattle.base.specs.Queue.{key_at}
use Rattle.base.specs.Scan.{all_below, some_below}
use Rattle.queue.specs.Queue.{any_request, blank, entry_of, find_of, has_of, id_of, insert_of, empty_requests, remove_of, request_at}
use Rattle.queue.specs.Queue.{requests_form, requests_map, zero_request}
use Rattle.queue.specs.declared.Request.{Request}
use Rattle.queue.specs.declared.Requests.{Requests}

-- a place that was found is in use
pub found_used : (q : Requests) (id : ℕ) → find_of q id < 16 → find_of q id < q.count
unfolding find_of
found_used q id b =
    ltb-true _ _ (and_left (ltb (find_of q id) q.count) (eqb (request_at q (find_of q id)).id id)
    (first_passes (key_at id_of zero_request 16 q.count q.at id) 16 b))

-- an id is in the queue exactly if the map has it, and then the request is the map's
pub has_map : (q : Requests) (id : ℕ) → is_some (requests_map q id) ≡ has_of q id
unfolding requests_map has_of
has_map q id = lookup_is_some id_of zero_request 16 q.count q.at id

pub entry_map : (q : Requests) (id : ℕ) → requests_map q id ≡ flagged (has_of q id) (entry_of q id)
unfolding requests_map has_of entry_of find_of
entry_map q id = refl

pub map_id : (q : Requests) (id : ℕ) {w : Request} → requests_map q id ≡ some w → w.id ≡ id
unfolding requests_map
map_id q id {w} e = (lookup_place id_of zero_request 16 q.count q.at id e).3

-- the empty queue
pub none_form : requests_form empty_requests ≡ true
unfolding requests_form all_below
none_form = refl

pub none_map : requests_map empty_requests ≡ empty
unfolding requests_map
none_map = lookup_empty id_of zero_request 16 empty_requests.at

module _ (q : Requests) (form : requests_form q ≡ true) where
  pub form_length : length q.at ≡ 16
  unfolding requests_form
  form_length = length_of_form id_of zero_request 16 any_request blank q.count q.at form

  pub form_count : q.count ≤ 16
  unfolding requests_form
  form_count = count_of_form id_of zero_request 16 any_request blank q.count q.at form

  -- a scan of the requests in use
  pub scan_iff : (p : Request → Bool) →
      (some_below (λ k. ltb k q.count && p (request_at q k)) 16 ≡ false) ↔
      ((id : ℕ) (w : Request) → requests_map q id ≡ some w → p w ≡ false)
  unfolding requests_form requests_map
  scan_iff p = none_iff_map id_of zero_request 16 any_request blank q.count q.at form p

  -- nothing is outstanding
  pub count_iff : (q.count ≡ 0) ↔ ((id : ℕ) → requests_map q id ≡ none)
  unfolding requests_form requests_map
  count_iff = zero_iff_map id_of zero_request 16 any_request blank q.count q.at form

  pub insert_form : (w : Request) → q.count < 16 → has_of q w.id ≡ false → requests_form (insert_of q w) ≡ true
  unfolding requests_form insert_of has_of
  insert_form w room new =
      simp (lt-leb _ _ room) (form_inserted id_of zero_request 16 any_request blank q.count q.at w room new refl form)

  pub insert_map : (w : Request) → q.count < 16 → has_of q w.id ≡ false → requests_map (insert_of q w) ≡ put (requests_map q) w.id w
  unfolding requests_form requests_map insert_of has_of
  insert_map w room new =
      simp (lt-leb _ _ room) (map_inserted id_of zero_request 16 any_request blank q.count q.at w room new refl form)

  found_below : (id : ℕ) → has_of q id ≡ true → find_of q id < 16
  unfolding has_of find_of
  found_below id there = first_found (key_at id_of zero_request 16 q.count q.at id) 16 there

  pub remove_form : (id : ℕ) → has_of q id ≡ true → requests_form (remove_of q id) ≡ true
  unfolding requests_form remove_of find_of
  remove_form id there =
      simp (lt-leb _ _ (found_below id there))
      (form_removed id_of zero_request 16 any_request blank q.count q.at (find_of q id) (found_used q id (found_below id there)) refl form)

  pub remove_map : (id : ℕ) → has_of q id ≡ true → requests_map (remove_of q id) ≡ del (requests_map q) id
  unfolding requests_form requests_map remove_of has_of find_of
  remove_map id there =
      simp (lt-leb _ _ (found_below id there)) (map_removed id_of zero_request 16 any_request blank q.count q.at id there refl form)

  -- a queue of which a request is taken out has room
  pub remove_room : (id : ℕ) → has_of q id ≡ true → (remove_of q id).count < 16
  unfolding remove_of
  remove_room id there =
      let b = found_below id there in
      let u = found_used q id b in
      let m = form_count in
      simp (lt-leb _ _ b) (omega arith)

  -- and its id is not in it
  pub remove_gone : (id : ℕ) → has_of q id ≡ true → has_of (remove_of q id) id ≡ false
  remove_gone id there =
      sym (has_map (remove_of q id) id) ∙ ap is_some (ap (λ m. m id) (remove_map id there) ∙ del_same (requests_map q) id)
