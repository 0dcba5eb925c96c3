-- The queue of 16 by ascending id, as the generic queue of `base` at one element.
use Rattle.std.specs.Prelude.{Bool, true, ◌&&◌, cond, ℕ, ◌+◌, ◌-◌, get_or, replicate, eqb, leb, ltb}
use Rattle.std.proofs.Math.Option.{map}
use Rattle.base.specs.Maps.{Map}
use Rattle.base.specs.Scan.{some_below}
use Rattle.base.specs.Queue.{has_in, find_in, spot_in, insert_in, remove_in, lookup_in, spot_ok, queue_form}
use Rattle.queue.specs.declared.Request.{Request}
use Rattle.queue.specs.declared.Requests.{Requests}

abbrev pub zero_request : Request
zero_request = record { id = 0; reference = 0; loc = record { addr = 0; len = 0 } }

abbrev pub empty_requests : Requests
empty_requests = record { count = 0; at = replicate 16 zero_request }

-- what a place in the queue is known by
abbrev pub id_of : Request → ℕ
id_of w = w.id

abbrev pub blank : Request → Bool
blank w = eqb w.id 0 && eqb w.reference 0 && eqb w.loc.addr 0 && eqb w.loc.len 0

abbrev pub any_request : Request → Bool
any_request w = true

-- place k of a queue of n holds w, and the place before it p
abbrev pub request_form : ℕ → ℕ → Request → Request → Bool
request_form n k p w = spot_ok id_of zero_request 16 any_request blank n k p w

abbrev pub request_at : Requests → ℕ → Request
request_at q k = get_or q.at k zero_request

-- the one written form: 16 places, ids ascend, unused places are zeros
unfoldable pub requests_form : Requests → Bool
requests_form q = queue_form id_of zero_request 16 any_request blank q.count q.at

unfoldable pub has_of : Requests → ℕ → Bool
has_of q id = has_in id_of zero_request 16 q.count q.at id

-- a request has the address
unfoldable pub has_addr : Requests → ℕ → Bool
has_addr q a = some_below (λ k. ltb k q.count && eqb (request_at q k).loc.addr a) 16

unfoldable pub find_of : Requests → ℕ → ℕ
find_of q id = find_in id_of zero_request 16 q.count q.at id

-- the request with this id, or zeros
unfoldable pub entry_of : Requests → ℕ → Request
entry_of q id = get_or q.at (find_of q id) zero_request

unfoldable pub place_of : Requests → ℕ → ℕ
place_of q id = spot_in id_of zero_request 16 q.count q.at id

unfoldable pub insert_of : Requests → Request → Requests
insert_of q w = cond (leb 16 q.count) q (record { count = q.count + 1; at = insert_in id_of zero_request 16 q.count q.at w })

unfoldable pub remove_of : Requests → ℕ → Requests
remove_of q id = cond (leb 16 (find_of q id)) q (record { count = q.count - 1; at = remove_in id_of zero_request 16 q.count q.at id })

-- the partial map that the queue stands for
unfoldable pub requests_map : Requests → Map Request
requests_map q = lookup_in id_of zero_request 16 q.count q.at

-- the same map, of what a request stands for: a place, a reference
abbrev pub mapped : {A : Type 0} → (Request → A) → Requests → Map A
mapped f q = λ id. map f (requests_map q id)
