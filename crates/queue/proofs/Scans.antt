-- What a chain over the requests in use says, as the definitions say it: whether one passes, and where the first stands. Assumes nothing.
use mathlib.Core.Bool.{Bool, ◌&&◌, ◌||◌, not}
use mathlib.Core.Path.{◌∙◌, ◌≡◌, ap, sym}
use Prim.Native.Nat.{min, ℕ, ◌<◌, ◌≤◌}
use native.Mathlib.Omega.{arith}
use lib.Dec.{eqb, leb, ltb}
use lib.ListN.{get_or-eq_default, length, take}
use borrow.Author.Tests.{le-leb, leb-false, leb-true, lt-leb}
use lib.Seq.{take_all}
use Rattle.std.specs.List.{list_all, list_any, position}
use Rattle.std.specs.Prelude.{None, Some, unwrap_or}
use Rattle.base.specs.Scan.{all_below, some_below}
use Rattle.base.proofs.Chains.{all_front_is_all, any_front_is_some, place_none, place_some, position_front_is_first}
use Rattle.base.proofs.Chains.{position_front_or_front, position_or_end}
use Rattle.base.proofs.Scan.{first_at_most, first_le, first_same}
use Rattle.base.proofs.Tests.{or_inl, split}
use Rattle.queue.specs.Queue.{entry_of, find_of, has_addr, has_of, place_of, request_at, zero_request}
use Rattle.queue.specs.declared.Request.{Request}
use Rattle.queue.specs.declared.Requests.{Requests}

-- any test of the requests in use
module _ (p : Request → Bool) (q : Requests) (e : length q.at ≡ 16) where
  pub used_all : list_all p (take q.count q.at) ≡ all_below (λ k. not (ltb k q.count) || p (request_at q k)) 16
  used_all = rw (← e) (all_front_is_all p zero_request q.count q.at)

  pub used_any : list_any p (take q.count q.at) ≡ some_below (λ k. ltb k q.count && p (request_at q k)) 16
  used_any = rw (← e) (any_front_is_some p zero_request q.count q.at)

module _ (q : Requests) (id : ℕ) (e : length q.at ≡ 16) where
  pub chain_has : list_any (λ w. eqb w.id id) (take q.count q.at) ≡ has_of q id
  unfolding has_of
  chain_has = used_any (λ w. eqb w.id id) q e

  pub chain_has_addr : list_any (λ w. eqb w.loc.addr id) (take q.count q.at) ≡ has_addr q id
  unfolding has_addr
  chain_has_addr = used_any (λ w. eqb w.loc.addr id) q e

  pub chain_found : {p : ℕ} → position (λ w. eqb w.id id) (take q.count q.at) ≡ Some p → (find_of q id ≡ p) × (p < 16)
  unfolding find_of
  chain_found f =
      rw (← e) (place_some _ (length q.at) (sym (position_front_is_first (λ w. eqb w.id id) zero_request q.count q.at) ∙ f))

  pub chain_missing : position (λ w. eqb w.id id) (take q.count q.at) ≡ None → find_of q id ≡ 16
  unfolding find_of
  chain_missing f =
      rw (← e) (place_none _ (length q.at) (first_le _ (length q.at))
      (sym (position_front_is_first (λ w. eqb w.id id) zero_request q.count q.at) ∙ f))

  chain_place_full : 16 ≤ q.count → unwrap_or (position (λ w. leb id w.id) (take q.count q.at)) 16 ≡ place_of q id
  unfolding place_of
  chain_place_full b =
      let a : take q.count q.at ≡ q.at = take_all q.count q.at (omega arith) in
      ap (λ xs. unwrap_or (position (λ w. leb id w.id) xs) 16) a
      ∙ position_or_end (λ w. leb id w.id) zero_request q.at 16 e
      ∙ first_same _ _ 16 (λ k c. sym (rw (lt-leb q.count k (omega arith))))

  chain_place_used : q.count ≤ 16 → unwrap_or (position (λ w. leb id w.id) (take q.count q.at)) q.count ≡ place_of q id
  unfolding place_of
  chain_place_used b = rw (← e) (position_front_or_front (λ w. leb id w.id) zero_request q.count q.at (omega arith))

  pub chain_place : unwrap_or (position (λ w. leb id w.id) (take q.count q.at)) (min q.count 16) ≡ place_of q id
  chain_place =
      split (leb q.count 16)
      (λ t. let b : q.count ≤ 16 = leb-true _ _ t in let m : min q.count 16 ≡ q.count = omega arith in rw m (chain_place_used b))
      (λ t. let b : 16 < q.count = leb-false _ _ t in let m : min q.count 16 ≡ 16 = omega arith in rw m (chain_place_full (omega arith)))

-- a request belongs at a place in use, or at the first that is free
pub place_used : (q : Requests) (id : ℕ) → place_of q id ≤ q.count
unfolding place_of
place_used q id =
    first_at_most (λ k. leb q.count k || leb id (request_at q k).id) 16 q.count (or_inl _ (le-leb q.count q.count (omega arith)))

-- no request has the id: the place that is read is past the end
pub chain_no_entry : (q : Requests) (id : ℕ) → length q.at ≡ 16 → position (λ w. eqb w.id id) (take q.count q.at) ≡ None →
    entry_of q id ≡ zero_request
unfolding entry_of
chain_no_entry q id e f = rw (chain_missing q id e f) (get_or-eq_default q.at zero_request (omega arith))

-- what a search for an id tells, found or not
pub ruleset chain_find = (chain_found, chain_missing)
