-- A call in its written form names a reference, and so does an awaited read. Assumes nothing.
use Prim.Native.Nat.{◌<◌, ◌≤◌, ℕ}
use mathlib.Core.Bool.{◌||◌, not, true}
use mathlib.Core.Path.{◌≡◌}
use native.Mathlib.Omega.{arith}
use borrow.Author.Tests.{leb-true, lt-ltb, ltb-false, ltb-true}
use lib.Dec.{leb, ltb}
use lib.ListN.{get_or-eq_default, length}
use Rattle.base.proofs.Scan.{all_at}
use Rattle.base.proofs.Tests.{and_iff, and_left, and_right, split}
use Rattle.blockcache.specs.Form.{blocks_form, cache_form, each_request, parts_form, read_ok, reads_form}
use Rattle.blockcache.specs.Ops.{dop_id}
use Rattle.blockcache.specs.Rows.{read_ref}
use Rattle.blockcache.specs.declared.CacheState.{CacheState}
use Rattle.blockcache.specs.declared.Call.{Call}
use Rattle.blockcache.specs.declared.Settings.{Settings}
use Rattle.queue.proofs.Laws.{form_length, found_used}
use Rattle.queue.specs.Queue.{entry_of, find_of, request_at, requests_form, zero_request}
use Rattle.queue.specs.declared.Requests.{Requests}
use Rattle.sectortype.specs.Form.{loc_zero}

entry_reference : (q : Requests) (id : ℕ) → reads_form q ≡ true → (entry_of q id).reference < 64
unfolding reads_form entry_of
entry_reference q id form =
    split (ltb (find_of q id) 16)
    (λ t. let b : find_of q id < 16 = ltb-true _ _ t in
    let u = found_used q id b in
    let ok : (not (ltb (find_of q id) q.count) || read_ok (request_at q (find_of q id))) ≡ true =
    all_at (λ k. not (ltb k q.count) || read_ok (request_at q k)) 16 (find_of q id)
    (and_right (requests_form q) (each_request read_ok q) form) b in
    let small : read_ok (request_at q (find_of q id)) ≡ true = rw (lt-ltb _ _ u) at ok in
    let s : (request_at q (find_of q id)).reference ≤ 63 = leb-true _ _
    (and_left (leb (request_at q (find_of q id)).reference 63) (loc_zero (request_at q (find_of q id)).loc) small) in
    omega arith)
    (λ t. let l = form_length q (and_left (requests_form q) (each_request read_ok q) form) in
    let b : 16 ≤ find_of q id = ltb-false _ _ t in
    let m : length q.at ≤ find_of q id = omega arith in
    rw (get_or-eq_default q.at zero_request m) (omega arith))

pub read_reference : (g : Settings) (c : CacheState) (q : Call) → cache_form g.device c ≡ true → read_ref g c q < 64
unfolding cache_form parts_form
read_reference g c q e =
    let h = simp and_iff at (and_left (parts_form c) (blocks_form g.device c) e) in
    entry_reference c.outstanding.reads (dop_id q.dop) h.0.0.1.1
