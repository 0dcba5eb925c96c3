-- The outstanding writes and reads as upstream's maps, and what the tests of them say. Assumes nothing.
use Prim.Native.Nat.{◌<◌, ℕ}
use mathlib.Core.Bool.{Bool, ◌&&◌, and_assoc, false, true}
use mathlib.Core.Logic.{◌↔◌}
use mathlib.Core.Option.{some}
use mathlib.Core.Path.{◌∙◌, ◌≡◌, ap, refl, sym}
use borrow.Author.Tests.{eq-eqb, eqb-false, eqb-true, ne_eqb}
use lib.Dec.{eqb, ltb}
use Rattle.base.proofs.Scan.{some_same}
use Rattle.base.proofs.Tests.{and_left, and_right, clash, split}
use Rattle.base.specs.Maps.{del, empty, is_some, put}
use Rattle.blockcache.specs.Abstract.{reads_map, write_of, writes_map}
use Rattle.blockcache.specs.Scan.{reads, writes_to}
use Rattle.blockcache.specs.Upstream.{OutstandingBlockReadsDoesNotHaveRef, OutstandingWrite}
use Rattle.disklayout.specs.declared.Location.{Location}
use Rattle.queue.proofs.Mapped.{mapped_at, mapped_empty_iff, mapped_has, mapped_insert, mapped_none_iff, mapped_remove}
use Rattle.queue.specs.Queue.{entry_of, has_addr, has_of, insert_of, remove_of, request_at, requests_form}
use Rattle.queue.specs.declared.Request.{Request}
use Rattle.queue.specs.declared.Requests.{Requests}
use Rattle.disklayout.proofs.Facts.{same_loc_iff}
use Rattle.disklayout.specs.Layout.{same_loc}

-- THE WRITES

pub writes_has : (q : Requests) (id : ℕ) → is_some (writes_map q id) ≡ has_of q id
unfolding writes_map
writes_has q id = mapped_has write_of q id

module _ (q : Requests) (form : requests_form q ≡ true) where
  pub writes_insert : (w : Request) → q.count < 16 → has_of q w.id ≡ false →
      writes_map (insert_of q w) ≡ put (writes_map q) w.id (write_of w)
  unfolding writes_map
  writes_insert = mapped_insert write_of q form

  pub writes_remove : (id : ℕ) → has_of q id ≡ true → writes_map (remove_of q id) ≡ del (writes_map q) id
  unfolding writes_map
  writes_remove = mapped_remove write_of q form

  pub writes_empty_iff : (q.count ≡ 0) ↔ (writes_map q ≡ empty)
  unfolding writes_map
  writes_empty_iff = mapped_empty_iff write_of q form

  -- no outstanding write has the address
  pub write_holds_iff : (a : ℕ) → (has_addr q a ≡ false) ↔ ((id : ℕ) (w : OutstandingWrite) → writes_map q id ≡ some w → w.loc.addr ≡ a → ⊥)
  unfolding writes_map has_addr
  write_holds_iff a =
      let h = mapped_none_iff write_of q form (λ w. eqb w.loc.addr a) in
      ((λ e id w m. eqb-false w.loc.addr a (h.0 e id w m)), (λ k. h.1 (λ id w m. ne_eqb w.loc.addr a (k id w m))))

  -- no write of the reference to this very location is outstanding
  pub writes_to_iff : (r : ℕ) (l : Location) →
      (writes_to q r l ≡ false) ↔ ((id : ℕ) → writes_map q id ≡ some (record { ref = r; loc = l }) → ⊥)
  unfolding writes_map writes_to
  writes_to_iff r l =
      let p : OutstandingWrite → Bool = λ w. eqb w.ref r && same_loc w.loc l in
      let h = mapped_none_iff write_of q form p in
      let same = some_same (λ k. ltb k q.count && eqb (request_at q k).reference r && same_loc (request_at q k).loc l)
      (λ k. ltb k q.count && p (write_of (request_at q k))) 16
      (λ k b. and_assoc (ltb k q.count) (eqb (request_at q k).reference r) (same_loc (request_at q k).loc l)) in (
        (λ e id m. clash {b = p (record { ref = r; loc = l })} (rw (eq-eqb r r refl) ((same_loc_iff l l).1 refl))
            (h.0 (sym same ∙ e) id (record { ref = r; loc = l }) m)),
        (λ k. same ∙ h.1 (λ id w m. split (p w) (λ t. absurd (k id (m ∙ ap some (is w t)))) (λ t. t))),
      )
    where
      is : (w : OutstandingWrite) → (eqb w.ref r && same_loc w.loc l) ≡ true → w ≡ record { ref = r; loc = l }
      is w t =
          let a : w.ref ≡ r = eqb-true _ _ (and_left (eqb w.ref r) (same_loc w.loc l) t) in
          let b : w.loc ≡ l = (same_loc_iff w.loc l).0 (and_right (eqb w.ref r) (same_loc w.loc l) t) in
          λ i. record { ref = a i; loc = b i }

-- THE READS

pub reads_has : (q : Requests) (id : ℕ) → is_some (reads_map q id) ≡ has_of q id
unfolding reads_map
reads_has q id = mapped_has (λ w. w.reference) q id

pub reads_at : (q : Requests) (id : ℕ) → has_of q id ≡ true → reads_map q id ≡ some (entry_of q id).reference
unfolding reads_map
reads_at q id h = mapped_at (λ w. w.reference) q id h

module _ (q : Requests) (form : requests_form q ≡ true) where
  pub reads_insert : (w : Request) → q.count < 16 → has_of q w.id ≡ false → reads_map (insert_of q w) ≡ put (reads_map q) w.id w.reference
  unfolding reads_map
  reads_insert = mapped_insert (λ w. w.reference) q form

  pub reads_remove : (id : ℕ) → has_of q id ≡ true → reads_map (remove_of q id) ≡ del (reads_map q) id
  unfolding reads_map
  reads_remove = mapped_remove (λ w. w.reference) q form

  pub reads_empty_iff : (q.count ≡ 0) ↔ (reads_map q ≡ empty)
  unfolding reads_map
  reads_empty_iff = mapped_empty_iff (λ w. w.reference) q form

  -- no read of the reference is outstanding
  pub reads_iff : (r : ℕ) → (reads q r ≡ false) ↔ OutstandingBlockReadsDoesNotHaveRef (reads_map q) r
  unfolding reads_map reads
  reads_iff r =
      let h = mapped_none_iff (λ w. w.reference) q form (λ x. eqb x r) in
      ((λ e id x m. eqb-false x r (h.0 e id x m)), (λ k. h.1 (λ id x m. ne_eqb x r (k id x m))))

  -- OutstandingRead(ref) !in outstanding_block_reads.Values
  pub not_read_iff : (r : ℕ) → (reads q r ≡ false) ↔ ((j : ℕ) → reads_map q j ≡ some r → ⊥)
  not_read_iff r = (
    (λ e j m. (reads_iff r).0 e j r m refl),
    (λ h. (reads_iff r).1 (λ id x m s. h id (m ∙ ap some s))),
  )
