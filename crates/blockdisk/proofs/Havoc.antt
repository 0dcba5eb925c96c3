-- A crash, of an array of records: those that must stay are upstream's HavocMap. Assumes nothing.
use Prim.Native.Nat.{◌<◌, ℕ}
use mathlib.Core.Bool.{Bool, ◌&&◌, ◌||◌, false, not, true}
use mathlib.Core.List.{List}
use mathlib.Core.Logic.Iff
use mathlib.Core.Logic.{◌↔◌}
use mathlib.Core.Option.{some}
use mathlib.Core.Path.{◌∙◌, ◌≡◌, refl, sym}
use Rattle.base.proofs.Tests.{and_iff, clash, not_iff, or_iff, or_true_iff}
use Rattle.blockdisk.proofs.Outstanding.{written_iff}
use Rattle.blockdisk.proofs.RecordArray.{Formed, Holds, Laws, Placed, RecordArray, reads, reads_iff, record_at}
use Rattle.blockdisk.specs.Upstream.{UntouchedLoc, HavocMap, places}
use Rattle.disklayout.proofs.Facts.{refuted, same_loc_iff}
use Rattle.disklayout.specs.declared.Location.{Location}
use Rattle.queue.specs.Queue.{has_addr, requests_form}
use Rattle.queue.specs.declared.Requests.{Requests}
use Rattle.disklayout.specs.Layout.{same_loc}

module _ {R A : Type 0} (s : RecordArray R A) (q : Requests) where
  -- a record x that is there is unchanged in y, unless a write is outstanding at its address
  abbrev pub kept_in : R → R → Bool
  kept_in x y = not (s.there x) || has_addr q (s.loc x).addr || (s.there y && same_loc (s.loc x) (s.loc y) && s.same x y)

  abbrev pub Stays : R → R → Type 0
  Stays x y = (s.there x ≡ true) × (has_addr q (s.loc x).addr ≡ false) → ((s.there y ≡ true) × (s.loc x ≡ s.loc y)) × (s.same x y ≡ true)

  pub kept_iff : (x y : R) → (kept_in x y ≡ true) ↔ Stays x y
  kept_iff x y = simp (or_true_iff, or_iff, not_iff, same_loc_iff, and_iff) Iff.rfl

  module _ (w : Laws s) (old new : List R) (formed : Formed s old) (formed' : Formed s new) where
    -- what is stored where no write is outstanding is stored afterwards
    pub kept_stored : ((k : ℕ) → k < s.size → kept_in (record_at s old k) (record_at s new k) ≡ true) →
        (p : Location) (a : A) → reads s old p ≡ some a → has_addr q p.addr ≡ false → reads s new p ≡ some a
    kept_stored h p a e free =
        let (k, x) = (reads_iff s old p a).0 e in
        let b = w.below p.addr k x.number in
        let t = (kept_iff (record_at s old k) (record_at s new k)).0 (h k b) (x.there, rw x.loc free) in
        let same = (w.same_iff (record_at s old k) (record_at s new k) (formed k b) (formed' k b)).0 t.1 in
        (reads_iff s new p a).1 (k, record { number = x.number; there = t.0.0; loc = sym t.0.1 ∙ x.loc; thing = sym same ∙ x.thing })

    -- and the reverse, where each record is placed
    pub stored_kept : Placed s old →
        ((p : Location) (a : A) → reads s old p ≡ some a → has_addr q p.addr ≡ false → reads s new p ≡ some a) →
        (k : ℕ) → k < s.size → kept_in (record_at s old k) (record_at s new k) ≡ true
    stored_kept placed h k b =
        (kept_iff (record_at s old k) (record_at s new k)).1
        (λ (there, free).
        let l = s.loc (record_at s old k) in
        let a = s.thing (record_at s old k) in
        let n = (placed k b there).1 in
        let (j, y) = (reads_iff s new l a).0
        (h l a ((reads_iff s old l a).1 (k, record { number = n; there = there; loc = refl; thing = refl })) free) in
        let e : j ≡ k = (let u : some j ≡ some k = sym y.number ∙ n in cc) in
        let z : Holds s new l a k = rw e at y in
        ((z.there, sym z.loc), (w.same_iff (record_at s old k) (record_at s new k) (formed k b) (formed' k b)).1 (sym z.thing)))

  -- an allowed place is untouched exactly if no write is outstanding at its address
  pub untouched_iff : Laws s → requests_form q ≡ true → ((id : ℕ) (l : Location) → places q id ≡ some l → s.place l ≡ true) →
      (p : Location) → s.place p ≡ true → (has_addr q p.addr ≡ false) ↔ UntouchedLoc p (places q)
  untouched_iff w form queued p ok = (
    (λ e id l h. refuted (λ o. (written_iff q p.addr form).0 e id l h (sym ((w.overlapping p l ok (queued id l h)).0 o)))),
    (λ u. (written_iff q p.addr form).1 (λ id l h e. clash ((w.overlapping p l ok (queued id l h)).1 (sym e)) (u id l h))),
  )

  pub havoc_iff : Laws s → requests_form q ≡ true → ((id : ℕ) (l : Location) → places q id ≡ some l → s.place l ≡ true) →
      (old new : List R) → Formed s old → Formed s new → Placed s old →
      ((k : ℕ) → k < s.size → kept_in (record_at s old k) (record_at s new k) ≡ true) ↔ HavocMap (reads s old) (reads s new) (places q)
  havoc_iff w form queued old new f g placed = (
    (λ h p a e u. kept_stored w old new f g h p a e ((untouched_iff w form queued p (allowed p a e)).1 u)),
    (λ h. stored_kept w old new f g placed (λ p a e free. h p a e ((untouched_iff w form queued p (allowed p a e)).0 free))),
  )
    where
      allowed : (p : Location) (a : A) → reads s old p ≡ some a → s.place p ≡ true
      allowed p a e = let (k, x) = (reads_iff s old p a).0 e in rw x.loc at (placed k (w.below p.addr k x.number) x.there).0
