-- A row of areas or blocks with one record or none each, read at exactly a place: what tables and nodes share, so that each law is shown once.
-- Assumes nothing.
use Prim.Native.Nat.{◌<◌, ℕ}
use mathlib.Core.Bool.{Bool, ◌&&◌, and-false, true}
use mathlib.Core.List.{List}
use mathlib.Core.Logic.{◌↔◌}
use mathlib.Core.Option.{Option, none, some}
use mathlib.Core.Path.{◌∙◌, ◌≡◌, ap, refl, sym}
use lib.ListN.{get_or, length, set}
use lib.Seq.{get_or-set_other, get_or-set_same}
use Rattle.base.proofs.Maps.{flagged_some}
use Rattle.base.proofs.Tests.{and_iff, clash, never, split}
use Rattle.base.specs.Maps.{flagged}
use Rattle.blockdisk.specs.Upstream.{DiskMapUpdate, Imap}
use Rattle.disklayout.specs.Layout.{overlap, same_loc}
use Rattle.disklayout.specs.declared.Location.{Location}
use Rattle.disklayout.proofs.Facts.{same_loc_iff}

pub record RecordArray (R A : Type 0) : Type 0 where
  pub there : R → Bool
  pub loc : R → Location
  pub thing : R → A
  pub blank : R
  pub size : ℕ
  -- the number of the area or block that has an address
  pub number : ℕ → Option ℕ
  -- the places that are allowed
  pub place : Location → Bool
  -- the record's thing is in its written form, and a test of equality for such
  pub form : R → Bool
  pub same : R → R → Bool

pub record Laws {R A : Type 0} (s : RecordArray R A) : Type 0 where
  pub below : (a k : ℕ) → s.number a ≡ some k → k < s.size
  pub single : (a b k : ℕ) → s.number a ≡ some k → s.number b ≡ some k → a ≡ b
  pub numbered : (l : Location) → s.place l ≡ true → (k : ℕ) × (s.number l.addr ≡ some k)
  pub overlapping : (l k : Location) → s.place l ≡ true → s.place k ≡ true → (overlap l k ≡ true) ↔ (l.addr ≡ k.addr)
  pub same_iff : (x y : R) → s.form x ≡ true → s.form y ≡ true → (s.same x y ≡ true) ↔ (s.thing x ≡ s.thing y)

module _ {R A : Type 0} (s : RecordArray R A) where
  abbrev pub record_at : List R → ℕ → R
  record_at l k = get_or l k s.blank

  -- area or block k holds the thing at the place
  pub record Holds (l : List R) (p : Location) (a : A) (k : ℕ) : Type 0 where
    pub number : s.number p.addr ≡ some k
    pub there : s.there (record_at l k) ≡ true
    pub loc : s.loc (record_at l k) ≡ p
    pub thing : s.thing (record_at l k) ≡ a

  -- each record is at an allowed place of its own area or block
  abbrev pub Placed : List R → Type 0
  Placed l =
      (k : ℕ) → k < s.size → s.there (record_at l k) ≡ true → (s.place (s.loc (record_at l k)) ≡ true)
      × (s.number (s.loc (record_at l k)).addr ≡ some k)

  abbrev pub Formed : List R → Type 0
  Formed l = (k : ℕ) → k < s.size → s.form (record_at l k) ≡ true

  abbrev pub read_in : List R → Location → Option ℕ → Option A
  read_in l p none = none
  read_in l p (some k) = flagged (s.there (record_at l k) && same_loc (s.loc (record_at l k)) p) (s.thing (record_at l k))

  -- what is stored at exactly the place
  unfoldable pub reads : List R → Imap A
  reads l = λ p. read_in l p (s.number p.addr)

  pub reads_iff : (l : List R) (p : Location) (a : A) → (reads l p ≡ some a) ↔ ((k : ℕ) × Holds l p a k)
  unfolding reads
  reads_iff l p a = (to (s.number p.addr) refl, from)
    where
      to : (o : Option ℕ) → s.number p.addr ≡ o → read_in l p o ≡ some a → (k : ℕ) × Holds l p a k
      to none e h = never h
      to (some k) e h =
          let f = flagged_some (s.there (record_at l k) && same_loc (s.loc (record_at l k)) p) (s.thing (record_at l k)) h in
          let t = simp (same_loc_iff, and_iff) at f.0 in
          (k, record { number = e; there = t.0; loc = t.1; thing = f.1 })

      from : (k : ℕ) × Holds l p a k → read_in l p (s.number p.addr) ≡ some a
      from (k, h) = rw (h.number, h.there, h.loc, (same_loc_iff p p).1 refl, h.thing)

  -- A RECORD REPLACED

  module _ (w : Laws s) (l : List R) (k : ℕ) (v : R) (fits : k < length l) (there : s.there v ≡ true)
      (at : s.number (s.loc v).addr ≡ some k) where
    pub replaced_same : reads (set l k v) (s.loc v) ≡ some (s.thing v)
    replaced_same =
        (reads_iff (set l k v) (s.loc v) (s.thing v)).1 (
          k,
          record {
            number = at;
            there = rw (get_or-set_same l k v s.blank fits) there;
            loc = rw
                (get_or-set_same l k v s.blank fits);
            thing = rw (get_or-set_same l k v s.blank fits);
          },
        )

    pub replaced_elsewhere : (p : Location) → (p.addr ≡ (s.loc v).addr → ⊥) → reads (set l k v) p ≡ reads l p
    unfolding reads
    replaced_elsewhere p ne = go (s.number p.addr) refl
      where
        go : (o : Option ℕ) → s.number p.addr ≡ o → read_in (set l k v) p o ≡ read_in l p o
        go none e = refl
        go (some j) e =
            let other : (j ≡ k → ⊥) = λ q. ne (w.single p.addr (s.loc v).addr k (e ∙ ap some q) at) in
            rw (get_or-set_other l k j v s.blank other)

    pub replaced_away : (p : Location) → p.addr ≡ (s.loc v).addr → (p ≡ s.loc v → ⊥) → reads (set l k v) p ≡ none
    unfolding reads
    replaced_away p e ne =
        let q : s.number p.addr ≡ some k = ap s.number e ∙ at in
        rw (q, get_or-set_same l k v s.blank fits)
        (split (same_loc (s.loc v) p) (λ y. absurd (ne (sym ((same_loc_iff (s.loc v) p).0 y)))) (λ y. rw (y, and-false (s.there v))))

    -- upstream's DiskMapUpdate, where the records and the new one are placed
    pub replaced_update : Placed l → s.place (s.loc v) ≡ true → DiskMapUpdate (reads l) (reads (set l k v)) (s.loc v) (s.thing v)
    replaced_update placed allowed =
        record {
          updated = replaced_same;
          others = λ p x e clear.
              let h = (reads_iff l p x).0 e in
              let j = h.1 in
              let b = placed h.0 (w.below p.addr h.0 j.number) j.there in
              let ok : s.place p ≡ true = rw j.loc at b.0 in
              let away : (p.addr ≡ (s.loc v).addr → ⊥) = λ q. clash ((w.overlapping p (s.loc v) ok allowed).1 q) clear in
              replaced_elsewhere p away ∙ e;
        }
