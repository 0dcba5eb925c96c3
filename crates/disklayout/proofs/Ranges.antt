-- The journal's points and ranges: what upstream ensures of them, for any good row, and an arm of the code for each law.
-- Assumes nothing.
use mathlib.Core.Path.{◌≡◌}
use mathlib.Core.Bool.{true, ◌&&◌, ◌||◌}
use mathlib.Core.Option.{some}
use Prim.Native.Nat.{ℕ, ◌+◌, ◌-◌, ◌*◌, ◌/◌, ◌%◌, ◌^◌, ◌<◌, ◌≤◌}
use native.Mathlib.Nat.{add-mul-mod_self_right, mul-mod_left, mul-div_cancel}
use native.Mathlib.Omega.{arith}
use lib.Dec.{eqb, leb, ltb}
use borrow.Author.Tests.{eq-eqb, ne_eqb, le-leb, lt-leb, lt-ltb, le-ltb, leb-true}
use Rattle.base.proofs.Tests.{split, never, tests}
use Rattle.disklayout.specs.declared.Device.{Device}
use Rattle.disklayout.specs.declared.Location.{Location}
use Rattle.disklayout.specs.declared.Refused.TheVariants.{Undefined}
use Rattle.std.specs.Prelude.{Ok, Err, Some, None}
use Rattle.disklayout.specs.Calls.{answered_when, told}
use Rattle.disklayout.specs.Device.{Good}
use Rattle.disklayout.specs.Layout.{journal_start_addr, journal_end_addr, valid_journal_location}
use Rattle.disklayout.specs.Journal.{journal_point, journal_range_requires, journal_range_location, loc_contained_in_circular_journal_range}
use Rattle.disklayout.specs.Journal.{loc_disjoint_from_circular_journal_range, journal_pos_add, journal_front_location}
use Rattle.disklayout.specs.Journal.{journal_back_location, journal_block_idx}
use Rattle.disklayout.proofs.Facts.{journal_iff, index_iff}

-- WHAT UPSTREAM ENSURES

some_one : {A : Type 0} {x y : A} → some x ≡ some y → x ≡ y
some_one e = cc

aligned_point : (a : ℕ) → 8192 ≤ a → a % 4096 ≡ 0 → a ≡ 8192 + (a - 8192) / 4096 * 4096
aligned_point a h e = omega arith

module _ (w : Device) (g : Good w) where
  -- a point of the journal fits 64 bits
  pub point_fits : (p : ℕ) → p ≤ w.journal → journal_point w p < 2 ^ 64
  point_fits p h = omega (arith, g.past, g.fits)

  -- JournalRangeLocation ensures a valid journal location
  pub range_valid : (s n : ℕ) → journal_range_requires w s n ≡ true → valid_journal_location w (journal_range_location w s n) ≡ true
  range_valid s n e = let h = simp tests at e in range_in s n h.0 h.1
    where
      range_in : (s n : ℕ) → s < w.journal → s + n ≤ w.journal → valid_journal_location w (journal_range_location w s n) ≡ true
      range_in s n h k =
          (journal_iff w (journal_range_location w s n)).1
          (record {
            aligned = add-mul-mod_self_right 8192 s 4096;
            whole = mul-mod_left n 4096;
            high = omega arith;
            index = (index_iff w (journal_point w s) (omega arith)).1 (omega arith);
            fits = omega (arith, g.past, g.fits);
            ends = omega arith;
          })

  -- so does what front and back hand back, for any length and for one of at most the journal's
  pub front_valid : (s n : ℕ) (l : Location) → s < w.journal → journal_front_location w s n ≡ some l → valid_journal_location w l ≡ true
  front_valid s n l h e =
      split (eqb n 0) (λ t. never (rw t at e))
      (λ f. split (leb n (w.journal - s))
      (λ t. let q : journal_range_location w s n ≡ l = some_one (rw (f, t) at e) in
      rw (← q) (range_valid s n (simp tests (h, (let k : n ≤ w.journal - s = leb-true _ _ t in omega arith)))))
      (λ t. let q : journal_range_location w s (w.journal - s) ≡ l = some_one (rw (f, t) at e) in
      rw (← q) (range_valid s (w.journal - s) (simp tests (h, omega arith)))))

  pub back_valid : (s n : ℕ) (l : Location) → s < w.journal → n ≤ w.journal → journal_back_location w s n ≡ some l →
      valid_journal_location w l ≡ true
  back_valid s n l h k e =
      split (eqb n 0) (λ t. never (rw t at e))
      (λ f. split (leb n (w.journal - s)) (λ t. never (rw (f, t) at e))
      (λ t. let q : journal_range_location w 0 (n - (w.journal - s)) ≡ l = some_one (rw (f, t) at e) in
      rw (← q) (range_valid 0 (n - (w.journal - s)) (simp tests (omega arith, omega arith)))))

module _ (w : Device) (l : Location) (v : valid_journal_location w l ≡ true) where
  -- JournalBlockIdx ensures that the index is one of the journal's
  pub idx_bound : journal_block_idx w l < w.journal
  idx_bound = ((journal_iff w l).0 v).index

  -- and that the place begins at that point
  pub idx_point : l.addr ≡ journal_point w (journal_block_idx w l)
  idx_point = let j = (journal_iff w l).0 v in aligned_point l.addr j.high j.aligned

-- the index of a range is its start
pub idx_range : (w : Device) (s n : ℕ) → journal_block_idx w (journal_range_location w s n) ≡ s
idx_range w s n = let e : 8192 + s * 4096 - 8192 ≡ s * 4096 = omega arith in rw e (mul-div_cancel s (omega arith))

-- POSITIONS

-- a number that fits 64 bits is answered, one that does not is refused
fits_answered : (x v : ℕ) → x ≡ v → v < 2 ^ 64 → Ok v ≡ answered_when (ltb x (2 ^ 64)) x
fits_answered x v e h = rw (e, lt-ltb v (2 ^ 64) h)

past_refused : (x v : ℕ) → x ≡ v → 2 ^ 64 ≤ v → Err Undefined ≡ answered_when (ltb x (2 ^ 64)) x
past_refused x v e h = rw (e, le-ltb v (2 ^ 64) h)

-- the code's four arms: no sum in them passes 64 bits
module _ (w : Device) (s n : ℕ) where
  past : w.journal ≤ s → journal_pos_add w s n ≡ s - w.journal + n
  past h = rw (le-leb w.journal (s + n) (omega arith)) (omega arith)

  pub pos_past : s < 2 ^ 64 → w.journal ≤ s → n ≤ 18446744073709551615 - (s - w.journal) →
      Ok (s - w.journal + n) ≡ answered_when (ltb (journal_pos_add w s n) (2 ^ 64)) (journal_pos_add w s n)
  pos_past b h k = fits_answered (journal_pos_add w s n) (s - w.journal + n) (past h) (omega arith)

  pub pos_refused : w.journal ≤ s → 18446744073709551615 - (s - w.journal) < n →
      Err Undefined ≡ answered_when (ltb (journal_pos_add w s n) (2 ^ 64)) (journal_pos_add w s n)
  pos_refused h k = past_refused (journal_pos_add w s n) (s - w.journal + n) (past h) (omega arith)

  pub pos_below : w.journal < 2 ^ 64 → n < w.journal - s →
      Ok (s + n) ≡ answered_when (ltb (journal_pos_add w s n) (2 ^ 64)) (journal_pos_add w s n)
  pos_below b k = fits_answered (journal_pos_add w s n) (s + n) (rw (lt-leb w.journal (s + n) (omega arith))) (omega arith)

  pub pos_round : n < 2 ^ 64 → s < w.journal → w.journal - s ≤ n →
      Ok (n - (w.journal - s)) ≡ answered_when (ltb (journal_pos_add w s n) (2 ^ 64)) (journal_pos_add w s n)
  pos_round b h k =
      fits_answered (journal_pos_add w s n) (n - (w.journal - s)) (rw (le-leb w.journal (s + n) (omega arith)) (omega arith)) (omega arith)

-- FRONT AND BACK

module _ (w : Device) (s n : ℕ) where
  pub front_none : n ≡ 0 → None ≡ told (journal_front_location w s n)
  front_none e = rw (eq-eqb n 0 e)

  pub front_whole : (l : Location) → (n ≡ 0 → ⊥) → n ≤ w.journal - s → l ≡ journal_range_location w s n →
      Some l ≡ told (journal_front_location w s n)
  front_whole l z h e = rw (e, ne_eqb n 0 z, le-leb n (w.journal - s) h)

  pub front_part_lem : (l : Location) → (n ≡ 0 → ⊥) → w.journal - s < n → l ≡ journal_range_location w s (w.journal - s) →
      Some l ≡ told (journal_front_location w s n)
  front_part_lem l z h e = rw (e, ne_eqb n 0 z, lt-leb n (w.journal - s) h)

  pub back_none : n ≤ w.journal - s → None ≡ told (journal_back_location w s n)
  back_none h = split (eqb n 0) (λ t. rw t) (λ f. rw (f, le-leb n (w.journal - s) h))

  pub back_part_lem : (l : Location) → w.journal - s < n → l ≡ journal_range_location w 0 (n - (w.journal - s)) →
      Some l ≡ told (journal_back_location w s n)
  back_part_lem l h e = rw (e, ne_eqb n 0 (λ (z : n ≡ 0). omega arith), lt-leb n (w.journal - s) h)

-- CIRCULAR RANGES

module _ (w : Device) (l : Location) (s n : ℕ) where
  -- the range ends within the journal, or goes round: the code's two arms
  pub contained_whole : s < w.journal → n ≤ w.journal - s →
      (leb (journal_point w s) l.addr && leb (l.addr + l.len) (journal_point w (s + n))) ≡ loc_contained_in_circular_journal_range w l s n
  unfolding loc_contained_in_circular_journal_range
  contained_whole h k = rw (le-leb (s + n) w.journal (omega arith))

  pub contained_round : s < w.journal → w.journal - s < n →
      ((leb (journal_point w s) l.addr && leb (l.addr + l.len) (journal_end_addr w)) ||
      (leb journal_start_addr l.addr && leb (l.addr + l.len) (journal_point w (n - (w.journal - s)))))
      ≡ loc_contained_in_circular_journal_range w l s n
  unfolding loc_contained_in_circular_journal_range
  contained_round h k = let e : s + n - w.journal ≡ n - (w.journal - s) = omega arith in rw (lt-leb (s + n) w.journal (omega arith), e)

  pub disjoint_whole : s < w.journal → n ≤ w.journal - s →
      (leb (l.addr + l.len) (journal_point w s) || leb (journal_point w (s + n)) l.addr) ≡ loc_disjoint_from_circular_journal_range w l s n
  unfolding loc_disjoint_from_circular_journal_range
  disjoint_whole h k = rw (le-leb (s + n) w.journal (omega arith))

  pub disjoint_round : s < w.journal → w.journal - s < n →
      ((leb (l.addr + l.len) journal_start_addr || leb (journal_end_addr w) l.addr) ||
      (leb (journal_point w (n - (w.journal - s))) l.addr && leb (l.addr + l.len) (journal_point w s)))
      ≡ loc_disjoint_from_circular_journal_range w l s n
  unfolding loc_disjoint_from_circular_journal_range
  disjoint_round h k = let e : s + n - w.journal ≡ n - (w.journal - s) = omega arith in rw (lt-leb (s + n) w.journal (omega arith), e)
