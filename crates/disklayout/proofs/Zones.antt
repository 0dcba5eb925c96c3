-- The kinds of place, in the order in which they lie on a device: each kind has a zone of its own, so of two kinds one lies before the other.
-- Kinds by their place in the list of upstream's five predicates, from 0. For any good row. Assumes nothing.
use mathlib.Core.Path.{◌≡◌}
use mathlib.Core.Bool.{Bool, true, false, false≢true}
use mathlib.Core.Logic.{⊎_elim}
use Prim.Native.Nat.{ℕ, zero, suc, ◌+◌, ◌<◌, ◌≤◌}
use native.Mathlib.Nat.{not-suc-le-zero}
use native.Mathlib.Omega.{arith}
use lib.Dec.{eqb, ltb}
use lib.ListN.{get_or}
use borrow.Author.Tests.{eqb-true, eqb-false, ltb-true, ltb-false}
use Rattle.base.proofs.Tests.{split}
use Rattle.base.proofs.Scan.{below_or_last}
use Rattle.disklayout.specs.declared.Device.{Device}
use Rattle.disklayout.specs.declared.Location.{Location}
use Rattle.disklayout.specs.Blocks.{first_node_addr}
use Rattle.disklayout.specs.Device.{Good}
use Rattle.disklayout.specs.Kinds.{validities}
use Rattle.disklayout.specs.Layout.{indirection_table_max_length, indirection_table1_addr, indirection_table2_addr, journal_start_addr}
use Rattle.disklayout.specs.Layout.{valid_node_location, overlap}
use Rattle.disklayout.proofs.Facts.{JournalLoc, journal_iff, index_iff, TableLoc, table_iff, NodeLoc, node_iff, superblock1_iff}
use Rattle.disklayout.proofs.Facts.{superblock2_iff, refuted, no_overlap}

-- upstream's validity of each kind, by its place in the list
abbrev pub valid_as : ℕ → Device → Location → Bool
valid_as n w l = get_or (validities w l) n false

-- where the zone of each kind begins, which is where the one before it ends
zone : Device → ℕ → ℕ
zone w zero = 0
zone w (suc zero) = 4096
zone w (suc (suc zero)) = journal_start_addr
zone w (suc (suc (suc zero))) = indirection_table1_addr w
zone w (suc (suc (suc (suc n)))) = indirection_table2_addr w + indirection_table_max_length w

zone_rises : (w : Device) (n : ℕ) → zone w n ≤ zone w (suc n)
unfolding zone
zone_rises w zero = omega arith
zone_rises w (suc zero) = omega arith
zone_rises w (suc (suc zero)) = omega arith
zone_rises w (suc (suc (suc zero))) = omega arith
zone_rises w (suc (suc (suc (suc n)))) = omega arith

zone_upto : (w : Device) (m n : ℕ) → m < n → zone w (suc m) ≤ zone w n
zone_upto w m zero h = absurd (not-suc-le-zero h)
zone_upto w m (suc n) h =
    below_or_last m n h (λ b. omega (arith, zone_rises w n, zone_upto w m n b)) (λ e. rw e (omega arith))

-- a place of a kind lies in the kind's zone; the last zone is open
record InZone (w : Device) (n : ℕ) (l : Location) : Type 0 where
  within : n < 5
  from : zone w n ≤ l.addr
  before : n < 4 → l.addr < zone w (suc n)
  upto : n < 4 → l.addr + l.len ≤ zone w (suc n)

module _ (w : Device) (g : Good w) where
  in_zone : (n : ℕ) (l : Location) → valid_as n w l ≡ true → InZone w n l
  unfolding zone
  in_zone zero l v =
      rw ((superblock1_iff l).0 v) (record { within = omega arith; from = omega arith; before = λ h. omega arith; upto = λ h. omega arith })
  in_zone (suc zero) l v =
      rw ((superblock2_iff l).0 v) (record { within = omega arith; from = omega arith; before = λ h. omega arith; upto = λ h. omega arith })
  in_zone (suc (suc zero)) l v =
      let j : JournalLoc w l = (journal_iff w l).0 v in
      record { within = omega arith; from = omega arith; before = λ h. (index_iff w l.addr j.high).0 j.index; upto = λ h. omega arith }
  in_zone (suc (suc (suc zero))) l v =
      let t : TableLoc w l = (table_iff w l).0 v in
      ⊎_elim (λ e. record { within = omega arith; from = omega arith; before = λ h. omega arith; upto = λ h. omega arith })
      (λ e. record { within = omega arith; from = omega arith; before = λ h. omega arith; upto = λ h. omega arith }) t.area
  in_zone (suc (suc (suc (suc zero)))) l v =
      let n : NodeLoc w l = (node_iff w l).0 v in
      record { within = omega arith; from = omega (arith, g.past, n.there.high); before = λ h. omega arith; upto = λ h. omega arith }
  in_zone (suc (suc (suc (suc (suc n))))) l v = absurd (false≢true v)

  -- of two kinds the lower lies before the higher
  lower : (i j : ℕ) → i < j → (l k : Location) → valid_as i w l ≡ true → valid_as j w k ≡ true → (l.addr < k.addr)
      × (l.addr + l.len ≤ k.addr)
  lower i j h l k p q =
      let a = in_zone i l p in
      let b = in_zone j k q in
      let s : i < 4 = omega (arith, b.within) in
      let u = zone_upto w i j h in
      (omega (arith, a.before s, b.from), omega (arith, a.upto s, b.from))

  -- two kinds are in one order or the other
  ordered : {X : Type 0} (i j : ℕ) → eqb i j ≡ false → (i < j → X) → (j < i → X) → X
  ordered i j e f h =
      split (ltb i j) (λ t. f (ltb-true _ _ t))
      (λ t. let n : j ≤ i = ltb-false _ _ t in h (let d : i ≡ j → ⊥ = eqb-false _ _ e in omega arith))

  -- places of two kinds do not overlap
  pub zones_apart : (i j : ℕ) → eqb i j ≡ false → (l k : Location) → valid_as i w l ≡ true → valid_as j w k ≡ true → overlap l k ≡ false
  zones_apart i j e l k p q =
      no_overlap l k (λ o. ordered i j e (λ h. let b = lower i j h l k p q in omega arith) (λ h. let b = lower j i h k l q p in
      omega arith))

  -- a place of one kind is of no other
  pub zones_exclude : (i j : ℕ) (l : Location) → valid_as i w l ≡ true → valid_as j w l ≡ true → i ≡ j
  zones_exclude i j l p q =
      split (eqb i j) (λ t. eqb-true i j t)
      (λ e. absurd (ordered i j e (λ h. let b = lower i j h l l p q in omega arith) (λ h. let b = lower j i h l l q p in omega arith)))

  -- BY THE ADDRESS ALONE

  module _ (l : Location) where
    -- at or past where a later zone begins
    past_zone : (n : ℕ) → n < 5 → zone w n ≤ l.addr → (i : ℕ) → i < n → valid_as i w l ≡ false
    past_zone n b e i h = refuted (λ p. let a = in_zone i l p in omega (arith, a.before (omega arith), zone_upto w i n h))

    pub past_superblocks : journal_start_addr ≤ l.addr → (i : ℕ) → i < 2 → valid_as i w l ≡ false
    unfolding zone
    past_superblocks h = past_zone 2 (omega arith) h

    pub past_first : first_node_addr w ≤ l.addr → (i : ℕ) → i < 4 → valid_as i w l ≡ false
    unfolding zone
    past_first h = past_zone 4 (omega arith) (omega (arith, g.past))

    -- and below where a zone begins
    pub below_journal : l.addr < journal_start_addr → (i : ℕ) → 1 < i → valid_as i w l ≡ false
    unfolding zone
    below_journal b i h = refuted (λ p. let a = in_zone i l p in omega (arith, a.from, zone_upto w 1 i h))

pub before_nodes : (w : Device) (l : Location) → l.addr < first_node_addr w → valid_node_location w l ≡ false
before_nodes w l h = refuted (λ v. let n = (node_iff w l).0 v in omega (arith, n.there.high))
