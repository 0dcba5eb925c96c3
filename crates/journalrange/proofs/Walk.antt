-- The theorem of document 02, Q-3: where both parts' calls give 0, a walk over front, then back, gives each block of the range once, in the
-- range's order. It is shown for any row first. Assumes nothing.
use mathlib.Core.Path.{◌≡◌, refl, sym, ◌∙◌, ap}
use mathlib.Core.List.{List, ◌++◌}
use mathlib.Core.Logic.{◌⊎◌, inl, inr, ⊎_elim}
use Prim.Native.Nat.{ℕ, zero, suc, ◌+◌, ◌-◌, ◌*◌, ◌<◌, ◌≤◌}
use native.Mathlib.Nat.{mod-eq_of_lt, mod-eq-sub-mod, mod-lt, mul-mod_left}
use native.Mathlib.Omega.{arith}
use lib.Dec.{eqb, leb, ltb}
use lib.ListN.{length, take, drop, length-drop, length-append}
use lib.Seq.{length-take-le, take-add, take_all}
use borrow.Author.Tests.{eqb-true, eqb-false, ltb-true, ltb-false, leb-true, leb-false, le-leb}
use Rattle.base.specs.Refusals.{answer}
use Rattle.base.proofs.Tests.{split, tests}
use Rattle.disklayout.specs.declared.Device.{Device}
use Rattle.disklayout.specs.Device.{device_of}
use Rattle.disklayout.specs.Journal.{journal_pos_add, journal_front_requires, journal_front_location, journal_back_requires, journal_back_location}
use Rattle.disklayout.specs.Layout.{num_journal_blocks}
use Rattle.journalrange.specs.Parts.{journal_length, front_rows, back_rows, part_at, front_bytes, back_bytes, cut}
use Rattle.journalrange.specs.Walk.{block, range_block, range_bytes, InOrder}
use Rattle.journalrange.proofs.Blocks.{block_first, block_second, block_part}
use Rattle.journalrange.proofs.Parts.{accepted, part_told, front_blocks, back_blocks, front_blocks_lem, front_start, front_len, back_start, back_len}

-- POSITIONS

module _ (w : Device) (s i : ℕ) (in_journal : s < num_journal_blocks w) (short : i < num_journal_blocks w) where
  -- the block at place i of a range has upstream's position: the sum, or once round
  pub pos_mod : range_block w s i ≡ journal_pos_add w s i
  pos_mod =
      split (leb (num_journal_blocks w) (s + i))
      (λ t. let k : num_journal_blocks w ≤ s + i = leb-true w.journal (s + i) t in rw t (mod-eq-sub-mod k ∙ mod-eq_of_lt (omega arith)))
      (λ f. rw f (mod-eq_of_lt (leb-false w.journal (s + i) f)))

  round : (range_block w s i ≡ s + i) ⊎ (range_block w s i + num_journal_blocks w ≡ s + i)
  round =
      split (leb (num_journal_blocks w) (s + i))
      (λ t. let k : num_journal_blocks w ≤ s + i = leb-true w.journal (s + i) t in inr (rw (pos_mod, t) (omega arith)))
      (λ f. inl (rw (pos_mod, f)))

-- two blocks of a range no longer than the journal have two positions
pos_once : (w : Device) (s i j : ℕ) → s < num_journal_blocks w → i < num_journal_blocks w → j < num_journal_blocks w →
    range_block w s i ≡ range_block w s j → i ≡ j
pos_once w s i j h k l e =
    ⊎_elim (λ a. ⊎_elim (λ b. omega arith) (λ b. omega arith) (round w s j h l))
    (λ a. ⊎_elim (λ b. omega arith) (λ b. omega arith) (round w s j h l))
    (round w s i h k)

-- ANY ROW

-- the area holds the whole journal, and the range is one of it
pub record Ranged (w : Device) (area : List ℕ) (s n : ℕ) : Type 0 where
  pub lent : length area ≡ journal_length w
  pub in_journal : s < num_journal_blocks w
  pub short : n ≤ num_journal_blocks w

module _ (w : Device) (area : List ℕ) (s n : ℕ) (r : Ranged w area s n) where
  front : List ℕ
  front = take (front_blocks w s n * 4096) (drop (s * 4096) area)

  back : List ℕ
  back = take (back_blocks w s n * 4096) area

  front_is : cut area (part_at (journal_front_location w s n)) ≡ front
  unfolding front
  front_is =
      split (eqb n 0)
      (λ t. let n0 : n ≡ 0 = eqb-true n 0 t in
      let none_ahead : front_blocks w s n * 4096 ≡ 0 = rw (le-leb n (w.journal - s) (omega arith)) (omega arith) in rw (t, none_ahead))
      (λ f. rw (front_start w s n (eqb-false n 0 f), front_len w s n))

  back_is : cut area (part_at (journal_back_location w s n)) ≡ back
  unfolding back
  back_is = rw (back_start w s n, back_len w s n)

  front_length : length front ≡ front_blocks w s n * 4096
  unfolding front
  front_length =
      length-take-le (front_blocks w s n * 4096) (drop (s * 4096) area)
      (simp length-drop (⊎_elim (λ a. omega arith) (λ a. omega arith) (front_blocks_lem w s n)))

  back_length : length back ≡ back_blocks w s n * 4096
  unfolding back
  back_length = length-take-le (back_blocks w s n * 4096) area (omega arith)

  -- the block at place i of the two together: one of the front part, or one of the back part
  front_block : (i : ℕ) → i < front_blocks w s n → block (front ++ back) i ≡ block area (range_block w s i)
  unfolding front
  front_block i h =
      let whole : i * 4096 + 4096 ≤ length front = omega (arith, front_length) in
      let ahead : s + i < num_journal_blocks w = ⊎_elim (λ a. omega arith) (λ a. omega arith) (front_blocks_lem w s n) in
      block_first front back i whole ∙ block_part area (front_blocks w s n) s i h ∙ ap (block area) (sym (mod-eq_of_lt ahead))

  back_block : (j : ℕ) → front_blocks w s n + j < n →
      block (front ++ back) (front_blocks w s n + j) ≡ block area (range_block w s (front_blocks w s n + j))
  unfolding back
  back_block j h =
      let i = front_blocks w s n + j in
      let full : front_blocks w s n ≡ num_journal_blocks w - s = ⊎_elim (λ a. omega arith) (λ a. a.0) (front_blocks_lem w s n) in
      let below : range_block w s i < num_journal_blocks w = mod-lt (s + i) (omega arith) in
      let position : 0 + j ≡ range_block w s i = ⊎_elim (λ a. omega arith) (λ a. omega arith) (round w s i r.in_journal (omega arith)) in
      block_second front back (front_blocks w s n) j front_length ∙ block_part area (back_blocks w s n) 0 j (omega arith)
      ∙ ap (block area) position

  blocks : (i : ℕ) → i < n → block (front ++ back) i ≡ block area (range_block w s i)
  blocks i h =
      split (ltb i (front_blocks w s n)) (λ t. front_block i (ltb-true i (front_blocks w s n) t))
      (λ f. let k : front_blocks w s n ≤ i = ltb-false i (front_blocks w s n) f in
      let q : i ≡ front_blocks w s n + (i - front_blocks w s n) = omega arith in rw q (back_block (i - front_blocks w s n) (omega arith)))

  -- all of the range's bytes, and no more
  total : length (front ++ back) ≡ n * 4096
  total =
      let f = front_length in let b = back_length in
      length-append front back ∙ ⊎_elim (λ a. omega arith) (λ a. omega arith) (front_blocks_lem w s n)

  -- block by block the bytes are the range's
  first_blocks : (m : ℕ) → m ≤ n → take (m * 4096) (front ++ back) ≡ range_bytes w area s m
  unfolding range_bytes
  first_blocks zero h = refl
  first_blocks (suc m) h =
      let q : suc m * 4096 ≡ m * 4096 + 4096 = omega arith in
      rw (q, take-add (m * 4096) 4096 (front ++ back), first_blocks m (omega arith), blocks m (omega arith))

  block_whole : (k : ℕ) → k < num_journal_blocks w → length (block area k) ≡ 4096
  block_whole k h = length-take-le 4096 (drop (k * 4096) area) (simp length-drop (omega arith))

  in_row : InOrder w area s n front back
  in_row =
      record {
        bytes = sym (take_all (n * 4096) (front ++ back) (omega (arith, total))) ∙ first_blocks n (omega arith);
        blocks = blocks;
        no_more = total;
        whole = λ i h. block_whole (range_block w s i) (mod-lt (s + i) (omega (arith, r.in_journal)));
        once = λ i j h k e. pos_once w s i j r.in_journal (omega (arith, r.short)) (omega (arith, r.short)) e;
        unsplit = rw front_length (mul-mod_left (front_blocks w s n) 4096);
      }

  -- the parts at upstream's locations, on any row
  pub row_in_order : InOrder w area s n (cut area (part_at (journal_front_location w s n)))
      (cut area (part_at (journal_back_location w s n)))
  row_in_order = rw (front_is, back_is) in_row

-- THE THEOREM: what the calls hand back, where both give 0. That the range is no longer than the journal is said by the back part's 0

pub in_order : (d : ℕ) (area : List ℕ) (s n : ℕ) → answer (front_rows d (length area) s) ≡ 0 → answer (back_rows d (length area) s n) ≡ 0 →
    InOrder (device_of d) area s n (front_bytes d area s n) (back_bytes d area s n)
in_order d area s n zero_front zero_back =
    let b = (accepted d (journal_back_requires (device_of d) s n) (length area)).0 zero_back in
    let h = simp tests at b.required in
    let f = (accepted d (journal_front_requires (device_of d) s) (length area)).0 zero_front in
    rw (part_told _ _ _ (journal_front_location (device_of d) s n) f, part_told _ _ _ (journal_back_location (device_of d) s n) b) (row_in_order (device_of d) area s n (record { lent = b.lent; in_journal = h.0; short = h.1 }))
