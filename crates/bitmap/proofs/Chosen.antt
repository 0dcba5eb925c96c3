-- What the chooser gives, read off the two words of a cache in its written form. Assumes nothing.
use Prim.Native.Nat.{◌<◌, ◌≤◌, ℕ}
use native.Mathlib.Omega.{arith}
use lib.Dec.{eqb, ltb}
use Rattle.std.specs.Prelude.{Option, Some, None}
use Rattle.base.proofs.Chains.{place_some}
use mathlib.Core.Bool.{false, not, true}
use mathlib.Core.Path.{◌∙◌, ◌≡◌, ap, refl, sym}
use borrow.Author.Tests.{eqb-false, eqb-true, le-leb, ltb-false}
use Rattle.base.proofs.Scan.{all_at, all_of, count_same, count_zero, count_zero_at, first_same, some_of_none, some_same}
use Rattle.base.proofs.Tests.{not_iff, split}
use Rattle.base.specs.Refusals.{answer}
use Rattle.base.specs.Scan.{all_below, count_below, first_below, some_below}
use Rattle.blockcache.proofs.Chooser.{choice_full, choice_given, choice_accepted}
use Rattle.blockcache.proofs.Forms.{cache_form_iff}
use Rattle.blockcache.proofs.MarkLaws.{marks_read}
use Rattle.blockcache.proofs.NextFit.{after_small}
use Rattle.blockcache.specs.Chooser.{choice_by, chooser, chooser_rows, chosen_block, block_after, is_free_block, marked, refused_choice}
use Rattle.blockcache.specs.Form.{cache_form, is_ready, settings_form}
use Rattle.blockcache.specs.Next.{with_last}
use Rattle.blockcache.specs.declared.CacheState.{CacheState}
use Rattle.blockcache.specs.declared.Choice.{Choice}
use Rattle.blockcache.specs.declared.Marks.{Marks}
use Rattle.blockcache.specs.declared.Settings.{Settings}
use Rattle.disklayout.specs.Blocks.{node_block_addr}
use Rattle.disklayout.specs.Device.{device_of}
use Rattle.bitmap.specs.Bitmap.{if_below, is_free_in, next_free}

module _ (g : Settings) (c : CacheState) (s : settings_form g ≡ true) (f : cache_form g.device c ≡ true) (r : is_ready c ≡ true) where
  abbrev m : Marks
  m = c.blocks.marks

  abbrev last : ℕ
  last = c.blocks.last

  -- the words say which blocks are free
  free_read : (b : ℕ) → b < 128 → is_free_in m b ≡ is_free_block g c b
  free_read b h = ap not (marks_read g.device c f b h)

  abbrev count : ℕ
  count = count_below (is_free_in m) 128

  -- none is free: 21
  full : count ≡ 0 → refused_choice 21 c ≡ chooser g c
  full z =
      sym (choice_full g c s f r (all_of (marked g c) 128
      (λ b h. (not_iff (marked g c b)).0 (sym (free_read b h) ∙ count_zero_at (is_free_in m) 128 b z h))))

  abbrev block : ℕ
  block = next_free m last

  given : (count ≡ 0 → ⊥) → answer (chooser_rows g c) ≡ 0
  given ne =
      choice_given g c s f r
      (split (all_below (marked g c) 128)
      (λ t. absurd (ne (count_zero (is_free_in m) 128 (λ b h. free_read b h ∙ ap not (all_at (marked g c) 128 b t h)))))
      (λ t. t))

  next_is : (count ≡ 0 → ⊥) → block ≡ chosen_block g c
  unfolding next_free
  next_is ne =
      let some : some_below (is_free_in m) 128 ≡ true = some_same (is_free_in m) (is_free_block g c) 128 free_read
      ∙ (choice_accepted g c (given ne)).free in
      let small = le-leb last 127 ((cache_form_iff g.device c).0 f).1.last.small in
      let turn : first_below (λ k. is_free_in m (block_after last k)) 128 ≡ first_below (λ k. is_free_block g c (block_after last k)) 128 =
      first_same (λ k. is_free_in m (block_after last k)) (λ k. is_free_block g c (block_after last k)) 128
      (λ k h. free_read (block_after last k) (after_small last k)) in
      rw (small, some) (ap (block_after last) turn)

  block_below : (count ≡ 0 → ⊥) → block < 128
  block_below ne = rw (next_is ne) (after_small last (first_below _ 128))

  counted : 128 ≤ block → count ≡ 0
  counted h = split (eqb count 0) (λ t. eqb-true count 0 t) (λ t. absurd (omega (arith, h, block_below (eqb-false count 0 t))))

  uncounted : block < 128 → count ≡ 0 → ⊥
  unfolding next_free
  uncounted h z =
      let n : some_below (is_free_in m) 128 ≡ false = some_of_none (is_free_in m) 128 (λ b l. count_zero_at (is_free_in m) 128 b z l) in
      let small = le-leb last 127 ((cache_form_iff g.device c).0 f).1.last.small in
      let k = rw (small, n) at h in absurd (omega (arith, k))

  pub none_free : if_below 128 block ≡ None → refused_choice 21 c ≡ chooser g c
  none_free e =
      split (ltb block 128)
      (λ t. let s : ◌≡◌ {A = Option ℕ} (Some block) None = rw t at e in cc)
      (λ t. full (counted (ltb-false block 128 t)))

  pub one_below : {k : ℕ} → if_below 128 block ≡ Some k → k < 128
  one_below {k} e = (place_some block 128 e).1

  -- else the next free block in turn
  pub one_free : {k : ℕ} → if_below 128 block ≡ Some k →
      ◌≡◌ {A = Choice} (record {
        answer = 0;
        block = k;
        addr = node_block_addr (device_of g.device) k;
        free = count;
        cache = with_last c k;
      }) (chooser g c)
  unfolding chooser choice_by
  one_free {k} e =
      let p = place_some block 128 e in
      let ne : count ≡ 0 → ⊥ = uncounted (omega (arith, p.0, p.1)) in
      rw (← p.0, given ne)
      (rw (next_is ne, count_same (is_free_in m) (is_free_block g c) 128 free_read) refl)
