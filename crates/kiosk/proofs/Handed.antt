-- The start and the length that C is told of a part are those of the part that Q-3 hands back, whatever is lent and asked for. Assumes nothing.
use mathlib.Core.Path.{◌≡◌, refl, sym, ap, ◌∙◌}
use mathlib.Core.List.{List}
use Prim.Native.Nat.{ℕ, ◌+◌, ◌≤◌}
use native.Mathlib.Omega.{arith}
use lib.ListN.{length, drop, length-drop}
use lib.Seq.{length-take-le}
use Rattle.journalrange.specs.declared.Part.{Part}
use Rattle.journalrange.specs.Parts.{front_part, back_part, place_of, cut, front_bytes, back_bytes, part_ptr}
use Rattle.journalrange.proofs.Parts.{front_fits, back_fits}
use Rattle.kiosk.specs.Handed.{Tells}

part_told : (p : Part) (area : List ℕ) (area_at : ℕ × ℕ) → p.start + p.len ≤ length area →
    Tells p.start p.len area area_at (cut area p) (part_ptr area_at p)
part_told p area area_at fits =
    record { begins = refl; counts = length-take-le p.len (drop p.start area) (simp length-drop (omega arith)); bytes = refl }

module _ (d s n : ℕ) (area : List ℕ) (area_at : ℕ × ℕ) where
  -- of `layout_front_start` and `layout_front_len`, and what `front` hands back of the area
  pub front_told : Tells (place_of (front_part d (length area) s n)).start (place_of (front_part d (length area) s n)).len area area_at
      (front_bytes d area s n) (part_ptr area_at (place_of (front_part d (length area) s n)))
  front_told = part_told (place_of (front_part d (length area) s n)) area area_at (front_fits d (length area) s n)

  -- of `layout_back_start` and `layout_back_len`, and what `back` hands back
  pub back_told : Tells (place_of (back_part d (length area) s n)).start (place_of (back_part d (length area) s n)).len area area_at
      (back_bytes d area s n) (part_ptr area_at (place_of (back_part d (length area) s n)))
  back_told = part_told (place_of (back_part d (length area) s n)) area area_at (back_fits d (length area) s n)

-- no other numbers are: what is handed back decides both
pub told_once : (start len start2 len2 : ℕ) (area : List ℕ) (area_at : ℕ × ℕ) (part : List ℕ) (part_at : ℕ × ℕ) →
    Tells start len area area_at part part_at → Tells start2 len2 area area_at part part_at → (start ≡ start2) × (len ≡ len2)
told_once start len start2 len2 area area_at part part_at a b =
    let e : start + area_at.1 ≡ start2 + area_at.1 = ap (λ (p : ℕ × ℕ). p.1) (sym a.begins ∙ b.begins) in
    (omega arith, sym a.counts ∙ b.counts)
