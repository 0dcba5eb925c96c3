-- Which number a part's call gives, and where the part lies: within the lent area, for any good row. Assumes nothing.
use mathlib.Core.Path.{◌≡◌, refl}
use mathlib.Core.Bool.{Bool, ◌&&◌, false, true, cond}
use mathlib.Core.List.{List, []}
use mathlib.Core.Logic.{◌↔◌, ◌⊎◌, inl, inr}
use mathlib.Core.Option.{Option, some, none}
use Prim.Native.Nat.{ℕ, ◌+◌, ◌-◌, ◌*◌, ◌<◌, ◌≤◌}
use native.Mathlib.Omega.{arith}
use lib.Dec.{eqb, leb}
use borrow.Author.Tests.{eq-eqb, ne_eqb, eqb-true, leb-true, leb-false, le-leb}
use Rattle.std.specs.Prelude.{Result, Ok, Err}
use Rattle.std.specs.Result.{ResultUnwrapsOrElse}
use Rattle.base.specs.Refusals.{answer, ascending}
use Rattle.base.proofs.Refusals.{accepted_iff}
use Rattle.base.proofs.Tests.{and_left, and_right, split, tests}
use Rattle.disklayout.specs.declared.Device.{Device}
use Rattle.disklayout.specs.declared.Location.{Location}
use Rattle.disklayout.specs.Device.{Good, device_of, made}
use Rattle.disklayout.specs.Journal.{journal_front_requires, journal_front_location, journal_back_requires, journal_back_location}
use Rattle.disklayout.specs.Layout.{num_journal_blocks, journal_start_addr, valid_journal_location}
use Rattle.disklayout.proofs.Devices.{device_good}
use Rattle.disklayout.proofs.Facts.{journal_iff}
use Rattle.disklayout.proofs.Ranges.{front_valid, back_valid}
use Rattle.journalrange.specs.declared.Part.{Part}
use Rattle.journalrange.specs.declared.PartRefused.{PartRefused}
use Rattle.journalrange.specs.declared.PartRefused.TheVariants.{Undefined, OtherLength}
use Rattle.journalrange.specs.Parts.{journal_length, part_rows, start_of, len_of, part_at, part_number, part_of, part_refused_number, place_of, front_part, back_part, cut}

-- THE NUMBERS

pub rows_ascending : (d : ℕ) (pre : Bool) (bytes : ℕ) → ascending (part_rows d pre bytes) ≡ true
unfolding part_rows
rows_ascending d pre bytes = refl

-- what 0 says
pub record Accepted (d : ℕ) (pre : Bool) (bytes : ℕ) : Type 0 where
  pub is_made : d ≤ 2
  pub required : pre ≡ true
  pub lent : bytes ≡ journal_length (device_of d)

pub accepted : (d : ℕ) (pre : Bool) (bytes : ℕ) → (answer (part_rows d pre bytes) ≡ 0) ↔ Accepted d pre bytes
unfolding part_rows
accepted d pre bytes =
    let a = accepted_iff (part_rows d pre bytes) (rows_ascending d pre bytes) in (
      (λ e. let h = simp tests at (a.0 e) in record { is_made = h.0.0; required = h.0.1; lent = h.1.0 }),
      (λ h. a.1 (simp tests ((h.is_made, h.required), (h.lent, tt)))),
    )

-- what a call tells, by the number: the part is told where that is 0, and else the refusal that has the number
module _ (d : ℕ) (pre : Bool) (bytes : ℕ) (o : Option Location) where
  pub part_undefined : (made d && pre) ≡ false → part_of d pre bytes o ≡ Err Undefined
  unfolding part_of
  part_undefined e = rw e refl

  pub part_other : (made d && pre) ≡ true → eqb bytes (journal_length (device_of d)) ≡ false → part_of d pre bytes o ≡ Err OtherLength
  unfolding part_of
  part_other e f = rw (e, f) refl

  pub part_told : Accepted d pre bytes → part_of d pre bytes o ≡ Ok (part_at o)
  unfolding part_of
  part_told a = rw (le-leb d 2 a.is_made, a.required, eq-eqb bytes (journal_length (device_of d)) a.lent) refl

  told_by : (P : Result Part PartRefused → Type 0) → P (Err Undefined) → P (Err OtherLength) → (Accepted d pre bytes → P (Ok (part_at o))) →
      P (part_of d pre bytes o)
  told_by P undefined other told =
      split (made d && pre)
      (λ t. split (eqb bytes (journal_length (device_of d)))
      (λ u. let a : Accepted d pre bytes = record {
        is_made = leb-true d 2 (and_left (made d) pre t);
        required = and_right (made d) pre t;
        lent = eqb-true bytes (journal_length (device_of d)) u;
      } in rw (part_told a) (told a))
      (λ u. rw (part_other t u) other))
      (λ t. rw (part_undefined t) undefined)

  pub number_told : part_number (part_of d pre bytes o) ≡ answer (part_rows d pre bytes)
  unfolding part_of part_rows answer
  number_told =
      split (made d && pre)
      (λ t. split (eqb bytes (journal_length (device_of d))) (λ u. rw (t, u) refl) (λ u. rw (t, u) refl))
      (λ t. rw t refl)

-- a number that is 0 of a part, and that of a refusal
pub number_of : (r : Result Part PartRefused) {n : ℕ} → ((p : Part) → r ≡ Ok p → n ≡ 0) →
    ((e : PartRefused) → r ≡ Err e → n ≡ part_refused_number e) → n ≡ part_number r
number_of (Ok p) f g = f p refl
number_of (Err e) f g = g e refl

-- WITHIN THE AREA

-- a place of the journal in an area that holds it: nothing is lost by the subtraction, and its end is within the area
pub record InArea (w : Device) (l : Location) : Type 0 where
  pub begins : journal_start_addr ≤ l.addr
  pub ends : l.addr - journal_start_addr + l.len ≤ journal_length w

pub journal_in_area : (w : Device) (l : Location) → valid_journal_location w l ≡ true → InArea w l
journal_in_area w l v = let j = (journal_iff w l).0 v in record { begins = j.high; ends = omega (arith, j.high, j.ends) }

module _ (w : Device) (g : Good w) (s n : ℕ) (l : Location) where
  pub front_in_area : s < num_journal_blocks w → journal_front_location w s n ≡ some l → InArea w l
  front_in_area h e = journal_in_area w l (front_valid w g s n l h e)

  pub back_in_area : s < num_journal_blocks w → n ≤ num_journal_blocks w → journal_back_location w s n ≡ some l → InArea w l
  back_in_area h k e = journal_in_area w l (back_valid w g s n l h k e)

-- and so on a device's row, where upstream's `requires` holds
module _ (d s n : ℕ) where
  pub device_front_in_area : journal_front_requires (device_of d) s ≡ true → (l : Location) →
      journal_front_location (device_of d) s n ≡ some l → InArea (device_of d) l
  device_front_in_area e l q = front_in_area (device_of d) (device_good d) s n l (simp tests at e) q

  pub device_back_in_area : journal_back_requires (device_of d) s n ≡ true → (l : Location) →
      journal_back_location (device_of d) s n ≡ some l → InArea (device_of d) l
  device_back_in_area e l q = let h = simp tests at e in back_in_area (device_of d) (device_good d) s n l h.0 h.1 q

-- so what a call hands back lies within what was lent, however much that is
part_fits : (d : ℕ) (pre : Bool) (o : Option Location) (bytes : ℕ) → (pre ≡ true → (l : Location) → o ≡ some l → InArea (device_of d) l) →
    (place_of (part_of d pre bytes o)).start + (place_of (part_of d pre bytes o)).len ≤ bytes
part_fits d pre o bytes h =
    told_by d pre bytes o (λ r. (place_of r).start + (place_of r).len ≤ bytes) (omega arith) (omega arith)
    (λ a. rw a.lent (inside o (h a.required)))
  where
    inside : (o : Option Location) → ((l : Location) → o ≡ some l → InArea (device_of d) l) →
        start_of o + len_of o ≤ journal_length (device_of d)
    inside none h = omega arith
    inside (some l) h = (h l refl).ends

module _ (d bytes s n : ℕ) where
  pub front_fits : (place_of (front_part d bytes s n)).start + (place_of (front_part d bytes s n)).len ≤ bytes
  front_fits =
      part_fits d (journal_front_requires (device_of d) s) (journal_front_location (device_of d) s n) bytes (device_front_in_area d s n)

  pub back_fits : (place_of (back_part d bytes s n)).start + (place_of (back_part d bytes s n)).len ≤ bytes
  back_fits =
      part_fits d (journal_back_requires (device_of d) s n) (journal_back_location (device_of d) s n) bytes (device_back_in_area d s n)

-- a refused part has start 0 and length 0, and so has one that doesn't exist
abbrev pub Zeros : Part → Type 0
Zeros p = (p.start ≡ 0) × (p.len ≡ 0)

module _ (d : ℕ) (pre : Bool) (bytes : ℕ) where
  pub refused_zeros : (o : Option Location) → (answer (part_rows d pre bytes) ≡ 0 → ⊥) → Zeros (place_of (part_of d pre bytes o))
  refused_zeros o ne =
      told_by d pre bytes o (λ r. Zeros (place_of r)) (refl, refl) (refl, refl) (λ a. absurd (ne ((accepted d pre bytes).1 a)))

  pub absent_zeros : Zeros (place_of (part_of d pre bytes none))
  absent_zeros = told_by d pre bytes none (λ r. Zeros (place_of r)) (refl, refl) (refl, refl) (λ a. (refl, refl))

-- what the code takes for a place
pub place_told : (r : Result Part PartRefused) {p : Part} → ResultUnwrapsOrElse r Zeros p → p ≡ place_of r
place_told (Ok q) e = e
place_told (Err e) {p} z =
    let zeros : ◌≡◌ {A = Part} (record { start = p.start; len = p.len }) (record { start = 0; len = 0 }) = rw (z.0, z.1) in zeros

-- so what is handed back is empty
zeros_empty : (area : List ℕ) (p : Part) → Zeros p → cut area p ≡ []
zeros_empty area p z = rw z.1

module _ (area : List ℕ) (d : ℕ) (pre : Bool) (bytes : ℕ) where
  pub refused_empty : (o : Option Location) → (answer (part_rows d pre bytes) ≡ 0 → ⊥) → cut area (place_of (part_of d pre bytes o)) ≡ []
  refused_empty o ne = zeros_empty area (place_of (part_of d pre bytes o)) (refused_zeros d pre bytes o ne)

  pub absent_empty : cut area (place_of (part_of d pre bytes none)) ≡ []
  absent_empty = zeros_empty area (place_of (part_of d pre bytes none)) (absent_zeros d pre bytes)

-- WHERE IT BEGINS, AND HOW LONG IT IS

-- how many blocks the front part has, those up to the journal's end, and how many the back part has, the rest
abbrev pub front_blocks : Device → ℕ → ℕ → ℕ
front_blocks w s n = cond (leb n (num_journal_blocks w - s)) n (num_journal_blocks w - s)

abbrev pub back_blocks : Device → ℕ → ℕ → ℕ
back_blocks w s n = n - (num_journal_blocks w - s)

module _ (w : Device) (s n : ℕ) where
  -- the front part begins at start times 4096, if the range has blocks at all; the back part begins at 0
  pub front_start : (n ≡ 0 → ⊥) → start_of (journal_front_location w s n) ≡ s * 4096
  front_start ne = rw (ne_eqb n 0 ne) (omega arith)

  pub back_start : start_of (journal_back_location w s n) ≡ 0
  back_start = split (eqb n 0) (λ t. rw t) (λ f. split (leb n (w.journal - s)) (λ t. rw (f, t)) (λ t. rw (f, t)))

  pub front_len : len_of (journal_front_location w s n) ≡ front_blocks w s n * 4096
  front_len =
      split (eqb n 0)
      (λ t. let z : n ≡ 0 = eqb-true n 0 t in rw (t, le-leb n (w.journal - s) (omega arith)) (omega arith))
      (λ f. rw f)

  pub back_len : len_of (journal_back_location w s n) ≡ back_blocks w s n * 4096
  back_len =
      split (eqb n 0) (λ t. let z : n ≡ 0 = eqb-true n 0 t in rw t (omega arith))
      (λ f. split (leb n (w.journal - s))
      (λ t. let h : n ≤ w.journal - s = leb-true n (w.journal - s) t in rw (f, t) (omega arith))
      (λ t. rw (f, t)))

  pub front_blocks_lem : ((front_blocks w s n ≡ n) × (n ≤ num_journal_blocks w - s)) ⊎
      ((front_blocks w s n ≡ num_journal_blocks w - s) × (num_journal_blocks w - s < n))
  front_blocks_lem =
      split (leb n (w.journal - s)) (λ t. inl (rw t, leb-true n (w.journal - s) t)) (λ f. inr (rw f, leb-false n (w.journal - s) f))
