-- What the code comes to: the journal's length by the layout's two addresses, and a part by what the layout's call tells of its location. Assumes
-- nothing.
use mathlib.Core.Path.{◌∙◌, ◌≡◌, refl, sym}
use mathlib.Core.Bool.{Bool, ◌&&◌, false, true}
use mathlib.Core.Option.{Option, some, none}
use Prim.Native.Nat.{ℕ, ◌-◌, ◌≤◌}
use native.Mathlib.Omega.{arith}
use Rattle.disklayout.specs.declared.Location.{Location}
use borrow.Author.Tests.{ne_eqb}
use Rattle.std.specs.Prelude.{Ok, Err}
use Rattle.disklayout.proofs.Results.{made_iff, made_told}
use Rattle.journalrange.specs.declared.PartRefused.TheVariants.{OtherLength}
use Rattle.base.proofs.Tests.{and_both, split}
use Rattle.disklayout.specs.declared.Refused.{Refused}
use Rattle.disklayout.specs.declared.Refused.TheVariants as layout
use Rattle.disklayout.specs.Calls.{answered, answered_when, number_on, told}
use Rattle.disklayout.specs.Device.{device_of, made}
use Rattle.disklayout.specs.Layout.{journal_start_addr, journal_end_addr}
use Rattle.journalrange.specs.Parts.{journal_length, located, part_at, part_of, untold}
use Rattle.journalrange.proofs.Parts.{part_other, part_told, part_undefined}

-- THE JOURNAL'S LENGTH, by the layout's two addresses

pub length_ends : (d : ℕ) → journal_start_addr ≤ journal_end_addr (device_of d)
length_ends d = omega arith

pub length_told : (d : ℕ) → journal_end_addr (device_of d) - journal_start_addr ≡ journal_length (device_of d)
length_told d = omega arith

-- the same of what the layout tells of a device by its number: 0 of each where the device is not made
pub length_on : (d : ℕ) →
    number_on d (journal_end_addr (device_of d)) - number_on d journal_start_addr ≡ number_on d (journal_length (device_of d))
length_on d = split (made d) (λ t. rw t (omega arith)) (λ f. rw f)

-- THE PART, by what the layout's call tells of its location

back : (o : Option Location) → located (told o) ≡ o
back none = refl
back (some l) = refl

module _ (d : ℕ) (pre : Bool) (bytes : ℕ) (o : Option Location) where
  -- what the layout refuses to tell is refused
  pub refused_as : {A : Type 0} (ok : Bool) (v : A) (r : Refused) → answered_when ok v ≡ Err r → (ok ≡ false → (made d && pre) ≡ false) →
      Err (untold r) ≡ part_of d pre bytes o
  refused_as ok v layout.Undefined e f =
      split ok
      (λ t. let q : Ok v ≡ Err layout.Undefined = rw t at e in cc)
      (λ t. sym (part_undefined d pre bytes o (f t)))

-- where it tells the journal's length, the lent bytes are as many, or they are refused
module _ (d bytes : ℕ) (o : Option Location) {n : ℕ} (e : answered d (journal_length (device_of d)) ≡ Ok n) where
  pub other_as : (bytes ≡ n → ⊥) → Err OtherLength ≡ part_of d true bytes o
  other_as f =
      let t = made_told d _ e in
      sym (part_other d true bytes o (and_both t.0 refl) (ne_eqb bytes (journal_length (device_of d)) (λ q. f (q ∙ sym t.1))))

  pub part_as : bytes ≡ n → Ok (part_at o) ≡ part_of d true bytes o
  part_as q =
      let t = made_told d _ e in
      sym (part_told d true bytes o (record { is_made = (made_iff d).0 t.0; required = refl; lent = q ∙ t.1 }))
