-- Where the result of a question isn't 0 its other numbers are 0, and so are the start and the length of a part that doesn't exist. Assumes nothing.
use mathlib.Core.Path.{◌≡◌}
use mathlib.Core.Bool.{Bool}
use mathlib.Core.Option.{none}
use Prim.Native.Nat.{ℕ}
use Rattle.std.specs.Prelude as result
use Rattle.base.specs.Refusals.{answer}
use Rattle.base.specs.Scan.{bit}
use Rattle.base.proofs.Tests.{split}
use Rattle.disklayout.specs.declared.Kind.{Kind}
use Rattle.disklayout.specs.Calls.{answer_number, answered, holds_on, kind_or_none, number_on}
use Rattle.disklayout.specs.Device.{device_of, made}
use Rattle.disklayout.specs.Journal.{journal_front_location, journal_front_requires, journal_back_location, journal_back_requires}
use Rattle.disklayout.specs.Kinds.{kind_number}
use Rattle.journalrange.specs.Parts.{front_rows, back_rows, front_part, back_part, place_of}
use Rattle.journalrange.proofs.Parts.{Zeros, refused_zeros, absent_zeros}

-- OF A REFUSED QUESTION

module _ (d : ℕ) where
  pub place_refused : (k : result.Option Kind) → (answer_number (answered d k) ≡ 0 → ⊥) → kind_number (kind_or_none d k) ≡ 0
  unfolding kind_number
  place_refused k ne = split (made d) (λ t. absurd (ne (rw t))) (λ f. rw f)

  pub overlap_refused : (b : Bool) → (answer_number (answered d b) ≡ 0 → ⊥) → bit (holds_on d b) ≡ 0
  overlap_refused b ne = split (made d) (λ t. absurd (ne (rw t))) (λ f. rw f)

  pub other_refused : (v : ℕ) → (answer_number (answered d v) ≡ 0 → ⊥) → number_on d v ≡ 0
  other_refused v ne = split (made d) (λ t. absurd (ne (rw t))) (λ f. rw f)

-- OF A PART: start and length are 0

module _ (d bytes s n : ℕ) where
  pub front_refused : (answer (front_rows d bytes s) ≡ 0 → ⊥) → Zeros (place_of (front_part d bytes s n))
  front_refused = refused_zeros d (journal_front_requires (device_of d) s) bytes (journal_front_location (device_of d) s n)

  pub back_refused : (answer (back_rows d bytes s n) ≡ 0 → ⊥) → Zeros (place_of (back_part d bytes s n))
  back_refused = refused_zeros d (journal_back_requires (device_of d) s n) bytes (journal_back_location (device_of d) s n)

  pub front_absent : journal_front_location (device_of d) s n ≡ none → Zeros (place_of (front_part d bytes s n))
  front_absent e = rw e (absent_zeros d (journal_front_requires (device_of d) s) bytes)

  pub back_absent : journal_back_location (device_of d) s n ≡ none → Zeros (place_of (back_part d bytes s n))
  back_absent e = rw e (absent_zeros d (journal_back_requires (device_of d) s n) bytes)
