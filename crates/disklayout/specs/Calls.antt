-- What a layout call returns: its result, or the refusal where the device is not made or the test of what upstream requires, `pre`, fails.
use Rattle.std.specs.Prelude.{Bool, ◌&&◌, cond, ℕ, Option, Some, None, Result, Ok, Err}
use Rattle.std.proofs.Math.Option as maybe
use Rattle.disklayout.specs.declared.Kind.{Kind}
use Rattle.disklayout.specs.declared.Location.{Location}
use Rattle.disklayout.specs.declared.Refused.{Refused}
use Rattle.disklayout.specs.declared.Refused.TheVariants.{Undefined}
use Rattle.disklayout.specs.Blocks.{running_addr}
use Rattle.disklayout.specs.Device.{device_of, made}

abbrev pub zero_loc : Location
zero_loc = record { addr = 0; len = 0 }

-- what a map or a search of the definitions has, as the code's Option
abbrev pub told : {A : Type 0} → maybe.Option A → Option A
told maybe.none = None
told (maybe.some a) = Some a

-- THE ONE FORM OF A CALL'S ANSWER: the result where ok holds, else the refusal

abbrev pub answered_when : {A : Type 0} → Bool → A → Result A Refused
answered_when ok v = cond ok (Ok v) (Err Undefined)

-- of a call that asks only for a made device
abbrev pub answered : {A : Type 0} → ℕ → A → Result A Refused
answered d v = answered_when (made d) v

-- of one that asks for `pre` too
abbrev pub answered_if : {A : Type 0} → ℕ → Bool → A → Result A Refused
answered_if d pre v = answered_when (made d && pre) v

-- FOR WHOEVER TAKES A REFUSAL FOR NO, FOR 0, OR FOR NO KIND (`answered_yes`, `answered_number` and `answered_kind`, proofs/Results.antt)

-- the question is answered by yes
abbrev pub holds_on : ℕ → Bool → Bool
holds_on d b = made d && b

abbrev pub number_on : ℕ → ℕ → ℕ
number_on d v = cond (made d) v 0

abbrev pub kind_or_none : ℕ → Option Kind → Option Kind
kind_or_none d k = cond (made d) k None

-- THE NUMBER OF AN ANSWER: 0, or 01's number of the refusal

abbrev pub refused_number : Refused → ℕ
refused_number Undefined = 1

abbrev pub answer_number : {A : Type 0} → Result A Refused → ℕ
answer_number (Ok v) = 0
answer_number (Err e) = refused_number e

-- the running address of a walk over a device's blocks, which begins at what `first_node_addr` gives and grows by what `node_block_size` gives:
-- 0 at each block where the device is not made
abbrev pub running_on : ℕ → ℕ → ℕ
running_on d k = number_on d (running_addr (device_of d) k)
