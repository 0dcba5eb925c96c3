-- Ranges at the edges of the journal, 01's starred one first: shown from the definitions by one statement over one list. The numbers follow from
-- document 01's rows (device 0 has 16 blocks of 4096 bytes, 65536 in all; device 1 has 64, device 2 has 256). Assumes nothing.
use mathlib.Core.Path.{◌≡◌, refl}
use mathlib.Core.List.{List, [], ◌∷◌, map}
use Prim.Native.Nat.{ℕ}
use Rattle.std.specs.Prelude.{Result}
use Rattle.disklayout.specs.Device.{device_of, devices}
use Rattle.journalrange.specs.declared.Part.{Part}
use Rattle.journalrange.specs.declared.PartRefused.{PartRefused}
use Rattle.journalrange.specs.Parts.{back_part, front_part, part_number, part_of, place_of}

-- a range: the device, the count of the lent bytes, the first block, how many blocks
pub data Range : Type 0 where
  range : ℕ → ℕ → ℕ → ℕ → Range

-- what is told of a part: the number, and where it lies
pub record Told : Type 0 where
  pub answer : ℕ
  pub start : ℕ
  pub len : ℕ

abbrev pub told : Result Part PartRefused → Told
told r = record { answer = part_number r; start = (place_of r).start; len = (place_of r).len }

-- its front and its back part
pub data Parts : Type 0 where
  parts : Told → Told → Parts

pub ask : Range → Parts
ask (range d bytes s n) = parts (told (front_part d bytes s n)) (told (back_part d bytes s n))

abbrev pub part : ℕ → ℕ → Told
part start len = record { answer = 0; start = start; len = len }

-- refused, or accepted and not there: an empty part
abbrev pub empty : ℕ → Told
empty n = record { answer = n; start = 0; len = 0 }

infix 40 ◌gives◌
pub data Edge : Type 0 where
  ◌gives◌ : Range → Parts → Edge

pub asked : Edge → Parts
asked (r gives p) = ask r

pub expected : Edge → Parts
expected (r gives p) = p

pub edges : List Edge
edges =
    -- start 14, 5 blocks: front (65536, 8192) and back (8192, 12288), the journal's start 8192 subtracted
    (range 0 65536 14 5 gives parts (part 57344 8192) (part 0 12288)) ∷
    (range 0 65536 14 2 gives parts (part 57344 8192) (empty 0)) ∷
    (range 0 65536 14 3 gives parts (part 57344 8192) (part 0 4096)) ∷
    (range 0 65536 14 0 gives parts (empty 0) (empty 0)) ∷
    (range 0 65536 0 16 gives parts (part 0 65536) (empty 0)) ∷
    (range 0 65536 15 16 gives parts (part 61440 4096) (part 0 61440)) ∷
    -- more blocks than the journal has: the front takes any length
    (range 0 65536 0 17 gives parts (part 0 65536) (empty 1)) ∷
    (range 0 65536 15 18446744073709551615 gives parts (part 61440 4096) (empty 1)) ∷
    -- a start past the last block
    (range 0 65536 16 1 gives parts (empty 1) (empty 1)) ∷
    (range 0 65536 16 0 gives parts (empty 1) (empty 1)) ∷
    -- an area of another length; 1 comes before 23
    (range 0 65535 14 5 gives parts (empty 23) (empty 23)) ∷
    (range 0 65537 14 5 gives parts (empty 23) (empty 23)) ∷
    (range 0 65535 14 17 gives parts (empty 23) (empty 1)) ∷
    (range 0 65535 16 5 gives parts (empty 1) (empty 1)) ∷
    -- the other devices
    (range 1 65536 14 5 gives parts (empty 23) (empty 23)) ∷
    (range 1 262144 62 5 gives parts (part 253952 8192) (part 0 12288)) ∷
    (range 2 1048576 254 5 gives parts (part 1040384 8192) (part 0 12288)) ∷
    (range 1 262144 64 1 gives parts (empty 1) (empty 1)) ∷
    (range 2 1048576 255 257 gives parts (part 1044480 4096) (empty 1)) ∷
    -- a device that is not made, with any area: an empty one too
    (range 3 65536 14 5 gives parts (empty 1) (empty 1)) ∷
    (range 3 0 14 5 gives parts (empty 1) (empty 1)) ∷
    []

pub edges_shown : map asked edges ≡ map expected edges
unfolding edges asked expected ask part_of device_of devices
edges_shown = refl
