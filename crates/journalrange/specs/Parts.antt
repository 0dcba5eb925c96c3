-- Document 02, Q-3: the front and the back part of a circular range of the journal (upstream's `JournalFrontLocation` and
-- `JournalBackLocation`), in an area of memory that holds the journal of a device.
use Rattle.std.specs.Prelude.{Bool, ◌&&◌, not, cond, List, [], ◌∷◌, ℕ, ◌+◌, ◌-◌, ◌*◌, eqb, length, take, drop}
use Rattle.std.proofs.Math.Option.{Option, some, none}
use Rattle.base.specs.Refusals.{Row, ◌when◌}
use Rattle.disklayout.specs.declared.Device.{Device}
use Rattle.disklayout.specs.declared.Location.{Location}
use Rattle.disklayout.specs.Device.{made, device_of}
use Rattle.disklayout.specs.Journal.{journal_front_requires, journal_front_location, journal_back_requires, journal_back_location}
use Rattle.disklayout.specs.Layout.{num_journal_blocks, journal_start_addr}
use Rattle.journalrange.specs.declared.Part.{Part}
use Rattle.std.specs.Prelude as code
use Rattle.std.specs.Result.{result_unwrap_or}
use Rattle.disklayout.specs.declared.Refused.{Refused}
use Rattle.disklayout.specs.declared.Refused.TheVariants as layout
use Rattle.journalrange.specs.declared.PartRefused.{PartRefused}
use Rattle.journalrange.specs.declared.PartRefused.TheVariants.{Undefined, OtherLength}

-- how many bytes a device's journal has
abbrev pub journal_length : Device → ℕ
journal_length w = num_journal_blocks w * 4096

-- THE REFUSALS

-- their numbers: document 01's, and document 02's own
abbrev pub part_refused_number : PartRefused → ℕ
part_refused_number Undefined = 1
part_refused_number OtherLength = 23

-- of a part whose location the layout refuses to tell
abbrev pub untold : Refused → PartRefused
untold layout.Undefined = Undefined

-- the number of what a call tells: 0 of a part
abbrev pub part_number : code.Result Part PartRefused → ℕ
part_number (code.Ok p) = 0
part_number (code.Err e) = part_refused_number e

-- which is that of the first of these to hold (`number_told`, proofs/Parts.antt): of a part whose location upstream requires `pre` for, where
-- `bytes` bytes are lent
unfoldable pub part_rows : ℕ → Bool → ℕ → List Row
part_rows d pre bytes =
    (1 when not (made d && pre)) ∷
    (23 when not (eqb bytes (journal_length (device_of d)))) ∷
    []

-- of the range of n blocks from block s on; the front takes any n
abbrev pub front_rows : ℕ → ℕ → ℕ → List Row
front_rows d bytes s = part_rows d (journal_front_requires (device_of d) s) bytes

abbrev pub back_rows : ℕ → ℕ → ℕ → ℕ → List Row
back_rows d bytes s n = part_rows d (journal_back_requires (device_of d) s n) bytes

-- WHERE A PART LIES IN THE LENT AREA

-- from the address of its location the journal's start is subtracted
abbrev pub start_of : Option Location → ℕ
start_of none = 0
start_of (some l) = l.addr - journal_start_addr

abbrev pub len_of : Option Location → ℕ
len_of none = 0
len_of (some l) = l.len

-- where the location is; empty where there is none
abbrev pub part_at : Option Location → Part
part_at o = record { start = start_of o; len = len_of o }

-- the location that the layout tells, if there is one
abbrev pub located : code.Option Location → Option Location
located code.None = none
located (code.Some l) = some l

-- the part, or the first of the two refusals
unfoldable pub part_of : ℕ → Bool → ℕ → Option Location → code.Result Part PartRefused
part_of d pre bytes o =
    cond (not (made d && pre)) (code.Err Undefined)
    (cond (not (eqb bytes (journal_length (device_of d)))) (code.Err OtherLength) (code.Ok (part_at o)))

abbrev pub front_part : ℕ → ℕ → ℕ → ℕ → code.Result Part PartRefused
front_part d bytes s n = part_of d (journal_front_requires (device_of d) s) bytes (journal_front_location (device_of d) s n)

abbrev pub back_part : ℕ → ℕ → ℕ → ℕ → code.Result Part PartRefused
back_part d bytes s n = part_of d (journal_back_requires (device_of d) s n) bytes (journal_back_location (device_of d) s n)

-- where that lies: a refused part is empty
abbrev pub place_of : code.Result Part PartRefused → Part
place_of r = result_unwrap_or r (record { start = 0; len = 0 })

-- WHAT A CALL HANDS BACK

-- the part's bytes, cut out of the area's
abbrev pub cut : List ℕ → Part → List ℕ
cut area p = take p.len (drop p.start area)

abbrev pub front_bytes : ℕ → List ℕ → ℕ → ℕ → List ℕ
front_bytes d area s n = cut area (place_of (front_part d (length area) s n))

abbrev pub back_bytes : ℕ → List ℕ → ℕ → ℕ → List ℕ
back_bytes d area s n = cut area (place_of (back_part d (length area) s n))

-- where the part lies in memory, by where the area does, an allocation and an offset in it: it is a part of the area itself, and no copy
abbrev pub part_ptr : ℕ × ℕ → Part → ℕ × ℕ
part_ptr area p = (area.0, p.start + area.1)
