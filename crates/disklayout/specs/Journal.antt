-- Upstream's DiskLayout, continued: points and ranges of the journal. Each function with a `requires` upstream has that test beside it.
use Rattle.std.specs.Prelude.{Bool, ◌&&◌, ◌||◌, cond, ℕ, ◌+◌, ◌-◌, ◌*◌, ◌/◌, eqb, leb, ltb}
use Rattle.std.proofs.Math.Option.{Option, some, none}
use Rattle.disklayout.specs.declared.Device.{Device}
use Rattle.disklayout.specs.declared.Location.{Location}
use Rattle.disklayout.specs.Layout.{num_journal_blocks, journal_start_addr, valid_journal_location}

abbrev pub journal_point_requires : Device → ℕ → Bool
journal_point_requires w p = leb p (num_journal_blocks w)

abbrev pub journal_point : Device → ℕ → ℕ
journal_point w p = journal_start_addr + p * 4096

abbrev pub journal_range_requires : Device → ℕ → ℕ → Bool
journal_range_requires w s n = ltb s (num_journal_blocks w) && leb (s + n) (num_journal_blocks w)

abbrev pub journal_range_location : Device → ℕ → ℕ → Location
journal_range_location w s n = record { addr = journal_point w s; len = n * 4096 }

-- of locContained.. and locDisjoint..
abbrev pub circular_requires : Device → ℕ → ℕ → Bool
circular_requires w s n = ltb s (num_journal_blocks w) && leb n (num_journal_blocks w)

unfoldable pub loc_contained_in_circular_journal_range : Device → Location → ℕ → ℕ → Bool
loc_contained_in_circular_journal_range w l s n =
    cond (leb (s + n) (num_journal_blocks w))
    (leb (journal_point w s) l.addr && leb (l.addr + l.len) (journal_point w (s + n)))
    ((leb (journal_point w s) l.addr && leb (l.addr + l.len) (journal_point w (num_journal_blocks w)))
    || (leb (journal_point w 0) l.addr && leb (l.addr + l.len) (journal_point w (s + n - num_journal_blocks w))))

unfoldable pub loc_disjoint_from_circular_journal_range : Device → Location → ℕ → ℕ → Bool
loc_disjoint_from_circular_journal_range w l s n =
    cond (leb (s + n) (num_journal_blocks w))
    (leb (l.addr + l.len) (journal_point w s) || leb (journal_point w (s + n)) l.addr)
    (leb (l.addr + l.len) (journal_point w 0)
    || leb (journal_point w (num_journal_blocks w)) l.addr
    || (leb (journal_point w (s + n - num_journal_blocks w)) l.addr && leb (l.addr + l.len) (journal_point w s)))

-- on unbounded numbers, as upstream's; the call refuses a result past 64 bits
abbrev pub journal_pos_add : Device → ℕ → ℕ → ℕ
journal_pos_add w s n = cond (leb (num_journal_blocks w) (s + n)) (s + n - num_journal_blocks w) (s + n)

abbrev pub journal_front_requires : Device → ℕ → Bool
journal_front_requires w s = ltb s (num_journal_blocks w)

abbrev pub journal_front_location : Device → ℕ → ℕ → Option Location
journal_front_location w s n =
    cond (eqb n 0) none
    (some (journal_range_location w s (cond (leb n (num_journal_blocks w - s)) n (num_journal_blocks w - s))))

abbrev pub journal_back_requires : Device → ℕ → ℕ → Bool
journal_back_requires w s n = ltb s (num_journal_blocks w) && leb n (num_journal_blocks w)

abbrev pub journal_back_location : Device → ℕ → ℕ → Option Location
journal_back_location w s n =
    cond (eqb n 0) none
    (cond (leb n (num_journal_blocks w - s)) none
    (some (journal_range_location w 0 (n - (num_journal_blocks w - s)))))

abbrev pub journal_block_idx_requires : Device → Location → Bool
journal_block_idx_requires w l = valid_journal_location w l

abbrev pub journal_block_idx : Device → Location → ℕ
journal_block_idx w l = (l.addr - 2 * 4096) / 4096
