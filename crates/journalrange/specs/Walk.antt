-- Document 02, Q-3: what a walk over the front part of a range, then over its back part, comes upon, over any row. Blocks are counted from 0.
use Rattle.std.specs.Prelude.{◌≡◌, List, [], ◌++◌, ℕ, zero, suc, ◌+◌, ◌*◌, ◌%◌, ◌<◌, length, take, drop}
use Rattle.disklayout.specs.declared.Device.{Device}
use Rattle.disklayout.specs.Layout.{num_journal_blocks}

-- block k of a list of bytes: 4096 of them
abbrev pub block : List ℕ → ℕ → List ℕ
block bytes k = take 4096 (drop (k * 4096) bytes)

-- the number of the block that stands at place i of a range from block s on: behind the journal's last block comes its first
abbrev pub range_block : Device → ℕ → ℕ → ℕ
range_block w s i = (s + i) % num_journal_blocks w

-- the n blocks of a range, one behind the other, in an area that holds the journal
unfoldable pub range_bytes : Device → List ℕ → ℕ → ℕ → List ℕ
range_bytes w area s zero = []
range_bytes w area s (suc n) = range_bytes w area s n ++ block area (range_block w s n)

-- front followed by back gives each block of the range of n blocks from block s on once, in the range's order: shown of what the calls hand back by
-- `in_order`, in proofs/Walk.antt
pub record InOrder (w : Device) (area : List ℕ) (s n : ℕ) (front back : List ℕ) : Type 0 where
  -- their bytes are the range's, block for block, and there are no more
  pub bytes : front ++ back ≡ range_bytes w area s n
  pub blocks : (i : ℕ) → i < n → block (front ++ back) i ≡ block area (range_block w s i)
  pub no_more : length (front ++ back) ≡ n * 4096
  -- each block of the range is a whole one, and none comes twice
  pub whole : (i : ℕ) → i < n → length (block area (range_block w s i)) ≡ 4096
  pub once : (i j : ℕ) → i < n → j < n → range_block w s i ≡ range_block w s j → i ≡ j
  -- the back part begins with a block: none is split between the two parts
  pub unsplit : length front % 4096 ≡ 0
