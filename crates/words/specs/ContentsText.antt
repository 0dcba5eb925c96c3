-- Contents as text: HIGH.LOW, or LOW alone, which is high 0.
use Rattle.std.specs.Prelude.{ℕ, List, length, drop, Option, Some, None, option_map}
use Rattle.sectortype.specs.HighLow.{carried_contents}
use Rattle.sectortype.specs.declared.Contents.{Contents}
use Rattle.words.specs.Cut.{word_of}
use Rattle.words.specs.Numbers.{number_of, sides_of}

abbrev pub low_alone : Option ℕ → Option Contents
low_alone n = option_map carried_contents n

abbrev pub contents_from : Option (ℕ × ℕ) → Option ℕ → Option Contents
contents_from (Some p) n = Some (record { high = p.0; low = p.1 })
contents_from None n = low_alone n

-- HIGH.LOW, the two sides of a full stop (byte 46), else LOW alone
unfoldable pub contents_of : List ℕ → Option Contents
contents_of s = contents_from (sides_of s 46) (number_of s)

-- what the word with a key has behind it
abbrev pub contents_word : List ℕ → List ℕ → Option Contents
contents_word r key = contents_of (drop (length key) (word_of r key))
