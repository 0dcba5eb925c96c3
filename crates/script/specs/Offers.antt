-- The records that a crash line offers: what is stored, but where a word of the line says otherwise.
use Rattle.std.specs.Prelude.{ℕ, true, false, cond, List, [], ◌∷◌, eqb, length, get_or, set, drop, replicate, Option, Some, None}
use Rattle.sectortype.specs.Form.{empty_table}
use Rattle.sectortype.specs.declared.Table.{Table}
use Rattle.blockdisk.specs.Records.{present_record, zero_node_record, zero_table_record}
use Rattle.blockdisk.specs.declared.Record.{Record}
use Rattle.sectortype.specs.declared.Node.{Node}
use Rattle.blockdisk.specs.declared.Records.{Records}
use Rattle.words.specs.Bytes.{cut_of, starts_of, same_of}
use Rattle.words.specs.Numbers.{small_of, location_of}
use Rattle.words.specs.Cut.{words_of, word_of}
use Rattle.words.specs.Parsed.{node_of, table_read_of}
use Rattle.words.specs.Reading.{◌>>=◌, fold_from}
use Rattle.script.specs.declared.offer.Offer.{Offer}

-- A TABLE AREA

abbrev pub table_written_of : List ℕ → Option Table
table_written_of w = do
  t ← table_read_of w
  Some t.table

-- a table behind a `/`: `empty`, or written out
unfoldable pub offered_table : List ℕ → Option Table
offered_table w = cond (same_of w (101 ∷ 109 ∷ 112 ∷ 116 ∷ 121 ∷ [])) (Some empty_table) (table_written_of w)

-- ADDR+LEN/TABLE: the two sides of the first / (byte 47)
abbrev pub area_written : List ℕ → Option (Record Table)
area_written w = do
  p ← cut_of w 47
  l ← location_of p.0
  t ← offered_table p.1
  Some (present_record l t)

-- `none`, an area without a record, or one that is written out
unfoldable pub area_of : List ℕ → Option (Record Table)
area_of w = cond (same_of w (110 ∷ 111 ∷ 110 ∷ 101 ∷ [])) (Some zero_table_record) (area_written w)

-- A NODE BLOCK

-- ADDR+LEN/NODE
abbrev pub block_written : List ℕ → Option (Record Node)
block_written w = do
  p ← cut_of w 47
  l ← location_of p.0
  n ← node_of p.1
  Some (present_record l n)

-- `none`, a block without a record, or one that is written out
unfoldable pub block_of : List ℕ → Option (Record Node)
block_of w = cond (same_of w (110 ∷ 111 ∷ 110 ∷ 101 ∷ [])) (Some zero_node_record) (block_written w)

-- THE OFFER

-- what was read takes the place of what area k had
abbrev pub area_offered : Offer → ℕ → Record Table → Offer
area_offered o k a = record { named = o.named; records = record { tables = set o.records.tables k a; nodes = o.records.nodes } }

abbrev pub area_read : Offer → ℕ → List ℕ → Option Offer
area_read o k w = do
  a ← area_of w
  Some (area_offered o k a)

-- what the word with the key has for area k; what is stored there where the line has no such word
unfoldable pub with_area : Offer → List ℕ → List ℕ → ℕ → Option Offer
with_area o r key k = cond (eqb (length (word_of r key)) 0) (Some o) (area_read o k (drop (length key) (word_of r key)))

-- what was read takes the place of what block k had; a block that a word has named before is refused
abbrev pub block_offered : Offer → ℕ → Record Node → Option Offer
block_offered o k b =
    cond (get_or o.named k false) None
    (Some (record { named = set o.named k true; records = record { tables = o.records.tables; nodes = set o.records.nodes k b } }))

-- K:, K at most 127, and what block K has
unfoldable pub with_block : Offer → List ℕ → Option Offer
with_block o w = do
  p ← cut_of w 58
  k ← small_of p.0 127
  b ← block_of p.1
  block_offered o k b

-- block=, or another word, which says nothing of blocks
unfoldable pub with_word : Offer → List ℕ → Option Offer
with_word o w = cond (starts_of w (98 ∷ 108 ∷ 111 ∷ 99 ∷ 107 ∷ 61 ∷ [])) (with_block o (drop 6 w)) (Some o)

-- all the words of a rest, one after the other
unfoldable pub with_blocks : Offer → List ℕ → Option Offer
with_blocks o r = fold_from with_word o (words_of r)

-- no word read yet: what is stored
abbrev pub no_words : Records → Offer
no_words stored = record { named = replicate 128 false; records = stored }

-- table1=, table2=, and each block=
unfoldable pub offered_of : List ℕ → Records → Option Offer
offered_of r stored = do
  one ← with_area (no_words stored) r (116 ∷ 97 ∷ 98 ∷ 108 ∷ 101 ∷ 49 ∷ 61 ∷ []) 0
  two ← with_area one r (116 ∷ 97 ∷ 98 ∷ 108 ∷ 101 ∷ 50 ∷ 61 ∷ []) 1
  with_blocks two r
