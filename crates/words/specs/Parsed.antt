-- Lists, nodes and tables as text, and what kind of line it is.
use Rattle.std.specs.Prelude.{ℕ, ◌+◌, Bool, true, ◌&&◌, not, cond, List, [], ◌∷◌, ltb, eqb, length, get_or, set, take, drop}
use Rattle.std.specs.Prelude.{Option, Some, None, is_some, unwrap_or}
use Rattle.disklayout.specs.Calls.{zero_loc}
use Rattle.disklayout.specs.declared.Location.{Location}
use Rattle.sectortype.specs.Form.{zero_succs, empty_table, with_entry}
use Rattle.sectortype.specs.declared.Entry.{Entry}
use Rattle.sectortype.specs.declared.Node.{Node}
use Rattle.sectortype.specs.declared.Succs.{Succs}
use Rattle.words.specs.declared.line.Line.{Line}
use Rattle.words.specs.declared.line.Line.TheVariants as line
use Rattle.words.specs.declared.tables.TableRead.{TableRead}
use Rattle.words.specs.declared.text.Keys.{Keys}
use Rattle.words.specs.declared.text.Keys.TheVariants as keys
use Rattle.words.specs.Bytes.{find_of, cut_of, starts_of, same_of, device_bytes, contents_bytes, rule_bytes, loc_bytes}
use Rattle.words.specs.ContentsText.{contents_of, contents_word}
use Rattle.words.specs.Numbers.{number_of, small_of, location_of}
use Rattle.words.specs.Cut.{word_of, fit_of, number_word, place_word, pieces_of}
use Rattle.words.specs.Reading.{◌>>=◌, fold_from}

-- LISTS AND NODES

abbrev pub joined_with : Succs → ℕ → Option Succs
joined_with l r = cond (ltb 7 l.count) None (Some (record { count = l.count + 1; at = set l.at l.count r }))

-- a list with one reference more, at most 8, each a byte
unfoldable pub joined_of : Succs → List ℕ → Option Succs
joined_of l w = do
  r ← small_of w 255
  joined_with l r

-- references between commas (byte 44), perhaps none
unfoldable pub list_of : List ℕ → Option Succs
list_of w = cond (eqb (length w) 0) (Some zero_succs) (fold_from joined_of zero_succs (pieces_of 44 w))

-- CONTENTS:LIST, the two sides of a colon (byte 58)
unfoldable pub node_of : List ℕ → Option Node
node_of w = do
  p ← cut_of w 58
  c ← contents_of p.0
  s ← list_of p.1
  Some (record { contents = c; succs = s })

-- TABLES

abbrev pub start_table : TableRead
start_table = record { next = 0; table = empty_table }

-- REF, at most 63
unfoldable pub reference_of : List ℕ → Option ℕ
reference_of w = small_of w 63

-- REF alone, with no location
abbrev pub unlocated : List ℕ → Option (ℕ × Option Location)
unlocated w = do
  r ← reference_of w
  Some (r, None)

-- REF@ADDR+LEN, by its two sides
abbrev pub located : List ℕ × List ℕ → Option (ℕ × Option Location)
located p = do
  r ← reference_of p.0
  l ← location_of p.1
  Some (r, Some l)

abbrev pub head_from : List ℕ → Option (List ℕ × List ℕ) → Option (ℕ × Option Location)
head_from w None = unlocated w
head_from w (Some p) = located p

-- REF or REF@ADDR+LEN: the two sides of an @ (byte 64)
unfoldable pub head_of : List ℕ → Option (ℕ × Option Location)
head_of w = head_from w (cut_of w 64)

abbrev pub entry_with : Option Location → Succs → Entry
entry_with l s = record { allocated = true; located = is_some l; loc = unwrap_or l zero_loc; succs = s }

-- the head, a colon (byte 58), the list
unfoldable pub entry_of : List ℕ → Option (ℕ × Entry)
entry_of w = do
  p ← cut_of w 58
  h ← head_of p.0
  s ← list_of p.1
  Some (h.0, entry_with h.1 s)

abbrev pub extended_with : TableRead → ℕ × Entry → Option TableRead
extended_with t e =
    cond (ltb e.0 t.next) None
    (cond (ltb 63 e.0) None
    (Some (record { next = e.0 + 1; table = with_entry t.table e.0 e.1 })))

-- a table with one entry more, whose reference is above those before it
unfoldable pub extended_of : TableRead → List ℕ → Option TableRead
extended_of t w = do
  e ← entry_of w
  extended_with t e

-- entries by ascending reference between semicolons (byte 59)
unfoldable pub table_read_of : List ℕ → Option TableRead
table_read_of w = fold_from extended_of start_table (pieces_of 59 w)

-- LINES

-- the words of a rest are the line's, with these two keys among them
unfoldable pub both_of : List ℕ → Keys → List ℕ → List ℕ → Bool
both_of r ks one two = (fit_of r ks && not (eqb (length (word_of r one)) 0)) && not (eqb (length (word_of r two)) 0)

-- the freeze rule that a format names; without the word it is 1
unfoldable pub rule_word : List ℕ → Option ℕ
rule_word r = cond (eqb (length (word_of r rule_bytes)) 0) (Some 1) (number_word r rule_bytes)

abbrev pub format_words : List ℕ → Option Line
format_words r = do
  d ← number_word r device_bytes
  c ← contents_word r contents_bytes
  k ← rule_word r
  Some (line.Format d c k)

-- device= and contents=, perhaps rule=, in any order
unfoldable pub format_of : List ℕ → Option Line
format_of r = cond (both_of r keys.Format device_bytes contents_bytes) (format_words r) None

abbrev pub place_words : List ℕ → Option Line
place_words r = do
  d ← number_word r device_bytes
  l ← place_word r loc_bytes
  Some (line.Place d l)

-- place, with device= and loc=, in either order
unfoldable pub place_of : List ℕ → List ℕ → Option Line
place_of first r =
    cond (not (same_of first (112 ∷ 108 ∷ 97 ∷ 99 ∷ 101 ∷ []))) None
    (cond (not (both_of r keys.Place device_bytes loc_bytes)) None
    (place_words r))

-- audit, show and choose
unfoldable pub alone_of : List ℕ → Option Line
alone_of w =
    cond (same_of w (97 ∷ 117 ∷ 100 ∷ 105 ∷ 116 ∷ [])) (Some line.Audit)
    (cond (same_of w (115 ∷ 104 ∷ 111 ∷ 119 ∷ [])) (Some line.Show)
    (cond (same_of w (99 ∷ 104 ∷ 111 ∷ 111 ∷ 115 ∷ 101 ∷ [])) (Some line.Choose)
    None))

abbrev pub step_from : List ℕ → Option Line
step_from w = do
  n ← number_of w
  Some (line.Step n)

-- format, step=, place, or a word alone, by a line's first word
unfoldable pub first_of : List ℕ → List ℕ → Bool → Option Line
first_of first rest more =
    cond (same_of first (102 ∷ 111 ∷ 114 ∷ 109 ∷ 97 ∷ 116 ∷ [])) (format_of rest)
    (cond (starts_of first (115 ∷ 116 ∷ 101 ∷ 112 ∷ 61 ∷ [])) (step_from (drop 5 first))
    (cond more (place_of first rest)
    (alone_of first)))

-- a line of at most 4,096 bytes; an empty one, and one that begins with # (byte 35), is skipped
unfoldable pub line_of : List ℕ → Option Line
line_of s =
    cond (ltb 4096 (length s)) None
    (cond (eqb (length s) 0) (Some line.Skip)
    (cond (eqb (get_or s 0 0) 35) (Some line.Skip)
    (first_of (take (find_of s 32) s) (drop (find_of s 32) s) (ltb (find_of s 32) (length s)))))
