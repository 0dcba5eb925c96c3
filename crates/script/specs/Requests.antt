-- What a step line asks for.
use Rattle.std.specs.Prelude.{ℕ, cond, List, [], ◌∷◌, eqb, length, drop, Option, Some, None}
use Rattle.sectortype.specs.Form.{empty_table}
use Rattle.words.specs.Bytes.{same_of, starts_of, loc_bytes}
use Rattle.words.specs.Numbers.{number_of}
use Rattle.words.specs.declared.text.Keys.{Keys}
use Rattle.words.specs.declared.text.Keys.TheVariants as keys
use Rattle.words.specs.Cut.{word_of, fit_of, number_word, place_word}
use Rattle.words.specs.Parsed.{node_of, table_read_of}
use Rattle.words.specs.Reading.{◌>>=◌}
use Rattle.script.specs.declared.request.NodeSource.{NodeSource}
use Rattle.script.specs.declared.request.TableSource.{TableSource}
use Rattle.script.specs.declared.request.Operations.{Operations}
use Rattle.script.specs.declared.request.Request.{Request}
use Rattle.script.specs.Operations.{uiop_word, version_word, disk_word}
use Rattle.script.specs.declared.request.NodeSource.TheVariants as node
use Rattle.script.specs.declared.request.TableSource.TheVariants as table

abbrev pub node_written : List ℕ → Option NodeSource
node_written w = do
  n ← node_of w
  Some (node.Written n)

-- none, stored, cached, or a node written out
unfoldable pub node_source_of : List ℕ → Option NodeSource
node_source_of w =
    cond (same_of w (110 ∷ 111 ∷ 110 ∷ 101 ∷ [])) (Some node.Nothing)
    (cond (same_of w (115 ∷ 116 ∷ 111 ∷ 114 ∷ 101 ∷ 100 ∷ [])) (Some node.Stored)
    (cond (same_of w (99 ∷ 97 ∷ 99 ∷ 104 ∷ 101 ∷ 100 ∷ [])) (Some node.Cached)
    (node_written w)))

-- node=
unfoldable pub node_word : List ℕ → Option NodeSource
node_word r =
    cond (eqb (length (word_of r (110 ∷ 111 ∷ 100 ∷ 101 ∷ 61 ∷ []))) 0) (Some node.Nothing)
    (node_source_of (drop 5 (word_of r (110 ∷ 111 ∷ 100 ∷ 101 ∷ 61 ∷ []))))

abbrev pub table_written : List ℕ → Option TableSource
table_written w = do
  t ← table_read_of w
  Some (table.Written t.table)

-- behind small/ a number, any one: past the last it stands for the empty table (specs/Calls.antt)
abbrev pub table_small : List ℕ → Option TableSource
table_small w = do
  k ← number_of w
  Some (table.Small k)

-- small/K, or a table written out
unfoldable pub table_text_of : List ℕ → Option TableSource
table_text_of w = cond (starts_of w (115 ∷ 109 ∷ 97 ∷ 108 ∷ 108 ∷ 47 ∷ [])) (table_small (drop 6 w)) (table_written w)

-- none, empty, stored, frozen, ephemeral, persistent, small/K, or a table written out
unfoldable pub table_source_of : List ℕ → Option TableSource
table_source_of w =
    cond (same_of w (110 ∷ 111 ∷ 110 ∷ 101 ∷ [])) (Some table.Nothing)
    (cond (same_of w (101 ∷ 109 ∷ 112 ∷ 116 ∷ 121 ∷ [])) (Some (table.Written empty_table))
    (cond (same_of w (115 ∷ 116 ∷ 111 ∷ 114 ∷ 101 ∷ 100 ∷ [])) (Some table.Stored)
    (cond (same_of w (102 ∷ 114 ∷ 111 ∷ 122 ∷ 101 ∷ 110 ∷ [])) (Some table.Frozen)
    (cond (same_of w (101 ∷ 112 ∷ 104 ∷ 101 ∷ 109 ∷ 101 ∷ 114 ∷ 97 ∷ 108 ∷ [])) (Some table.Ephemeral)
    (cond (same_of w (112 ∷ 101 ∷ 114 ∷ 115 ∷ 105 ∷ 115 ∷ 116 ∷ 101 ∷ 110 ∷ 116 ∷ [])) (Some table.Persistent)
    (table_text_of w))))))

-- table=
unfoldable pub table_word : List ℕ → Option TableSource
table_word r =
    cond (eqb (length (word_of r (116 ∷ 97 ∷ 98 ∷ 108 ∷ 101 ∷ 61 ∷ []))) 0) (Some table.Nothing)
    (table_source_of (drop 6 (word_of r (116 ∷ 97 ∷ 98 ∷ 108 ∷ 101 ∷ 61 ∷ []))))

-- the words that a step line may have, by the step's number: table1, table2 and block are a crash's alone, op is step 20's alone
abbrev pub step_keys : ℕ → Keys
step_keys n =
    cond (eqb n 18) keys.Crash
    (cond (eqb n 20) keys.Transaction
    keys.Step)

-- id=, vloc=, loc=, uiop=, v=, d=
unfoldable pub operations_of : List ℕ → Option Operations
operations_of r = do
  id ← number_word r (105 ∷ 100 ∷ 61 ∷ [])
  vloc ← place_word r (118 ∷ 108 ∷ 111 ∷ 99 ∷ 61 ∷ [])
  loc ← place_word r loc_bytes
  noop ← uiop_word r
  vop ← version_word r vloc noop
  dop ← disk_word r id loc
  Some (record { id = id; vop = vop; dop = dop })

abbrev pub request_words : List ℕ → Option Request
request_words r = do
  reference ← number_word r (114 ∷ 101 ∷ 102 ∷ 61 ∷ [])
  o ← operations_of r
  n ← node_word r
  t ← table_word r
  Some (record { reference = reference; id = o.id; vop = o.vop; dop = o.dop; node = n; table = t })

-- ref=, and all of these
unfoldable pub request_of : List ℕ → Keys → Option Request
request_of r ks = cond (fit_of r ks) (request_words r) None
