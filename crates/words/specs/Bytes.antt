-- Bytes: where one first stands, what stands on its two sides, whether a list begins with another, and which key a word has.
use Rattle.std.specs.Prelude.{ℕ, ◌+◌, Bool, true, false, ◌||◌, cond, List, [], ◌∷◌, ◌==◌, nat_eq, take, drop, position}
use Rattle.std.specs.Prelude.{Option, Some, None}
use Rattle.std.specs.List.{position_or_len, starts_with}
use Rattle.std.specs.Str.{bytes_eq}
use Rattle.words.specs.Reading.{◌>>=◌}
use Rattle.words.specs.declared.text.Key.{Key}
use Rattle.words.specs.declared.text.Key.TheVariants as key
use Rattle.words.specs.declared.text.Keys.{Keys}
use Rattle.words.specs.declared.text.Keys.TheVariants.{Step, Crash, Format, Place, Transaction}

-- where b first stands in s
abbrev pub place_of : List ℕ → ℕ → Option ℕ
place_of s b = position (λ c. c == b) s

-- the same; the length of s where it does not
unfoldable pub find_of : List ℕ → ℕ → ℕ
find_of s b = position_or_len (λ c. c == b) s

-- what stands on the two sides of the first b
unfoldable pub cut_of : List ℕ → ℕ → Option (List ℕ × List ℕ)
cut_of s b = do
  i ← place_of s b
  Some (take i s, drop (i + 1) s)

-- s begins with p
abbrev pub starts_of : List ℕ → List ℕ → Bool
starts_of s p = starts_with nat_eq s p

unfoldable pub same_of : List ℕ → List ℕ → Bool
same_of s p = bytes_eq s p

-- the keys that a line is asked for by name: device=, contents=, rule=, loc=, op=
abbrev pub device_bytes : List ℕ
device_bytes = 100 ∷ 101 ∷ 118 ∷ 105 ∷ 99 ∷ 101 ∷ 61 ∷ []

abbrev pub contents_bytes : List ℕ
contents_bytes = 99 ∷ 111 ∷ 110 ∷ 116 ∷ 101 ∷ 110 ∷ 116 ∷ 115 ∷ 61 ∷ []

abbrev pub rule_bytes : List ℕ
rule_bytes = 114 ∷ 117 ∷ 108 ∷ 101 ∷ 61 ∷ []

abbrev pub loc_bytes : List ℕ
loc_bytes = 108 ∷ 111 ∷ 99 ∷ 61 ∷ []

abbrev pub op_bytes : List ℕ
op_bytes = 111 ∷ 112 ∷ 61 ∷ []

-- table1=, table2=, block=, device=, contents=, rule=, op=
unfoldable pub rare_key_of : List ℕ → Option Key
rare_key_of w =
    cond (starts_of w (116 ∷ 97 ∷ 98 ∷ 108 ∷ 101 ∷ 49 ∷ 61 ∷ [])) (Some key.Table1)
    (cond (starts_of w (116 ∷ 97 ∷ 98 ∷ 108 ∷ 101 ∷ 50 ∷ 61 ∷ [])) (Some key.Table2)
    (cond (starts_of w (98 ∷ 108 ∷ 111 ∷ 99 ∷ 107 ∷ 61 ∷ [])) (Some key.Block)
    (cond (starts_of w device_bytes) (Some key.Device)
    (cond (starts_of w contents_bytes) (Some key.Contents)
    (cond (starts_of w rule_bytes) (Some key.Rule)
    (cond (starts_of w op_bytes) (Some key.Op)
    None))))))

-- ref=, v=, vloc=, uiop=, d=, id=, loc=, node=, table=
unfoldable pub key_of : List ℕ → Option Key
key_of w =
    cond (starts_of w (114 ∷ 101 ∷ 102 ∷ 61 ∷ [])) (Some key.Ref)
    (cond (starts_of w (118 ∷ 61 ∷ [])) (Some key.V)
    (cond (starts_of w (118 ∷ 108 ∷ 111 ∷ 99 ∷ 61 ∷ [])) (Some key.Vloc)
    (cond (starts_of w (117 ∷ 105 ∷ 111 ∷ 112 ∷ 61 ∷ [])) (Some key.Uiop)
    (cond (starts_of w (100 ∷ 61 ∷ [])) (Some key.D)
    (cond (starts_of w (105 ∷ 100 ∷ 61 ∷ [])) (Some key.Id)
    (cond (starts_of w loc_bytes) (Some key.Loc)
    (cond (starts_of w (110 ∷ 111 ∷ 100 ∷ 101 ∷ 61 ∷ [])) (Some key.Node)
    (cond (starts_of w (116 ∷ 97 ∷ 98 ∷ 108 ∷ 101 ∷ 61 ∷ [])) (Some key.Table)
    (rare_key_of w)))))))))

-- a key's place among the keys
abbrev pub index_of : Key → ℕ
index_of key.Ref = 0
index_of key.V = 1
index_of key.Vloc = 2
index_of key.Uiop = 3
index_of key.D = 4
index_of key.Id = 5
index_of key.Loc = 6
index_of key.Node = 7
index_of key.Table = 8
index_of key.Table1 = 9
index_of key.Table2 = 10
index_of key.Block = 11
index_of key.Device = 12
index_of key.Contents = 13
index_of key.Rule = 14
index_of key.Op = 15

-- ref to table
abbrev pub any_step : Key → Bool
any_step key.Ref = true
any_step key.V = true
any_step key.Vloc = true
any_step key.Uiop = true
any_step key.D = true
any_step key.Id = true
any_step key.Loc = true
any_step key.Node = true
any_step key.Table = true
any_step k = false

-- block and op may come more than once
abbrev pub many : Key → Bool
many key.Block = true
many key.Op = true
many k = false

abbrev pub crash_only : Key → Bool
crash_only key.Table1 = true
crash_only key.Table2 = true
crash_only key.Block = true
crash_only k = false

abbrev pub format_key : Key → Bool
format_key key.Device = true
format_key key.Contents = true
format_key key.Rule = true
format_key k = false

abbrev pub place_key : Key → Bool
place_key key.Loc = true
place_key key.Device = true
place_key k = false

abbrev pub op_key : Key → Bool
op_key key.Op = true
op_key k = false

-- the keys that a line may have: any step's, a crash's, those of format (device=, contents=, rule=) and of place (loc=, device=);
-- and step 20's, any step's with op= beside them
abbrev pub keys_of : Keys → Key → Bool
keys_of Step k = any_step k
keys_of Crash k = any_step k || crash_only k
keys_of Format k = format_key k
keys_of Place k = place_key k
keys_of Transaction k = any_step k || op_key k
