-- A line cut into words and a word into pieces; the word that has a key; whether all words fit.
use Rattle.std.specs.Prelude.{ℕ, Bool, true, false, ◌&&◌, not, cond, List, [], ◌∷◌, ◌==◌, eqb, length, get_or, set, drop, replicate}
use Rattle.std.specs.Prelude.{Option, Some, None}
use Rattle.std.specs.List.{slice_split}
use Rattle.std.specs.Option.{option_map_or}
use Rattle.disklayout.specs.declared.Location.{Location}
use Rattle.words.specs.declared.text.Key.{Key}
use Rattle.words.specs.declared.text.Keys.{Keys}
use Rattle.words.specs.declared.text.Pieces.{Pieces}
use Rattle.words.specs.Bytes.{find_of, starts_of, index_of, key_of, keys_of, many}
use Rattle.words.specs.Numbers.{number_of, location_of}

-- what follows a line's first word: each word of it stands behind one space (byte 32)
abbrev pub rest_of : List ℕ → List ℕ
rest_of s = drop (find_of s 32) s

-- the pieces between the bytes b
unfoldable pub pieces_of : ℕ → List ℕ → List (List ℕ)
pieces_of b s = slice_split (λ c. c == b) s

-- the pieces that are yet to come
abbrev pub left_of : Pieces → List (List ℕ)
left_of p = option_map_or (λ s. pieces_of p.by s.now) p.left []

-- the words of a rest
unfoldable pub words_of : List ℕ → List (List ℕ)
words_of [] = []
words_of (space ∷ s) = pieces_of 32 s

abbrev pub first_with : List ℕ → List (List ℕ) → List ℕ
first_with key [] = []
first_with key (w ∷ ws) = cond (starts_of w key) w (first_with key ws)

-- the first word of a rest that begins with the key; empty where none does
unfoldable pub word_of : List ℕ → List ℕ → List ℕ
word_of r key = first_with key (words_of r)

-- there is a key, the line may have it, and it has not been seen before, or is block or op
abbrev pub key_fits : List Bool → Keys → Option Key → Bool
key_fits seen ks None = false
key_fits seen ks (Some k) = keys_of ks k && not (get_or seen (index_of k) false && not (many k))

abbrev pub key_seen : List Bool → Option Key → List Bool
key_seen seen None = seen
key_seen seen (Some k) = set seen (index_of k) true

abbrev pub fit_from : List Bool → Keys → List (List ℕ) → Bool
fit_from seen ks [] = true
fit_from seen ks (w ∷ ws) = key_fits seen ks (key_of w) && fit_from (key_seen seen (key_of w)) ks ws

-- each word of a rest has a key that the line may have, and each but block and op at most once
unfoldable pub fit_of : List ℕ → Keys → Bool
fit_of r ks = fit_from (replicate 16 false) ks (words_of r)

-- what the word with a key has behind it; a default where there is no such word
unfoldable pub number_word : List ℕ → List ℕ → Option ℕ
number_word r key = cond (eqb (length (word_of r key)) 0) (Some 0) (number_of (drop (length key) (word_of r key)))

unfoldable pub place_word : List ℕ → List ℕ → Option Location
place_word r key =
    cond (eqb (length (word_of r key)) 0) (Some (record { addr = 0; len = 0 })) (location_of (drop (length key) (word_of r key)))
