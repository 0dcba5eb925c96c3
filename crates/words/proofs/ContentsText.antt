-- Contents, and the rule of a format line, as text: what HIGH.LOW, 0.LOW and LOW alone are read as; that the rule is the number
-- behind its key, and 1 without the word; and that a script of before means the carried nodes. Assumes nothing.
use Prim.Native.Nat.{ℕ, ◌+◌, ◌<◌, ◌^◌}
use mathlib.Core.Bool.{true, false, false≢true, not, ◌&&◌}
use mathlib.Core.List.{List, [], ◌∷◌, ◌++◌}
use mathlib.Core.Logic.{◌⊎◌, inl, inr}
use mathlib.Core.Path.{◌≡◌, refl, sym, ap, ◌∙◌}
use native.Mathlib.Omega.{arith}
use borrow.Author.Tests.{eq-eqb, ne_eqb}
use lib.Dec.{eqb, ltb}
use lib.ListN.{get_or-append, length, get_or, take, drop, length-append}
use lib.Seq.{drop-append-add, get_or-append_seam, take-append_seam}
use Rattle.std.proofs.Common.{Option, Some, None, option_map, unwrap_or}
use Rattle.std.proofs.lemmas.List.Sums.{position_or_len_is}
use Rattle.base.specs.Scan.{all_below}
use Rattle.base.proofs.Scan.{all_at}
use Rattle.base.proofs.Tests.{and_left, and_right, not_true_iff, split}
use Rattle.sectortype.specs.HighLow.{carried_contents}
use Rattle.sectortype.specs.Older.{carried}
use Rattle.sectortype.specs.declared.Contents.{Contents}
use Rattle.sectortype.specs.declared.Succs.{Succs}
use Rattle.words.proofs.Cuts.{cut_found, cut_missed}
use Rattle.words.proofs.Numbers.{is_read}
use Rattle.words.specs.declared.line.Line.TheVariants as line
use Rattle.words.specs.declared.text.Keys.TheVariants as keys
use Rattle.words.specs.Bytes.{contents_bytes, device_bytes, rule_bytes, find_of}
use Rattle.words.specs.Reading.{◌>>=◌}
use Rattle.words.specs.Cut.{fit_of, number_word, word_of}
use Rattle.words.specs.ContentsText.{contents_from, contents_of, low_alone}
use Rattle.words.specs.Numbers.{digit, location_of, number_of, numeral, sides_of, value_of}
use Rattle.words.specs.Parsed.{both_of, format_of, list_of, node_of, rule_word}

-- THE TWO SIDES OF A BYTE THAT IS NO DIGIT

-- such a byte is none of a number's
number_byte : (s : List ℕ) (n b : ℕ) → digit b ≡ false → number_of s ≡ Some n → (k : ℕ) → k < length s → eqb (get_or s k 0) b ≡ false
unfolding number_of
number_byte s n b o e k l =
    ne_eqb (get_or s k 0) b (λ h. false≢true (sym o ∙ (rw h at (all_at (λ j. digit (get_or s j 0)) (length s) k digits l))))
  where
    digits : all_below (λ j. digit (get_or s j 0)) (length s) ≡ true
    digits =
        split (numeral s && ltb (value_of s (length s)) (2 ^ 64))
        (λ t. and_left _ _ (and_left _ _ t))
        (λ t. absurd (false≢true (ap is_read (rw t at e))))

not_found : (s : List ℕ) (n b : ℕ) → digit b ≡ false → number_of s ≡ Some n → find_of s b ≡ length s
unfolding find_of
not_found s n b o e = position_or_len_is _ s (length s) 0 (omega arith) (number_byte s n b o e) (λ h. absurd (omega arith))

-- behind a number it is the first of its kind
found_behind : (h l : List ℕ) (a b : ℕ) → digit b ≡ false → number_of h ≡ Some a → find_of (h ++ b ∷ l) b ≡ length h
unfolding find_of
found_behind h l a b o e =
    position_or_len_is _ (h ++ b ∷ l) (length h) 0 (omega (arith, length-append h (b ∷ l)))
    (λ k c. rw (get_or-append h (b ∷ l) 0 k c) (number_byte h a b o e k c))
    (λ c. rw (get_or-append_seam h b l 0) (eq-eqb b b refl))

-- so the two sides are that number and what stands behind
pub sides_behind : (h l : List ℕ) (a b : ℕ) → digit b ≡ false → number_of h ≡ Some a →
    sides_of (h ++ b ∷ l) b ≡ option_map (λ r. (a, r)) (number_of l)
unfolding sides_of
sides_behind h l a b o e =
    let f = found_behind h l a b o e in
    let n : find_of (h ++ b ∷ l) b ≡ length (h ++ b ∷ l) → ⊥ = λ q. omega (arith, f, length-append h (b ∷ l)) in
    rw (cut_found (h ++ b ∷ l) b n, f, take-append_seam h (b ∷ l), drop-append-add h (b ∷ l) 1, e) (paired (number_of l))
  where
    paired : (o : Option ℕ) → ◌>>=◌ {B = ℕ × ℕ} o (λ r. Some (a, r)) ≡ option_map (λ r. (a, r)) o
    paired (Some r) = refl
    paired None = refl

-- ADDR+LEN is read as the two numbers
pub location_read : (h l : List ℕ) (a b : ℕ) → number_of h ≡ Some a → number_of l ≡ Some b →
    location_of (h ++ 43 ∷ l) ≡ Some (record { addr = a; len = b })
unfolding location_of
location_read h l a b e f = rw (sides_behind h l a 43 refl e, f)

-- LOW ALONE

alone : (s : List ℕ) → find_of s 46 ≡ length s → contents_of s ≡ low_alone (number_of s)
unfolding contents_of sides_of
alone s e = rw (cut_missed s 46 e)

-- what was a number is the contents that the number is carried to
pub number_carried : (s : List ℕ) (n : ℕ) → number_of s ≡ Some n → contents_of s ≡ Some (carried_contents n)
number_carried s n e = alone s (not_found s n 46 refl e) ∙ ap low_alone e

-- HIGH.LOW

-- both numbers are read, each as what it is
pub both_numbers : (h l : List ℕ) (a b : ℕ) → number_of h ≡ Some a → number_of l ≡ Some b →
    contents_of (h ++ 46 ∷ l) ≡ Some (record { high = a; low = b })
unfolding contents_of
both_numbers h l a b e f = rw (sides_behind h l a 46 refl e, f)

zero_number : number_of (48 ∷ []) ≡ Some 0
unfolding number_of value_of all_below
zero_number = refl

none_if : (d : Option ℕ) → ((n : ℕ) → d ≡ Some n → ⊥) → d ≡ None
none_if (Some n) h = absurd (h n refl)
none_if None h = refl

-- 0.LOW is no number
zero_stop : (s : List ℕ) → number_of (48 ∷ 46 ∷ s) ≡ None
zero_stop s =
    let f : find_of (48 ∷ 46 ∷ s) 46 ≡ 1 = found_behind (48 ∷ []) s 0 46 refl zero_number in
    none_if _ (λ n e. let g : find_of (48 ∷ 46 ∷ s) 46 ≡ length (48 ∷ 46 ∷ s) = not_found (48 ∷ 46 ∷ s) n 46 refl e in omega (arith, f, g))

zero_first : (d : Option ℕ) → contents_from (option_map (λ r. (0, r)) d) None ≡ low_alone d
zero_first (Some n) = refl
zero_first None = refl

zero_opened : (s : List ℕ) → contents_of (48 ∷ 46 ∷ s) ≡ low_alone (number_of s)
unfolding contents_of
zero_opened s = rw (sides_behind (48 ∷ []) s 0 46 refl zero_number, zero_stop s) (zero_first (number_of s))

-- and LOW is what it means
pub zero_high : (s : List ℕ) → find_of s 46 ≡ length s → contents_of (48 ∷ 46 ∷ s) ≡ contents_of s
zero_high s e = zero_opened s ∙ sym (alone s e)

-- NOTHING ELSE IS READ

from_only : (p : Option (ℕ × ℕ)) (d : Option ℕ) (c : Contents) → contents_from p d ≡ Some c →
    (p ≡ Some (c.high, c.low)) ⊎ ((c.high ≡ 0) × (d ≡ Some c.low))
from_only (Some p) d c e = let q = ap (λ o. unwrap_or o c) e in inl (λ i. Some ((q i).high, (q i).low))
from_only None (Some n) c e = let q = ap (λ o. unwrap_or o c) e in inr (ap (λ x. x.high) (sym q), ap (λ x. Some x.low) q)
from_only None None c e = absurd (false≢true (ap is_read e))

-- contents that are read are the numbers on the two sides of the first full stop, or a number alone, with high 0
pub contents_only : (s : List ℕ) (c : Contents) → contents_of s ≡ Some c →
    (sides_of s 46 ≡ Some (c.high, c.low)) ⊎ ((c.high ≡ 0) × (number_of s ≡ Some c.low))
unfolding contents_of
contents_only s c e = from_only (sides_of s 46) (number_of s) c e

-- WHERE CONTENTS STAND

-- a node has the contents in front of its colon, whole, and the list behind it
pub node_read : (w : List ℕ) (c : Contents) (l : Succs) → (find_of w 58 ≡ length w → ⊥) → contents_of (take (find_of w 58) w) ≡ Some c →
    list_of (drop (find_of w 58 + 1) w) ≡ Some l →
    node_of w ≡ Some (record { contents = c; succs = l })
unfolding node_of
node_read w c l h e f = rw (cut_found w 58 h, e, f)

-- and a format line those behind its key
pub format_read : (r : List ℕ) (d : ℕ) (c : Contents) (k : ℕ) → both_of r keys.Format device_bytes contents_bytes ≡ true →
    number_word r device_bytes ≡ Some d →
    contents_of (drop 9 (word_of r contents_bytes)) ≡ Some c → rule_word r ≡ Some k →
    format_of r ≡ Some (line.Format d c k)
unfolding format_of
format_read r d c k h e f g = rw (h, e, f, g)

-- THE RULE OF A FORMAT LINE

-- the number behind its key
pub rule_read : (r : List ℕ) (k : ℕ) → (length (word_of r rule_bytes) ≡ 0 → ⊥) → number_of (drop 5 (word_of r rule_bytes)) ≡ Some k →
    rule_word r ≡ Some k
unfolding rule_word number_word
rule_read r k h e = rw (ne_eqb _ _ h, e)

-- without the word it is 1
pub rule_absent : (r : List ℕ) → length (word_of r rule_bytes) ≡ 0 → rule_word r ≡ Some 1
unfolding rule_word
rule_absent r h = rw (h)

-- A SCRIPT OF BEFORE, WHERE CONTENTS WERE ONE NUMBER

-- a format line whose word had a number has the contents that it is carried to; it had no rule, and means rule 1
pub format_carried : (r : List ℕ) (d n : ℕ) → both_of r keys.Format device_bytes contents_bytes ≡ true →
    number_word r device_bytes ≡ Some d → number_word r contents_bytes ≡ Some n →
    length (word_of r rule_bytes) ≡ 0 →
    format_of r ≡ Some (line.Format d (carried_contents n) 1)
unfolding number_word both_of
format_carried r d n h e f a =
    let t : eqb (length (word_of r contents_bytes)) 0 ≡ false = (not_true_iff _).0
    (and_right (fit_of r keys.Format && not (eqb (length (word_of r device_bytes)) 0)) _ h) in
    format_read r d (carried_contents n) 1 h e (number_carried (drop 9 (word_of r contents_bytes)) n (rw t at f)) (rule_absent r a)

-- a node that was written with a number is the older node carried over
pub node_carried : (w : List ℕ) (n : ℕ) (l : Succs) → (find_of w 58 ≡ length w → ⊥) → number_of (take (find_of w 58) w) ≡ Some n →
    list_of (drop (find_of w 58 + 1) w) ≡ Some l →
    node_of w ≡ Some (carried (record { contents = n; succs = l }))
unfolding carried
node_carried w n l h e f = node_read w (carried_contents n) l h (number_carried (take (find_of w 58) w) n e) f
