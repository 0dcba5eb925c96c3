-- A map keyed by an id as document 01 keeps it: an array of `cap` places with a count n, by ascending key, unused places blank.
-- The element, its key, the blank and the test of an element in use are any: one set of laws serves every queue.
use Rattle.std.specs.Prelude.{Bool, ◌&&◌, ◌||◌, not, List, [], ◌∷◌, ◌++◌, ℕ, ◌-◌, get_or, length, take, ltb, leb, eqb}
use Rattle.std.proofs.Math.Option.{Option}
use Rattle.base.specs.Scan.{all_below, some_below, first_below}
use Rattle.base.specs.Lists.{opened, closed}
use Rattle.base.specs.Maps.{flagged}

module _ {A : Type 0} (key : A → ℕ) (z : A) (cap : ℕ) where
  -- place k is in use and has the key
  abbrev pub key_at : ℕ → List A → ℕ → ℕ → Bool
  key_at n l id k = ltb k n && eqb (key (get_or l k z)) id

  abbrev pub has_in : ℕ → List A → ℕ → Bool
  has_in n l id = some_below (key_at n l id) cap

  -- the place of the key, or cap
  abbrev pub find_in : ℕ → List A → ℕ → ℕ
  find_in n l id = first_below (key_at n l id) cap

  -- where a new key belongs: the first place that is free or has a larger key
  abbrev pub spot_in : ℕ → List A → ℕ → ℕ
  spot_in n l id = first_below (λ k. leb n k || leb id (key (get_or l k z))) cap

  abbrev pub insert_in : ℕ → List A → A → List A
  insert_in n l w = take cap (opened l (spot_in n l (key w)) w)

  abbrev pub remove_in : ℕ → List A → ℕ → List A
  remove_in n l id = closed l (find_in n l id) ++ (z ∷ [])

  -- what the key maps to
  abbrev pub lookup_in : ℕ → List A → ℕ → Option A
  lookup_in n l id = flagged (has_in n l id) (get_or l (find_in n l id) z)

  module _ (ok blank : A → Bool) where
    -- place k of n in use holds w, and the place before it p
    abbrev pub spot_ok : ℕ → ℕ → A → A → Bool
    spot_ok n k p w = (not (ltb k n) && blank w) || (ltb k n && ok w && (eqb k 0 || ltb (key p) (key w)))

    -- the one written form
    abbrev pub queue_form : ℕ → List A → Bool
    queue_form n l = eqb (length l) cap && leb n cap && all_below (λ k. spot_ok n k (get_or l (k - 1) z) (get_or l k z)) cap
