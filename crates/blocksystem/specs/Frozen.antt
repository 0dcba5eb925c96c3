-- How long a frozen place is named under freeze rule 2 (document 02, Q-8).
use Rattle.std.specs.Prelude.{ℕ, Bool, ◌&&◌, ◌||◌, false, true, List, ◌++◌, ◌≡◌}
use Rattle.blockcache.specs.Steps.{is_clean_up, is_start}
use Rattle.blocksystem.specs.Run.{Every, JoinedCall, State, accepts_step, after, choose, operations, step}

module _ (d : ℕ) where
  -- an accepted clean-up or start: after either no place is named as frozen
  abbrev pub ends_frozen : State → JoinedCall → Bool
  ends_frozen s (step n q o) = accepts_step d s n q o && (is_clean_up n || is_start n)
  ends_frozen s choose = false
  ends_frozen s (operations q l) = false

  -- the list cut in two anywhere: what is named as frozen after the first part is so, with its picture, after the second, if no clean-up and no start was
  -- accepted in it
  abbrev pub FrozenStays : State → List JoinedCall → Type 0
  FrozenStays s calls =
      (front back : List JoinedCall) → calls ≡ front ++ back → (after d s front).pictures.second.present ≡ true →
      Every d (λ t k. ends_frozen t k ≡ false) (after d s front) back →
      (after d s calls).pictures.second ≡ (after d s front).pictures.second
