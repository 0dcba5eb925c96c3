-- Two names are enough. Document 01 sets no number of named places; the store's pictures have two names, and step 4 sets the second. What
-- is said here is that it never sets it over one that is present, nor at the first name's place: so two places are named at the most, and
-- the two names hold them all.
use Rattle.std.specs.Prelude.{ℕ, false, List, ◌++◌, ◌∷◌, ◌≡◌}
use Rattle.blockcache.specs.Ops.{vop_loc}
use Rattle.blockcache.specs.declared.Call.{Call}
use Rattle.blockdisk.specs.declared.Records.{Records}
use Rattle.blocksystem.specs.Run.{JoinedCall, State, after, asked, step}

-- an accepted step 4 in the state s, with V's location
pub record NewName (s : State) (q : Call) : Type 0 where
  pub none_second : s.pictures.second.present ≡ false
  pub not_first : vop_loc q.vop ≡ s.pictures.first.place → ⊥

-- wherever a list is cut before an accepted step 4
abbrev pub TwoNames : ℕ → State → List JoinedCall → Type 0
TwoNames d s calls =
    (front back : List JoinedCall) (q : Call) (o : Records) → calls ≡ front ++ (step 4 q o ∷ back) →
    (asked d (after d s front) 4 q o).answer ≡ 0 → NewName (after d s front) q
