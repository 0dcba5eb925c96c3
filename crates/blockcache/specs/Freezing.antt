-- The two freeze rules compared (document 02, Q-8): what the laws of 25 are said in.
use Rattle.std.specs.Prelude.{ℕ, Bool, cond, ◌≡◌, eqb}
use Rattle.std.proofs.Math.Option.{some}
use Rattle.blockcache.specs.NextStep.{OnReady}
use Rattle.blockcache.specs.Upstream.{Variables}
use Rattle.blockcache.specs.declared.Settings.{Settings}
use Rattle.disklayout.specs.declared.Location.{Location}

-- the same settings under a rule
abbrev pub with_rule : Settings → ℕ → Settings
with_rule g r = record { device = g.device; rule = r }

-- what Freeze answers under rule 2, by its answer under rule 1: 25 where that is 0 and a frozen place is set
abbrev pub freeze_answer : Bool → ℕ → ℕ
freeze_answer set a = cond (eqb a 0) (cond set 25 0) a

-- s.frozen_indirection_table_loc.Some?
abbrev pub FrozenPlaceSet : Variables → Type 0
FrozenPlaceSet s = OnReady s (λ x. (l : Location) × (x.frozen_indirection_table_loc ≡ some l))
