-- A refusal has a number of its own: none has 0, the number of what is accepted. Assumes nothing.
use mathlib.Core.Bool.{false}
use mathlib.Core.Path.{◌≡◌, refl}
use lib.Dec.{eqb}
use Rattle.blockcache.specs.Step.{refusal_number}
use Rattle.blockcache.specs.declared.Refusal.{Refusal}
use Rattle.blockcache.specs.declared.Refusal.TheVariants as refusal

pub refused_not_0 : (e : Refusal) → eqb (refusal_number e) 0 ≡ false
refused_not_0 refusal.Limits = refl
refused_not_0 refusal.Version = refl
refused_not_0 refusal.Disk = refl
refused_not_0 refusal.Phase = refl
refused_not_0 refusal.Id = refl
refused_not_0 refusal.Place = refl
refused_not_0 refusal.Held = refl
refused_not_0 refusal.Reference = refl
refused_not_0 refusal.Contents = refl
refused_not_0 refusal.Outstanding = refl
refused_not_0 refusal.Frozen = refl
refused_not_0 refusal.Named = refl
refused_not_0 refusal.Successor = refl
refused_not_0 refusal.Full = refl
refused_not_0 refusal.NoBlock = refl
refused_not_0 refusal.Awaited = refl
refused_not_0 refusal.TooLong = refl
refused_not_0 refusal.Rule = refl
