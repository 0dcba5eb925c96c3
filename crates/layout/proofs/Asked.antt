-- A kind compared with one that is asked for: whether the kind's predicate holds. Assumes nothing.
use mathlib.Core.Path.{◌≡◌, refl, ◌∙◌}
use mathlib.Core.Bool.{Bool, ◌||◌, not}
use lib.Dec.{eqb}
use Rattle.std.specs.Prelude.{Option, Some, None, is_some}
use Rattle.std.specs.Option.{option_eq}
use Rattle.disklayout.specs.contracts.KindPartialEq.TheImpl.{eq-value}
use Rattle.disklayout.specs.declared.Device.{Device}
use Rattle.disklayout.specs.declared.Kind.{Kind}
use Rattle.disklayout.specs.declared.Kind.TheVariants.{Superblock1, Superblock2, Journal, Table, Node}
use Rattle.disklayout.specs.declared.Location.{Location}
use Rattle.disklayout.specs.Device.{Good}
use Rattle.disklayout.specs.Kinds.{kind_of, kind_number, kind_holds}
use Rattle.disklayout.specs.Layout.{valid_location, valid_superblock_location}
use Rattle.disklayout.proofs.PlaceKinds.{kind_test, superblock_kinds, valid_iff_kind}

kind_eq : Option Kind → Kind → Bool
kind_eq o k = option_eq eq-value.it o (Some k)

by_number : (o : Option Kind) (k : Kind) → kind_eq o k ≡ eqb (kind_number o) (kind_number (Some k))
unfolding kind_number kind_eq
by_number None Superblock1 = refl
by_number None Superblock2 = refl
by_number None Journal = refl
by_number None Table = refl
by_number None Node = refl
by_number (Some Superblock1) Superblock1 = refl
by_number (Some Superblock1) Superblock2 = refl
by_number (Some Superblock1) Journal = refl
by_number (Some Superblock1) Table = refl
by_number (Some Superblock1) Node = refl
by_number (Some Superblock2) Superblock1 = refl
by_number (Some Superblock2) Superblock2 = refl
by_number (Some Superblock2) Journal = refl
by_number (Some Superblock2) Table = refl
by_number (Some Superblock2) Node = refl
by_number (Some Journal) Superblock1 = refl
by_number (Some Journal) Superblock2 = refl
by_number (Some Journal) Journal = refl
by_number (Some Journal) Table = refl
by_number (Some Journal) Node = refl
by_number (Some Table) Superblock1 = refl
by_number (Some Table) Superblock2 = refl
by_number (Some Table) Journal = refl
by_number (Some Table) Table = refl
by_number (Some Table) Node = refl
by_number (Some Node) Superblock1 = refl
by_number (Some Node) Superblock2 = refl
by_number (Some Node) Journal = refl
by_number (Some Node) Table = refl
by_number (Some Node) Node = refl

pub kind_asked : (w : Device) (g : Good w) (l : Location) (k : Kind) → option_eq eq-value.it (kind_of w l) (Some k) ≡ kind_holds k w l
unfolding kind_eq kind_number kind_holds
kind_asked w g l Superblock1 = by_number (kind_of w l) Superblock1 ∙ kind_test w g l 1
kind_asked w g l Superblock2 = by_number (kind_of w l) Superblock2 ∙ kind_test w g l 2
kind_asked w g l Journal = by_number (kind_of w l) Journal ∙ kind_test w g l 3
kind_asked w g l Table = by_number (kind_of w l) Table ∙ kind_test w g l 4
kind_asked w g l Node = by_number (kind_of w l) Node ∙ kind_test w g l 5

-- of one superblock or the other, and of any kind
pub superblock_asked : (w : Device) (g : Good w) (l : Location) →
    (option_eq eq-value.it (kind_of w l) (Some Superblock1) || option_eq eq-value.it (kind_of w l) (Some Superblock2)) ≡
    valid_superblock_location l
unfolding kind_eq kind_number
superblock_asked w g l =
    rw (by_number (kind_of w l) Superblock1, by_number (kind_of w l) Superblock2) (superblock_kinds w g l)

some_number : (o : Option Kind) → is_some o ≡ not (eqb (kind_number o) 0)
unfolding kind_number
some_number None = refl
some_number (Some Superblock1) = refl
some_number (Some Superblock2) = refl
some_number (Some Journal) = refl
some_number (Some Table) = refl
some_number (Some Node) = refl

pub kind_some : (w : Device) (g : Good w) (l : Location) → is_some (kind_of w l) ≡ valid_location w l
kind_some w g l = some_number (kind_of w l) ∙ valid_iff_kind w g l
