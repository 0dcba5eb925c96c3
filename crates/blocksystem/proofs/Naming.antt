-- What it is that a place is named, and that nothing is lost: both are said of each name that is present, of the first and of the second
-- alike. Assumes nothing.
use Prim.Native.Nat.{ℕ}
use mathlib.Core.Bool.{true}
use mathlib.Core.Logic.{◌↔◌, ◌⊎◌, inl, inr, ⊎_elim}
use mathlib.Core.Path.{◌≡◌, ap, refl, subst}
use Rattle.base.proofs.Tests.{and_both, and_iff, or_cases, or_inl, or_inr}
use Rattle.disklayout.proofs.Facts.{same_loc_iff}
use Rattle.disklayout.specs.Layout.{same_loc}
use Rattle.disklayout.specs.declared.Location.{Location}
use Rattle.blocksystem.specs.Audit.{counted, none_counted}
use Rattle.blocksystem.specs.Names.{is_named, names}
use Rattle.blocksystem.specs.Run.{State, NothingLost}
use Rattle.blocksystem.specs.declared.Counts.{Counts}
use Rattle.blocksystem.specs.declared.Named.{Named}
use Rattle.blocksystem.specs.declared.Pictures.{Pictures}

-- m is one of the two names
abbrev pub NameIn : Pictures → Named → Type 0
NameIn t m = (m ≡ t.first) ⊎ (m ≡ t.second)

-- A PLACE IS NAMED

pub names_iff : (m : Named) (l : Location) → (names m l ≡ true) ↔ ((m.present ≡ true) × (m.place ≡ l))
names_iff m l = (
  (λ h. let e = (and_iff m.present (same_loc m.place l)).0 h in (e.0, (same_loc_iff m.place l).0 e.1)),
  (λ (p, e). and_both p ((same_loc_iff m.place l).1 e)),
)

-- exactly when it is the place of a present name
pub is_named_iff : (t : Pictures) (l : Location) → (is_named t l ≡ true) ↔ ((m : Named) × NameIn t m × (m.present ≡ true) × (m.place ≡ l))
is_named_iff t l =
    let from : ((m : Named) → NameIn t m → names m l ≡ true → is_named t l ≡ true) =
    λ m which a.
    ⊎_elim
    (λ i. or_inl (names t.second l) (subst (λ x. names x l ≡ true) i a))
    (λ i. or_inr (names t.first l) (subst (λ x. names x l ≡ true) i a))
    which in (
      (λ h. ⊎_elim
          (λ a. let e = (names_iff t.first l).0 a in (t.first, inl refl, e.0, e.1))
          (λ a. let e = (names_iff t.second l).0 a in (t.second, inr refl, e.0, e.1))
          (or_cases (names t.first l) (names t.second l) h)),
      (λ (m, which, p, e). from m which ((names_iff m l).1 (p, e))),
    )

-- NOTHING IS LOST

-- the three counts of a name are 0
pub record NoneOf (c : Counts) : Type 0 where
  pub lost : c.lost ≡ 0
  pub added : c.added ≡ 0
  pub altered : c.altered ≡ 0

pub none_of_iff : (c : Counts) → (c ≡ none_counted) ↔ NoneOf c
none_of_iff c = (
  (λ e. record { lost = ap (λ x. x.lost) e; added = ap (λ x. x.added) e; altered = ap (λ x. x.altered) e }),
  (λ n. λ i. record { lost = n.lost i; added = n.added i; altered = n.altered i }),
)

-- exactly when each present name's three counts are 0
pub nothing_lost_iff : (d : ℕ) (s : State) → NothingLost d s ↔ ((m : Named) → NameIn s.pictures m → m.present ≡ true →
    NoneOf (counted d s.disk.records m))
nothing_lost_iff d s =
    let first = s.pictures.first in
    let second = s.pictures.second in
    let zeros : ((m : Named) → (counted d s.disk.records m ≡ none_counted) ↔ NoneOf (counted d s.disk.records m)) =
    λ m. none_of_iff (counted d s.disk.records m) in (
      (λ h m which p. ⊎_elim (λ i. rw i ((zeros first).0 (h.0 (rw i at p)))) (λ i. rw i ((zeros second).0 (h.1 (rw i at p)))) which),
      (λ h. ((λ p. (zeros first).1 (h first (inl refl) p)), (λ p. (zeros second).1 (h second (inr refl) p)))),
    )
