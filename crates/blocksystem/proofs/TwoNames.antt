-- From the invariant, which any list keeps in which each accepted start is given a place then named: an accepted step 4 finds no second
-- name present, and its place is not the first's. So every name that is present before it is so after it, and none of them has its place.
use Prim.Native.Nat.{ℕ}
use mathlib.Core.Bool.{true}
use mathlib.Core.List.{List, [], ◌++◌, ◌∷◌}
use mathlib.Core.Logic.{inl, ⊎_elim}
use mathlib.Core.Path.{◌∙◌, ◌≡◌, ap, refl, subst, sym}
use borrow.Author.Tests.{eq-eqb}
use Rattle.base.proofs.Tests.{clash, split}
use Rattle.blockcache.specs.Ops.{vop_loc}
use Rattle.blockcache.specs.Steps.{step_of, steps}
use Rattle.blockcache.specs.declared.Call.{Call}
use Rattle.blockdisk.specs.declared.Records.{Records}
use Rattle.blocksystem.proofs.After.{starts_cut}
use Rattle.blocksystem.proofs.Frozen.{not_4}
use Rattle.blocksystem.proofs.Invariant.{Invariant}
use Rattle.blocksystem.proofs.Keep.{first_keeps, run_keeps}
use Rattle.blocksystem.proofs.Naming.{NameIn}
use Rattle.blocksystem.specs.Joined.{joined}
use Rattle.blocksystem.specs.Names.{naming, pictures_after}
use Rattle.blocksystem.specs.Run.{JoinedCall, State, after, after_step, asked, starts_named, step}
use Rattle.blocksystem.specs.TwoNames.{NewName, TwoNames}
use Rattle.blocksystem.specs.declared.Named.{Named}

-- AN ACCEPTED STEP 4

-- the names after it: the first as it was, the second at V's location
pub names_after_4 : (d : ℕ) (s : State) (q : Call) (o : Records) → (asked d s 4 q o).answer ≡ 0 →
    ((after_step d s 4 q o).pictures.first ≡ s.pictures.first)
    × ((after_step d s 4 q o).pictures.second ≡ naming (vop_loc q.vop) s.pictures.frozen)
unfolding pictures_after step_of steps
names_after_4 d s q o e = rw (eq-eqb _ _ e) (refl, refl)

new_name : (d : ℕ) (s : State) (ks : List JoinedCall) (q : Call) (o : Records) → Invariant d s →
    starts_named d s (step 4 q o ∷ ks) ≡ true → (asked d s 4 q o).answer ≡ 0 → NewName s q
unfolding joined
new_name d s ks q o v n e =
    let after_4 = (first_keeps d s (step 4 q o) ks v n).0 in
    let (same, new) = names_after_4 d s q o e in
    record {
      none_second = split s.pictures.second.present (λ there. absurd (not_4 d s v there q o e)) (λ t. t);
      not_first = λ p. after_4.whole.apart (vop_loc q.vop) (rw new refl) (ap (λ l. l.addr) (p ∙ sym (ap (λ m. m.place) same)));
    }

-- ALONG A LIST

pub two_names : (d : ℕ) (calls : List JoinedCall) (s : State) → Invariant d s → starts_named d s calls ≡ true → TwoNames d s calls
two_names d calls s v n front back q o e a =
    let cut = starts_cut d front (step 4 q o ∷ back) s (subst (λ l. starts_named d s l ≡ true) e n) in
    new_name d (after d s front) back q o (run_keeps d front s v cut.0) cut.1 a

-- so step 4 overwrites no name: each that is present stays, and none of them has the new one's place
pub none_overwritten : (d : ℕ) (s : State) (front : List JoinedCall) (q : Call) (o : Records) →
    TwoNames d s (front ++ (step 4 q o ∷ [])) → (asked d (after d s front) 4 q o).answer ≡ 0 →
    (m : Named) → NameIn (after d s front).pictures m → m.present ≡ true →
    NameIn (after_step d (after d s front) 4 q o).pictures m × (m.place ≡ vop_loc q.vop → ⊥)
none_overwritten d s front q o two e m which there =
    let h = two front [] q o refl e in
    let same = (names_after_4 d (after d s front) q o e).0 in
    ⊎_elim
    (λ (i : m ≡ (after d s front).pictures.first). (inl (i ∙ sym same), (λ p. h.not_first (sym p ∙ ap (λ x. x.place) i))))
    (λ (i : m ≡ (after d s front).pictures.second). clash (sym (ap (λ x. x.present) i) ∙ there) h.none_second) which
