-- What a place is: its kind is the one whose predicate holds, and none where no predicate does. For any good row. Assumes nothing.
use mathlib.Core.Path.{◌≡◌, refl, sym, ap, ◌∙◌}
use mathlib.Core.Bool.{Bool, true, false, false≢true, ◌&&◌, ◌||◌, not, cond}
use mathlib.Core.List.{List, [], ◌∷◌}
use mathlib.Core.Logic.{◌⊎◌, ◌↔◌}
use Prim.Native.Nat.{ℕ, zero, suc, ◌<◌, ◌≤◌}
use native.Mathlib.Omega.{arith}
use lib.Dec.{eqb}
use lib.ListN.{get_or}
use borrow.Author.Tests.{eq-eqb, eqb-true, eqb-false, ne_eqb}
use Rattle.base.proofs.Tests.{and_iff, not_true_iff, or_cases, bool_ext, split}
use Rattle.std.specs.Prelude.{Option, Some, None, Result}
use Rattle.std.specs.Result.{result_unwrap_or}
use Rattle.disklayout.specs.declared.Device.{Device}
use Rattle.disklayout.specs.declared.Kind.{Kind}
use Rattle.disklayout.specs.declared.Kind.TheVariants.{Superblock1, Superblock2, Journal, Table, Node}
use Rattle.disklayout.specs.declared.Location.{Location}
use Rattle.disklayout.specs.declared.Refused.{Refused}
use Rattle.disklayout.specs.Blocks.{first_node_addr}
use Rattle.disklayout.specs.Calls.{answered, holds_on}
use Rattle.disklayout.specs.Device.{Good, made, device_of}
use Rattle.disklayout.specs.Kinds.{kind_of, kind_at_node, kind_number, validities, none_holds, kth_holds}
use Rattle.disklayout.specs.Layout.{journal_start_addr, superblock1_location, superblock2_location}
use Rattle.disklayout.specs.Layout.{valid_superblock_location, valid_location, same_loc, overlap, valid_superblock1_location}
use Rattle.disklayout.specs.Layout.{valid_superblock2_location, valid_journal_location, valid_indirection_table_location, valid_node_addr}
use Rattle.disklayout.specs.Layout.{valid_node_location}
use Rattle.disklayout.proofs.Devices.{device_good}
use Rattle.disklayout.proofs.Facts.{refuted, node_addr_iff, superblock1_iff, superblock2_iff}
use Rattle.disklayout.proofs.Zones.{valid_as, zones_apart, zones_exclude, below_journal, past_first, past_superblocks, before_nodes}

-- of a list in which none holds, no one does
none_at : (bs : List Bool) (k : ℕ) → none_holds bs ≡ true → get_or bs k false ≡ false
none_at [] k e = refl
none_at (b ∷ bs) zero e = (not_true_iff b).0 ((and_iff (not b) (none_holds bs)).0 e).0
none_at (b ∷ bs) (suc k) e = none_at bs k ((and_iff (not b) (none_holds bs)).0 e).1

-- where at most one of a list holds, one number is right
kth_one : (bs : List Bool) → ((i j : ℕ) → get_or bs i false ≡ true → get_or bs j false ≡ true → i ≡ j) →
    (m n : ℕ) → kth_holds bs m ≡ true → kth_holds bs n ≡ true → m ≡ n
kth_one bs one zero zero p q = refl
kth_one bs one zero (suc n) p q = absurd (false≢true (sym (none_at bs n p) ∙ q))
kth_one bs one (suc m) zero p q = absurd (false≢true (sym (none_at bs m q) ∙ p))
kth_one bs one (suc m) (suc n) p q = ap suc (one m n p q)

-- the first of five that holds has its number
first_holds : (a b c d e : Bool) →
    kth_holds (a ∷ b ∷ c ∷ d ∷ e ∷ [])
    (kind_number (cond a (Some Superblock1) (cond b (Some Superblock2) (cond c (Some Journal) (cond d (Some Table) (cond e (Some Node) None)))))) ≡ true
unfolding kind_number
first_holds true b c d e = refl
first_holds false true c d e = refl
first_holds false false true d e = refl
first_holds false false false true e = refl
first_holds false false false false true = refl
first_holds false false false false false = refl

module _ (w : Device) (g : Good w) (l : Location) where
  -- THE KIND OF A PLACE IS NUMBER k EXACTLY WHEN THE k-TH OF UPSTREAM'S FIVE PREDICATES HOLDS OF IT, 0 EXACTLY WHEN NONE DOES
  pub kind_iff : (k : ℕ) → (kind_number (kind_of w l) ≡ k) ↔ (kth_holds (validities w l) k ≡ true)
  unfolding kind_of
  kind_iff k =
      ((λ e. rw (← e) first), (λ h. kth_one (validities w l) (λ i j. zones_exclude w g i j l) (kind_number (kind_of w l)) k first h))
    where
      first : kth_holds (validities w l) (kind_number (kind_of w l)) ≡ true
      first =
          first_holds (valid_superblock1_location l) (valid_superblock2_location l) (valid_journal_location w l)
          (valid_indirection_table_location w l) (valid_node_location w l)

  -- the same as an equation of two tests
  pub kind_test : (k : ℕ) → eqb (kind_number (kind_of w l)) k ≡ kth_holds (validities w l) k
  kind_test k =
      bool_ext _ _ (λ e. (kind_iff k).0 (eqb-true (kind_number (kind_of w l)) k e))
      (λ h. eq-eqb (kind_number (kind_of w l)) k ((kind_iff k).1 h))

  -- so a place of one kind is of no other
  pub kinds_exclude : (j k : ℕ) → eqb j k ≡ false → kth_holds (validities w l) j ≡ true → kth_holds (validities w l) k ≡ false
  kinds_exclude j k e p = refuted (λ q. eqb-false j k e (sym ((kind_iff j).1 p) ∙ (kind_iff k).1 q))

  -- UPSTREAM'S ENSURES

  pub table_not_journal : valid_indirection_table_location w l ≡ true → valid_journal_location w l ≡ false
  table_not_journal = kinds_exclude 4 3 refl

  pub node_not_journal : valid_node_location w l ≡ true → valid_journal_location w l ≡ false
  node_not_journal = kinds_exclude 5 3 refl

  pub node_not_table : valid_node_location w l ≡ true → valid_indirection_table_location w l ≡ false
  node_not_table = kinds_exclude 5 4 refl

  -- what ValidSuperblock1Location and ValidSuperblock2Location ensure
  pub superblock1_not_journal : valid_superblock1_location l ≡ true → valid_journal_location w l ≡ false
  superblock1_not_journal = kinds_exclude 1 3 refl

  pub superblock1_not_table : valid_superblock1_location l ≡ true → valid_indirection_table_location w l ≡ false
  superblock1_not_table = kinds_exclude 1 4 refl

  pub superblock1_not_node : valid_superblock1_location l ≡ true → valid_node_location w l ≡ false
  superblock1_not_node = kinds_exclude 1 5 refl

  pub superblock2_not_journal : valid_superblock2_location l ≡ true → valid_journal_location w l ≡ false
  superblock2_not_journal = kinds_exclude 2 3 refl

  pub superblock2_not_table : valid_superblock2_location l ≡ true → valid_indirection_table_location w l ≡ false
  superblock2_not_table = kinds_exclude 2 4 refl

  pub superblock2_not_node : valid_superblock2_location l ≡ true → valid_node_location w l ≡ false
  superblock2_not_node = kinds_exclude 2 5 refl

module _ (w : Device) (g : Good w) where
  -- what Superblock1Location and Superblock2Location ensure of themselves
  pub superblock1_only : (k : ℕ) → eqb 1 k ≡ false → kth_holds (validities w superblock1_location) k ≡ false
  superblock1_only k e = kinds_exclude w g superblock1_location 1 k e ((superblock1_iff superblock1_location).1 refl)

  pub superblock1_no_node : valid_node_location w superblock1_location ≡ false
  superblock1_no_node = superblock1_only 5 refl

  pub superblock1_no_table : valid_indirection_table_location w superblock1_location ≡ false
  superblock1_no_table = superblock1_only 4 refl

  pub superblock1_no_journal : valid_journal_location w superblock1_location ≡ false
  superblock1_no_journal = superblock1_only 3 refl

  pub superblock2_only : (k : ℕ) → eqb 2 k ≡ false → kth_holds (validities w superblock2_location) k ≡ false
  superblock2_only k e = kinds_exclude w g superblock2_location 2 k e ((superblock2_iff superblock2_location).1 refl)

  pub superblock2_no_node : valid_node_location w superblock2_location ≡ false
  superblock2_no_node = superblock2_only 5 refl

  pub superblock2_no_table : valid_indirection_table_location w superblock2_location ≡ false
  superblock2_no_table = superblock2_only 4 refl

  pub superblock2_no_journal : valid_journal_location w superblock2_location ≡ false
  superblock2_no_journal = superblock2_only 3 refl

  -- upstream's two predicates over several kinds: of any, and of one superblock or the other
  pub valid_iff_kind : (l : Location) → not (eqb (kind_number (kind_of w l)) 0) ≡ valid_location w l
  unfolding valid_location
  valid_iff_kind l =
      rw (kind_test w g l 0) (some_of (valid_superblock1_location l) (valid_superblock2_location l) (valid_journal_location w l)
      (valid_indirection_table_location w l) (valid_node_location w l))
    where
      some_of : (a b c d e : Bool) → not (none_holds (a ∷ b ∷ c ∷ d ∷ e ∷ [])) ≡ (a || b || c || d || e)
      some_of true b c d e = refl
      some_of false true c d e = refl
      some_of false false true d e = refl
      some_of false false false true e = refl
      some_of false false false false true = refl
      some_of false false false false false = refl

  pub superblock_kinds : (l : Location) →
      (eqb (kind_number (kind_of w l)) 1 || eqb (kind_number (kind_of w l)) 2) ≡ valid_superblock_location l
  unfolding valid_superblock_location valid_superblock1_location valid_superblock2_location
  superblock_kinds l = rw (kind_test w g l 1, kind_test w g l 2)

  -- places of two kinds do not overlap
  pub kinds_apart : (l m : Location) (j k : ℕ) → kind_number (kind_of w l) ≡ suc j → kind_number (kind_of w m) ≡ suc k → eqb j k ≡ false →
      overlap l m ≡ false
  kinds_apart l m j k p q e = zones_apart w g j k e l m ((kind_iff w g l (suc j)).0 p) ((kind_iff w g m (suc k)).0 q)

  -- THE CODE'S BRANCHES: by its address a place can be of some kinds only

  module _ (l : Location) where
    pub kind_low : l.addr < journal_start_addr →
        kind_of w l ≡ cond (valid_superblock1_location l) (Some Superblock1) (cond (valid_superblock2_location l) (Some Superblock2) None)
    unfolding kind_of
    kind_low h = rw (below_journal w g l h 2 (omega arith), below_journal w g l h 3 (omega arith), below_journal w g l h 4 (omega arith))

    pub kind_high : first_node_addr w ≤ l.addr → kind_of w l ≡ cond (valid_node_location w l) (Some Node) None
    unfolding kind_of
    kind_high h =
        rw (
          past_first w g l h 0 (omega arith),
          past_first w g l h 1 (omega arith),
          past_first w g l h 2 (omega arith),
          past_first w g l h 3 (omega arith),
        )

    -- at a node address the length decides
    pub kind_at_node_lem : valid_node_addr w l.addr ≡ true → kind_of w l ≡ kind_at_node w l.len
    unfolding valid_node_location
    kind_at_node_lem v = rw (kind_high ((node_addr_iff w l.addr).0 v).high, v)

    pub kind_between : journal_start_addr ≤ l.addr → l.addr < first_node_addr w →
        kind_of w l ≡ cond (valid_journal_location w l) (Some Journal) (cond (valid_indirection_table_location w l) (Some Table) None)
    unfolding kind_of
    kind_between h k = rw (past_superblocks w g l h 0 (omega arith), past_superblocks w g l h 1 (omega arith), before_nodes w l k)

-- what ValidSuperblockLocation ensures
pub superblock_cases : (l : Location) → valid_superblock_location l ≡ true →
    (valid_superblock1_location l ≡ true) ⊎ (valid_superblock2_location l ≡ true)
unfolding valid_superblock_location valid_superblock1_location valid_superblock2_location
superblock_cases l e = or_cases (same_loc l superblock1_location) (same_loc l superblock2_location) e

-- ON A DEVICE: the answer is the kind of the k-th predicate exactly where the device is made and the predicate holds
pub kind_told : (d : ℕ) (l : Location) (k : ℕ) {p : Result (Option Kind) Refused} {b : Bool} → p ≡ answered d (kind_of (device_of d) l) →
    b ≡ eqb (kind_number (result_unwrap_or p None)) (suc k) →
    b ≡ (made d && valid_as k (device_of d) l)
unfolding kind_number
kind_told d l k e f =
    rw (f, e) (split (made d) (λ t. rw t (kind_test (device_of d) (device_good d) l (suc k)))
    (λ t. rw t (ne_eqb 0 (suc k) (λ (z : 0 ≡ suc k). omega arith))))

-- so whoever asked one of the five questions asks for the kind
pub table_told : (d : ℕ) (l : Location) {p : Result (Option Kind) Refused} {b : Bool} → p ≡ answered d (kind_of (device_of d) l) →
    b ≡ eqb (kind_number (result_unwrap_or p None)) 4 →
    b ≡ holds_on d (valid_indirection_table_location (device_of d) l)
table_told d l e f = kind_told d l 3 e f

pub node_told : (d : ℕ) (l : Location) {p : Result (Option Kind) Refused} {b : Bool} → p ≡ answered d (kind_of (device_of d) l) →
    b ≡ eqb (kind_number (result_unwrap_or p None)) 5 →
    b ≡ holds_on d (valid_node_location (device_of d) l)
node_told d l e f = kind_told d l 4 e f
