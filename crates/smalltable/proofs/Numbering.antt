-- Document 02, Q-13: the small tables by number. There are 546, each once, in 02's order. Assumes nothing.
use Prim.Native.Nat.{◌<◌, ◌≤◌, ℕ}
use mathlib.Core.Bool.{true}
use mathlib.Core.Logic.{◌↔◌}
use mathlib.Core.Path.{◌∙◌, ◌≡◌, ap, sym}
use native.Mathlib.Omega.{arith}
use borrow.Author.Tests.{le-leb, leb-true, lt-ltb, ltb-true}
use lib.Dec.{leb, ltb}
use Rattle.std.specs.Prelude.{Err, Ok, Result}
use Rattle.std.specs.Result.{result_unwrap_or}
use Rattle.disklayout.specs.Calls.{answer_number}
use Rattle.disklayout.specs.declared.Refused.{Refused}
use Rattle.disklayout.specs.declared.Refused.TheVariants.{Undefined}
use Rattle.base.proofs.Tests.{and_both, and_iff, split}
use Rattle.disklayout.specs.Device.{made}
use Rattle.sectortype.specs.Form.{empty_table}
use Rattle.sectortype.specs.declared.Table.{Table}
use Rattle.smalltable.proofs.Numbers.{number_sets, number_of, sets_in_order_lem, sets_number}
use Rattle.smalltable.proofs.Tables.{read_good, read_small, sets_back, sets_small, table_back}
use Rattle.smalltable.specs.Numbering.{NumberedOnce}
use Rattle.smalltable.specs.Numbers.{small_sets, small_tables}
use Rattle.smalltable.specs.Order.{Before, sets_in_order, sets_of}
use Rattle.smalltable.specs.SmallTable.{SmallTable}
use Rattle.smalltable.specs.Tables.{is_numbered, numbered_table, small_table, table_of}

-- 0 exactly for the devices 0 to 2 and the numbers 0 to 545
pub answered_iff : (d n : ℕ) → (answer_number (small_table d n) ≡ 0) ↔ ((d ≤ 2) × (n ≤ 545))
unfolding small_table
answered_iff d n = (
  (λ e. split (is_numbered d n)
      (λ t. let h = (and_iff (leb d 2) (ltb n small_tables)).0 t in (leb-true d 2 h.0, omega (arith, ltb-true n small_tables h.1)))
      (λ t. absurd (let z : 1 ≡ 0 = rw t at e in omega arith))),
  (λ (a, b). rw (and_both (le-leb d 2 a) (lt-ltb n small_tables (omega arith)))),
)

-- else 1, and zeros for whoever takes them
pub refused : (d n : ℕ) → (answer_number (small_table d n) ≡ 0 → ⊥) → (small_table d n ≡ Err Undefined) × (numbered_table d n ≡ empty_table)
unfolding small_table
refused d n ne = split (is_numbered d n) (λ t. absurd (ne (rw t))) (λ t. (rw t, rw t))

module _ (d : ℕ) (on : made d ≡ true) where
  answered : (n : ℕ) → n < small_tables → small_table d n ≡ Ok (table_of d (small_sets n))
  unfolding small_table
  answered n h = rw (on, lt-ltb n small_tables h)

  table_is : (n : ℕ) → n < small_tables → (numbered_table d n) ≡ table_of d (small_sets n)
  table_is n h = ap (λ (r : Result Table Refused). result_unwrap_or r empty_table) (answered n h)

  sets_are : (n : ℕ) → n < small_tables → sets_of (numbered_table d n) ≡ small_sets n
  sets_are n h = let k = number_sets n h in ap sets_of (table_is n h) ∙ sets_back d (small_sets n) k.small k.good

  -- each number's table is a small one, in its written form
  pub number_small : (n : ℕ) → n < small_tables → SmallTable d (numbered_table d n)
  number_small n h = let k = number_sets n h in rw (table_is n h) (sets_small d (small_sets n) k.small k.good)

  -- and the number is found again from the table
  number_back : (n : ℕ) → n < small_tables → number_of (sets_of (numbered_table d n)) ≡ n
  number_back n h = ap number_of (sets_are n h) ∙ (number_sets n h).back

  -- each small table has one number, and no other: so there are 546
  pub small_numbered : (t : Table) → SmallTable d t → NumberedOnce d t
  small_numbered t m =
      let k = sets_number (sets_of t) (read_small d t m) (read_good d t m) in
      record {
        number = number_of (sets_of t);
        below = k.0;
        its = answered (number_of (sets_of t)) k.0 ∙ ap {B = Result Table Refused} Ok (ap (table_of d) k.1 ∙ table_back d t m);
        only = λ n h e. sym (number_back n h) ∙ ap (λ x. number_of (sets_of x)) e;
      }

  -- the numbers are in the order of the tables: by the allocated set, then by the lists of 0, 1 and 2
  pub in_order : (m n : ℕ) → m < small_tables → n < small_tables →
      (m < n) ↔ Before (sets_in_order (sets_of (numbered_table d m))) (sets_in_order (sets_of (numbered_table d n)))
  in_order m n g h = rw (sets_are m g, sets_are n h) (sets_in_order_lem m n g h)
