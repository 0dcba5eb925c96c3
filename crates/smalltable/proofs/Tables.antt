-- Good sets and small tables decide each other, on every device: by structure, over the laws of a table's entries. Assumes nothing.
use Prim.Native.Nat.{◌<◌, ◌≤◌, suc, zero, ℕ}
use mathlib.Core.Bool.{Bool, ◌||◌, cond, false, not, true}
use mathlib.Core.Path.{◌∙◌, ◌≡◌, ap, refl, sym}
use native.Mathlib.Omega.{arith}
use borrow.Author.Tests.{eq-eqb, eqb-true, ltb-false, ltb-true, ne_eqb}
use lib.Dec.{eqb, ltb}
use Rattle.base.proofs.Bits.{word_lt, word_of_digits, word_read, word_same}
use Rattle.base.proofs.Scan.{all_at, all_of}
use Rattle.base.proofs.Tests.{and_both, and_iff, clash, not_iff, or_true_iff, split}
use Rattle.base.specs.Bits.{digit_at}
use Rattle.base.specs.Maps.{is_some}
use Rattle.base.specs.Scan.{all_below, some_below}
use Rattle.sectortype.proofs.Equal.{entry_absent}
use Rattle.sectortype.proofs.Forms.{empty_table_form, entry_at_form, entry_succs, entry_with_lem}
use Rattle.sectortype.proofs.Forms.{table_of_entries, with_entry_form, zero_entry_form}
use Rattle.sectortype.proofs.Maps.{empty_graph, in_graph}
use Rattle.sectortype.specs.Form.{empty_table, entry_at, entry_form, table_form, with_entry, zero_entry, zero_succs}
use Rattle.sectortype.specs.Graph.{allocated_in, has_succ}
use Rattle.sectortype.specs.declared.Entry.{Entry}
use Rattle.sectortype.specs.declared.Table.{Table}
use Rattle.smalltable.proofs.Lists.{empty_list, empty_set, list_back, list_of_lem}
use Rattle.smalltable.proofs.Numbers.{Small, good_sets, list_ok, subset_of}
use Rattle.smalltable.specs.Numbers.{list_at}
use Rattle.smalltable.specs.Order.{list_set, set_of, sets_of}
use Rattle.smalltable.specs.SmallTable.{SmallTable}
use Rattle.smalltable.specs.Tables.{entry_in, list_of, small_entry, small_loc, table_of}
use Rattle.smalltable.specs.declared.Sets.{Sets}

-- below 3: 0, 1 or 2
below_three : (P : ℕ → Type 0) → P 0 → P 1 → P 2 → (r : ℕ) → r < 3 → P r
below_three P a b c zero h = a
below_three P a b c (suc zero) h = b
below_three P a b c (suc (suc zero)) h = c
below_three P a b c (suc (suc (suc r))) h = absurd (omega arith)

-- each list of four small sets is one
list_small : (s : Sets) → Small s → (r : ℕ) → r < 3 → list_at s r < 8
list_small s m = below_three (λ r. list_at s r < 8) m.list0 m.list1 m.list2

-- AN ENTRY

abbrev used : ℕ → ℕ → ℕ → Entry
used d l r = record { allocated = true; located = true; loc = small_loc d r; succs = list_of l }

module _ (d : ℕ) (u : Bool) (l r : ℕ) where
  entry_used : u ≡ true → small_entry d u l r ≡ used d l r
  unfolding small_entry
  entry_used t = rw t

  entry_unused : u ≡ false → small_entry d u l r ≡ zero_entry
  unfolding small_entry
  entry_unused t = rw t

  entry_allocated : (small_entry d u l r).allocated ≡ u
  unfolding small_entry
  entry_allocated = split u (λ t. rw t) (λ t. rw t)

  entry_form_lem : l < 8 → entry_form (small_entry d u l r) ≡ true
  entry_form_lem h = split u (λ t. rw (entry_used t, (list_of_lem l h).form)) (λ t. rw (entry_unused t) zero_entry_form)

  entry_list_lem : (u || eqb l 0) ≡ true → (small_entry d u l r).succs ≡ list_of l
  entry_list_lem e =
      split u (λ t. rw (entry_used t))
      (λ t. let z : l ≡ 0 = eqb-true l 0 ((or_true_iff u (eqb l 0)).0 e t) in rw (entry_unused t, z) (sym empty_list))

-- THE TABLE OF FOUR SETS

module _ (d : ℕ) (s : Sets) (m : Small s) where
  abbrev T : Table
  T = table_of d s

  abbrev E : ℕ → Entry
  E r = entry_in d s r

  formed : (r : ℕ) → r < 3 → entry_form (E r) ≡ true
  formed r h = entry_form_lem d _ (list_at s r) _ (list_small s m r h)

  form0 : table_form (with_entry empty_table 0 (E 0)) ≡ true
  form0 = with_entry_form empty_table 0 (E 0) empty_table_form (omega arith) (formed 0 (omega arith))

  form1 : table_form (with_entry (with_entry empty_table 0 (E 0)) 1 (E 1)) ≡ true
  form1 = with_entry_form _ 1 (E 1) form0 (omega arith) (formed 1 (omega arith))

  table_form_lem : table_form T ≡ true
  unfolding table_of
  table_form_lem = with_entry_form _ 2 (E 2) form1 (omega arith) (formed 2 (omega arith))

  entry_any : (j : ℕ) → entry_at T j ≡ cond (eqb j 2) (E 2) (cond (eqb j 1) (E 1) (cond (eqb j 0) (E 0) (entry_at empty_table j)))
  unfolding table_of
  entry_any j =
      let first = entry_with_lem empty_table 0 (E 0) j empty_table_form (omega arith) in
      let second = entry_with_lem (with_entry empty_table 0 (E 0)) 1 (E 1) j form0 (omega arith) in
      entry_with_lem _ 2 (E 2) j form1 (omega arith) ∙ rw (second, first)

  entry_at_lem : (r : ℕ) → r < 3 → entry_at T r ≡ E r
  entry_at_lem = below_three (λ r. entry_at T r ≡ E r) (entry_any 0) (entry_any 1) (entry_any 2)

  none_past : (j : ℕ) → 3 ≤ j → allocated_in T j ≡ false
  none_past j h =
      ap (λ e. e.allocated) (entry_any j)
      ∙ rw (ne_eqb j 2 (λ (e : j ≡ 2). omega arith), ne_eqb j 1 (λ (e : j ≡ 1). omega arith), ne_eqb j 0 (λ (e : j ≡ 0). omega arith))
      (sym (in_graph empty_table j) ∙ ap (λ g. is_some (g j)) empty_graph)

  allocated_at_lem : (r : ℕ) → r < 3 → allocated_in T r ≡ digit_at s.allocated r
  allocated_at_lem r h = ap (λ e. e.allocated) (entry_at_lem r h) ∙ entry_allocated d (digit_at s.allocated r) _ _

  allocated_small : (r : ℕ) → allocated_in T r ≡ true → r < 3
  allocated_small r a = split (ltb r 3) (λ t. ltb-true r 3 t) (λ t. clash a (none_past r (ltb-false r 3 t)))

  entry_is : (r : ℕ) → allocated_in T r ≡ true → entry_at T r ≡ used d (list_at s r) r
  entry_is r a =
      let h = allocated_small r a in
      entry_at_lem r h ∙ entry_used d (digit_at s.allocated r) (list_at s r) r (sym (allocated_at_lem r h) ∙ a)

  module _ (g : good_sets s ≡ true) where
    root_in : digit_at s.allocated 0 ≡ true
    unfolding good_sets
    root_in = ((and_iff (digit_at s.allocated 0) (all_below (λ r. list_ok s.allocated (list_at s r) r) 3)).0 g).0

    lists_ok : (r : ℕ) → r < 3 → list_ok s.allocated (list_at s r) r ≡ true
    unfolding good_sets
    lists_ok r h = all_at (λ r. list_ok s.allocated (list_at s r) r) 3 r ((and_iff (digit_at s.allocated 0) _).0 g).1 h

    names_set : (r q : ℕ) → r < 3 → q < 3 → digit_at (list_at s r) q ≡ true → digit_at s.allocated q ≡ true
    names_set r q h j n =
        let e = ((and_iff (subset_of (list_at s r) s.allocated) _).0 (lists_ok r h)).0 in
        rw n at (all_at (λ q. not (digit_at (list_at s r) q) || digit_at s.allocated q) 3 q e j)

    pub sets_small : SmallTable d T
    sets_small =
        record {
          form = table_form_lem;
          root = allocated_at_lem 0 (omega arith) ∙ root_in;
          small = λ r a. omega (arith, allocated_small r a);
          located = λ r a. ap (λ e. e.located) (entry_is r a);
          placed = λ r a. ap (λ e. e.loc) (entry_is r a);
          ascending = λ r a. rw (entry_is r a) (list_of_lem (list_at s r) (list_small s m r (allocated_small r a))).ascending;
          within = λ r q a n.
              let h = allocated_small r a in
              let k = (list_of_lem (list_at s r) (list_small s m r h)).names q (rw (entry_is r a) at n) in
              allocated_at_lem q k.0 ∙ names_set r q h k.0 k.1;
        }

    list_read : (r : ℕ) → r < 3 → list_set T r ≡ list_at s r
    list_read r h =
        let o = ((and_iff (subset_of (list_at s r) s.allocated) _).0 (lists_ok r h)).1 in
        rw (entry_at_lem r h, entry_list_lem d (digit_at s.allocated r) (list_at s r) r o)
        (list_of_lem (list_at s r) (list_small s m r h)).back

    pub sets_back : sets_of T ≡ s
    unfolding sets_of
    sets_back =
        let a = word_same (allocated_in T) (digit_at s.allocated) 3 allocated_at_lem ∙ word_of_digits s.allocated 3 m.allocated in
        let x = list_read 0 (omega arith) in
        let y = list_read 1 (omega arith) in
        let z = list_read 2 (omega arith) in
        λ i. record { allocated = a i; list0 = x i; list1 = y i; list2 = z i }

-- THE SETS OF A TABLE

empty_names : (q : ℕ) → has_succ zero_succs q ≡ false
unfolding has_succ some_below
empty_names q = refl

module _ (d : ℕ) (t : Table) (m : SmallTable d t) where
  abbrev S : Sets
  S = sets_of t

  pub read_small : Small S
  unfolding sets_of
  read_small =
      record {
        allocated = word_lt (allocated_in t) 3;
        list0 = word_lt (has_succ (entry_at t 0).succs) 3;
        list1 = word_lt (has_succ (entry_at t 1).succs) 3;
        list2 = word_lt (has_succ (entry_at t 2).succs) 3;
      }

  list_is : (r : ℕ) → r < 3 → list_at S r ≡ list_set t r
  unfolding sets_of
  list_is = below_three (λ r. list_at S r ≡ list_set t r) refl refl refl

  in_set : (r : ℕ) → r < 3 → digit_at S.allocated r ≡ allocated_in t r
  unfolding sets_of
  in_set r h = word_read (allocated_in t) 3 r h

  in_list : (r q : ℕ) → r < 3 → q < 3 → digit_at (list_at S r) q ≡ has_succ (entry_at t r).succs q
  in_list r q h j = ap (λ l. digit_at l q) (list_is r h) ∙ word_read (has_succ (entry_at t r).succs) 3 q j

  -- a reference that is not allocated has zeros
  absent : (r : ℕ) → r < 64 → allocated_in t r ≡ false → entry_at t r ≡ zero_entry
  absent r b a = entry_absent (entry_at t r) (entry_at_form t m.form r b) a

  no_list_lem : (r : ℕ) → r < 3 → allocated_in t r ≡ false → list_at S r ≡ 0
  no_list_lem r h a = list_is r h ∙ ap (λ e. set_of e.succs) (absent r (omega arith) a) ∙ empty_set

  listed_in : (r q : ℕ) → r < 3 → has_succ (entry_at t r).succs q ≡ true → allocated_in t q ≡ true
  listed_in r q h n =
      split (allocated_in t r) (λ a. m.within r q a n)
      (λ a. clash n (ap (λ e. has_succ e.succs q) (absent r (omega arith) a) ∙ empty_names q))

  pub read_good : good_sets S ≡ true
  unfolding good_sets
  read_good =
      and_both (in_set 0 (omega arith) ∙ m.root)
      (all_of (λ r. list_ok S.allocated (list_at S r) r) 3 (λ r h. and_both (subset r h) (empty r h)))
    where
      subset : (r : ℕ) → r < 3 → subset_of (list_at S r) S.allocated ≡ true
      subset r h =
          all_of (λ q. not (digit_at (list_at S r) q) || digit_at S.allocated q) 3
          (λ q j. (or_true_iff (not (digit_at (list_at S r) q)) (digit_at S.allocated q)).1
          (λ n. in_set q j ∙ listed_in r q h (sym (in_list r q h j) ∙ (not_iff (digit_at (list_at S r) q)).0 n)))

      empty : (r : ℕ) → r < 3 → (digit_at S.allocated r || eqb (list_at S r) 0) ≡ true
      empty r h = (or_true_iff (digit_at S.allocated r) (eqb (list_at S r) 0)).1 (λ a. eq-eqb _ _ (no_list_lem r h (sym (in_set r h) ∙ a)))

  entry_back : (r : ℕ) → r < 3 → entry_in d S r ≡ entry_at t r
  entry_back r h =
      split (allocated_in t r)
      (λ a. entry_used d (digit_at S.allocated r) (list_at S r) r (in_set r h ∙ a) ∙ whole a)
      (λ a. entry_unused d (digit_at S.allocated r) (list_at S r) r (in_set r h ∙ a) ∙ sym (absent r (omega arith) a))
    where
      whole : allocated_in t r ≡ true → used d (list_at S r) r ≡ entry_at t r
      whole a =
          let f = entry_succs (entry_at t r) (entry_at_form t m.form r (omega arith)) in
          let l : list_of (list_at S r) ≡ (entry_at t r).succs =
          ap list_of (list_is r h) ∙ list_back (entry_at t r).succs f (m.ascending r a) (λ q n. m.small q (m.within r q a n)) in
          λ i. record { allocated = sym a i; located = sym (m.located r a) i; loc = sym (m.placed r a) i; succs = l i }

  free : (r : ℕ) → 3 ≤ r → allocated_in t r ≡ false
  free r h = split (allocated_in t r) (λ a. absurd (omega (arith, m.small r a))) (λ a. a)

  pub table_back : table_of d S ≡ t
  table_back =
      let f = table_form_lem d S read_small in
      table_of_entries (table_of d S) t f m.form
      (λ r b. split (ltb r 3)
      (λ x. entry_at_lem d S read_small r (ltb-true r 3 x) ∙ entry_back r (ltb-true r 3 x))
      (λ x. entry_absent (entry_at (table_of d S) r) (entry_at_form (table_of d S) f r b) (none_past d S read_small r (ltb-false r 3 x))
      ∙ sym (absent r b (free r (ltb-false r 3 x)))))
