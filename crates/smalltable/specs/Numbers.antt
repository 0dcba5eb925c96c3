-- Document 02, Q-13: the four sets of a number. The numbers go by the allocated set, then by the lists of 0, 1 and 2, all ascending. A
-- reference that is not allocated has the empty list, 0.
use Rattle.std.specs.Prelude.{ℕ, ◌+◌, ◌-◌, ◌*◌, ◌/◌, ◌%◌, cond, eqb, ltb}
use Rattle.smalltable.specs.declared.Sets.{Sets}

-- how many small tables there are
abbrev pub small_tables : ℕ
small_tables = 546

abbrev pub sets : ℕ → ℕ → ℕ → ℕ → Sets
sets s a b c = record { allocated = s; list0 = a; list1 = b; list2 = c }

-- the list of reference r, 0 to 2
abbrev pub list_at : Sets → ℕ → ℕ
list_at s r = cond (eqb r 0) s.list0 (cond (eqb r 1) s.list1 s.list2)

-- set j of the four sets of references 0 and 2, which are 0, 1, 4, 5
abbrev pub zero_two : ℕ → ℕ
zero_two j = j % 2 + 4 * (j / 2)

-- 2 tables have 0 allocated, then 16 have 0 and 1, then 16 have 0 and 2, then 512 have all three; the list of 0 changes slowest
unfoldable pub small_sets : ℕ → Sets
small_sets n =
    cond (ltb n 2) (sets 1 n 0 0)
    (cond (ltb n 18) (sets 3 ((n - 2) / 4) ((n - 2) % 4) 0)
    (cond (ltb n 34) (sets 5 (zero_two ((n - 18) / 4)) 0 (zero_two ((n - 18) % 4)))
    (sets 7 ((n - 34) / 64) ((n - 34) / 8 % 8) ((n - 34) % 8))))
