-- The marks made: a bit set, the bit of an address set, two marks joined, and a scan that sets the bit of each address in use, all as the two words of a
-- test of the blocks. Assumes nothing.
use Prim.Native.Nat.{◌%◌, ◌*◌, ◌+◌, ◌-◌, ◌<◌, ◌^◌, ◌≤◌, ℕ}
use mathlib.Core.Bool.{Bool, ◌&&◌, ◌||◌, cond, false, or-false, true}
use mathlib.Core.Option.{Option, none, some}
use mathlib.Core.Path.{◌∙◌, ◌≡◌, ap, refl, sym}
use native.Mathlib.Omega.{arith}
use borrow.Author.Tests.{eq-eqb, eqb-true, lt-ltb, ltb-false, ltb-true, ne_eqb}
use lib.Bits.{bit_or}
use lib.Dec.{eqb, ltb}
use lib.Pow.{shl_exact}
use Rattle.base.proofs.Bits.{word_or, word_same, word_set, word_zero_iff}
use Rattle.base.proofs.Scan.{at_end, some_more, some_none, some_of_none}
use Rattle.base.proofs.Tests.{bool_ext, never, split}
use Rattle.base.specs.Bits.{word_of}
use Rattle.base.specs.Scan.{some_below}
use Rattle.bitmap.specs.Bitmap.{union_marks, marks_on, on_device, table_marks, with_addr, with_found, with_mark, writes_marks}
use Rattle.blockcache.proofs.Forms.{marks_same}
use Rattle.blockcache.specs.Marks.{is_marked, marks_of, marks_where, no_marks}
use Rattle.blockcache.specs.Scan.{held_in}
use Rattle.blockcache.specs.declared.Marks.{Marks}
use Rattle.blockcache.specs.declared.Tables.{Tables}
use Rattle.disklayout.proofs.Devices.{device_good}
use Rattle.disklayout.proofs.NodeBlocks.{block_addr_injective, node_block_iff}
use Rattle.disklayout.specs.Blocks.{node_block_addr, node_block_of}
use Rattle.std.specs.Prelude.{Some, None}
use Rattle.std.specs.Prelude as result
use Rattle.std.specs.Result.{result_unwrap_or}
use Rattle.disklayout.specs.Calls.{answered, answered_when, told}
use Rattle.disklayout.specs.Device.{device_of, made}
use Rattle.queue.specs.Queue.{has_addr, request_at}
use Rattle.queue.specs.declared.Requests.{Requests}
use Rattle.sectortype.specs.Form.{entry_at}
use Rattle.sectortype.specs.Graph.{holds_addr, located_in}
use Rattle.sectortype.specs.declared.Table.{Table}

-- marks by their words
same_words : (m n : Marks) → m.low ≡ n.low → m.high ≡ n.high → m ≡ n
same_words m n l h = λ i. record { low = l i; high = h i }

-- A BIT SET

-- the 1 that is shifted stays within the word
pub shifted_one : (k : ℕ) → k < 64 → (1 * 2 ^ k) % 2 ^ 64 ≡ 2 ^ k
shifted_one k h = let z : 1 * 2 ^ k ≡ 2 ^ k = omega arith in shl_exact {a = 1} 1 k 64 (omega arith) (omega arith) ∙ z

-- of another block than k the test stays as it was
other : (g : ℕ → Bool) (b k : ℕ) → (b ≡ k → ⊥) → g b ≡ (g b || eqb b k)
other g b k n = rw (ne_eqb b k n) (sym (or-false (g b)))

set_low : (g : ℕ → Bool) (k : ℕ) → k < 64 →
    ◌≡◌ {A = Marks} (record { low = bit_or (word_of g 64) (2 ^ k); high = word_of (λ j. g (64 + j)) 64 })
    (marks_where (λ b. g b || eqb b k))
set_low g k l =
    same_words (record { low = bit_or (word_of g 64) (2 ^ k); high = word_of (λ j. g (64 + j)) 64 }) (marks_where (λ b. g b || eqb b k))
    (word_set g 64 k l)
    (word_same (λ j. g (64 + j)) (λ j. g (64 + j) || eqb (64 + j) k) 64 (λ j b. other g (64 + j) k (λ (x : 64 + j ≡ k). omega arith)))

eqb_past : (j k : ℕ) → 64 ≤ k → eqb j (k - 64) ≡ eqb (64 + j) k
eqb_past j k l =
    bool_ext (eqb j (k - 64)) (eqb (64 + j) k)
    (λ t. let e : j ≡ k - 64 = eqb-true _ _ t in eq-eqb (64 + j) k (omega arith))
    (λ t. let e : 64 + j ≡ k = eqb-true _ _ t in eq-eqb j (k - 64) (omega arith))

set_high : (g : ℕ → Bool) (k : ℕ) → 64 ≤ k → k < 128 →
    ◌≡◌ {A = Marks} (record { low = word_of g 64; high = bit_or (word_of (λ j. g (64 + j)) 64) (2 ^ (k - 64)) })
    (marks_where (λ b. g b || eqb b k))
set_high g k l h =
    same_words (record {
      low =
          word_of g 64;
      high = bit_or (word_of (λ j. g (64 + j)) 64) (2 ^ (k - 64));
    }) (marks_where (λ b. g b || eqb b k))
    (word_same g (λ b. g b || eqb b k) 64 (λ j b. other g j k (λ (x : j ≡ k). omega arith)))
    (word_set (λ j. g (64 + j)) 64 (k - 64) (omega arith)
    ∙ word_same (λ j. g (64 + j) || eqb j (k - 64)) (λ j. g (64 + j) || eqb (64 + j) k) 64 (λ j b. rw (eqb_past j k l)))

pub mark_set : (g : ℕ → Bool) (k : ℕ) → k < 128 → with_mark (marks_where g) k ≡ marks_where (λ b. g b || eqb b k)
unfolding with_mark
mark_set g k h =
    split (ltb k 64)
    (λ t. rw t (set_low g k (ltb-true k 64 t)))
    (λ t. rw (t, lt-ltb k 128 h) (set_high g k (ltb-false k 64 t) h))

-- THE BIT OF AN ADDRESS

module _ (d : ℕ) where
  -- the address is that of block b
  abbrev pub at_block : ℕ → ℕ → Bool
  at_block a b = eqb a (node_block_addr (device_of d) b)

  found : (g : ℕ → Bool) (a : ℕ) (o : Option ℕ) → node_block_of (device_of d) a ≡ o →
      with_found (marks_where g) o ≡ marks_where (λ b. g b || at_block a b)
  found g a none e =
      marks_same g (λ b. g b || at_block a b)
      (λ b l. rw (ne_eqb a (node_block_addr (device_of d) b)
      (λ x. never (sym e ∙ (node_block_iff (device_of d) (device_good d) a b).1 (l, x)))) (sym (or-false (g b))))
  found g a (some k) e =
      let p = (node_block_iff (device_of d) (device_good d) a k).0 e in
      mark_set g k p.0
      ∙ marks_same (λ b. g b || eqb b k) (λ b. g b || at_block a b)
      (λ b l. rw (same b k p.1))
    where
      same : (b k : ℕ) → a ≡ node_block_addr (device_of d) k → eqb b k ≡ at_block a b
      same b k q =
          bool_ext (eqb b k) (at_block a b)
          (λ t. let x : b ≡ k = eqb-true _ _ t in
          eq-eqb a (node_block_addr (device_of d) b) (q ∙ ap (node_block_addr (device_of d)) (sym x)))
          (λ t. let x : a ≡ node_block_addr (device_of d) b = eqb-true _ _ t in
          eq-eqb b k (block_addr_injective (device_of d) (device_good d) b k (sym x ∙ q)))

  pub addr_set : (g : ℕ → Bool) (a : ℕ) → with_addr d (on_device d (marks_where g)) a ≡ on_device d (marks_where (λ b. g b || at_block a b))
  unfolding with_addr
  addr_set g a = split (made d) (λ t. rw t (found g a (node_block_of (device_of d) a) refl)) (λ f. rw f)

  -- as the code sets it, by the block that the layout names, if it names one
  abbrev pub named : ℕ → result.Option ℕ
  named a = result_unwrap_or (answered d (told (node_block_of (device_of d) a))) None

  pub addr_found : (m : Marks) (a k : ℕ) → named a ≡ Some k → with_mark m k ≡ with_addr d m a
  unfolding with_addr
  addr_found m a k = by (made d) (node_block_of (device_of d) a)
    where
      by : (b : Bool) (o : Option ℕ) → result_unwrap_or (answered_when b (told o)) None ≡ Some k → with_mark m k ≡ cond b (with_found m o) m
      by true none t = cc
      by true (some j) t = let q : j ≡ k = cc in rw q
      by false o t = cc

  pub addr_missed : (m : Marks) (a : ℕ) → named a ≡ None → m ≡ with_addr d m a
  unfolding with_addr
  addr_missed m a = by (made d) (node_block_of (device_of d) a)
    where
      by : (b : Bool) (o : Option ℕ) → result_unwrap_or (answered_when b (told o)) None ≡ None → m ≡ cond b (with_found m o) m
      by true none t = refl
      by true (some j) t = cc
      by false o t = refl

  -- MARKS JOINED

  pub union_marks_lem : (g h : ℕ → Bool) →
      union_marks (on_device d (marks_where g)) (on_device d (marks_where h)) ≡ on_device d (marks_where (λ b. g b || h b))
  union_marks_lem g h =
      split (made d)
      (λ t. rw t (same_words (union_marks (marks_where g) (marks_where h)) (marks_where (λ b. g b || h b))
      (word_or g h 64) (word_or (λ k. g (64 + k)) (λ k. h (64 + k)) 64)))
      (λ f. rw f)

  -- A SCAN: the bits of the addresses of the places in use below n

  module _ (used : ℕ → Bool) (addr : ℕ → ℕ) where
    abbrev passed : ℕ → ℕ → Bool
    passed n b = some_below (λ r. used r && at_block (addr r) b) n

    unfoldable pub scanned : ℕ → Marks
    scanned n = on_device d (marks_where (passed n))

    pub scan_none : no_marks ≡ scanned 0
    unfolding scanned
    scan_none =
        split (made d) (λ t. rw t (same_words no_marks (marks_where (passed 0)) (sym (none (λ b. b))) (sym (none (λ b. 64 + b)))))
        (λ f. rw f)
      where
        none : (at : ℕ → ℕ) → word_of (λ b. passed 0 (at b)) 64 ≡ 0
        none at =
            (word_zero_iff (λ b. passed 0 (at b)) 64).1
            (some_of_none (λ b. passed 0 (at b)) 64 (λ k l. sym (some_none (λ r. used r && at_block (addr r) (at k)))))

    more : (i : ℕ) (t : Bool) → used i ≡ t → scanned (i + 1) ≡ on_device d (marks_where (λ b. passed i b || (t && at_block (addr i) b)))
    unfolding scanned
    more i t e =
        ap (on_device d)
        (marks_same (passed (i + 1)) (λ b. passed i b || (t && at_block (addr i) b))
        (λ b l. some_more (λ r. used r && at_block (addr r) b) i ∙ rw e))

    -- a place in use, and one that is not
    pub scan_turn : (i : ℕ) {m : Marks} → m ≡ scanned i → used i ≡ true → with_addr d m (addr i) ≡ scanned (i + 1)
    unfolding scanned
    scan_turn i e u = rw e (addr_set (passed i) (addr i) ∙ sym (more i true u))

    pub scan_skip : (i : ℕ) {m : Marks} → m ≡ scanned i → used i ≡ false → m ≡ scanned (i + 1)
    unfolding scanned
    scan_skip i e u =
        e ∙ ap (on_device d) (marks_same (passed i) (λ b. passed i b || false) (λ b l. sym (or-false (passed i b)))) ∙ sym (more i false u)

    pub scan_end : {i n : ℕ} {m : Marks} → m ≡ scanned i → i ≤ n → n ≤ i → m ≡ scanned n
    scan_end e u v = at_end scanned e u v

pub table_scanned : (d : ℕ) (t : Table) → scanned d (located_in t) (λ r. (entry_at t r).loc.addr) 64 ≡ table_marks d t
unfolding scanned holds_addr
table_scanned d t = refl

pub writes_scanned : (d : ℕ) (q : Requests) → scanned d (λ k. ltb k q.count) (λ k. (request_at q k).loc.addr) 16 ≡ writes_marks d q
unfolding scanned has_addr
writes_scanned d q = refl

-- THE MARKS OF TABLES AND WRITES, joined in the code's order: the frozen table's last

module _ (d : ℕ) (ts : Tables) (q : Requests) where
  abbrev in_table : Table → ℕ → Bool
  in_table t b = holds_addr t (node_block_addr (device_of d) b)

  abbrev in_writes : ℕ → Bool
  in_writes b = has_addr q (node_block_addr (device_of d) b)

  -- all but the frozen table
  abbrev pub unfrozen : Marks
  unfrozen = union_marks (union_marks (table_marks d ts.persistent) (table_marks d ts.ephemeral)) (writes_marks d q)

  abbrev in_three : ℕ → Bool
  in_three b = (in_table ts.persistent b || in_table ts.ephemeral b) || in_writes b

  three : unfrozen ≡ on_device d (marks_where in_three)
  three =
      ap (λ m. union_marks m (writes_marks d q)) (union_marks_lem d (in_table ts.persistent) (in_table ts.ephemeral))
      ∙ union_marks_lem d (λ b. in_table ts.persistent b || in_table ts.ephemeral b) in_writes

  pub unfrozen_marks : ts.isfrozen ≡ false → unfrozen ≡ marks_on d ts q
  unfolding marks_of is_marked held_in
  unfrozen_marks e =
      three ∙ ap (on_device d) (marks_same in_three (is_marked d ts q)
      (λ b l. rw (e, or-false (in_table ts.persistent b || in_table ts.ephemeral b))))

  pub frozen_marks : ts.isfrozen ≡ true → union_marks unfrozen (table_marks d ts.frozen) ≡ marks_on d ts q
  unfolding marks_of is_marked held_in
  frozen_marks e =
      ap (λ m. union_marks m (table_marks d ts.frozen)) three
      ∙ union_marks_lem d in_three (in_table ts.frozen)
      ∙ ap (on_device d)
      (marks_same (λ b. in_three b || in_table ts.frozen b) (is_marked d ts q)
      (λ b l. rw e (swap (in_table ts.persistent b || in_table ts.ephemeral b) (in_writes b) (in_table ts.frozen b))))
    where
      swap : (x y z : Bool) → ((x || y) || z) ≡ ((x || z) || y)
      swap true y z = refl
      swap false true true = refl
      swap false true false = refl
      swap false false true = refl
      swap false false false = refl
