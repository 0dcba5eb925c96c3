-- Each joined call is answered as documents 01 and 02 fix: the lowest number whose condition holds, in cache, disk or start; 0 where none
-- does. Assumes nothing.
use Prim.Native.Nat.{◌<◌, ◌≤◌, ℕ}
use mathlib.Core.Bool.{Bool, ◌||◌, false, true}
use mathlib.Core.List.{List}
use mathlib.Core.Logic.{⊎_elim}
use mathlib.Core.Path.{◌∙◌, ◌≡◌, ap, refl, sym}
use native.Mathlib.Omega.{arith}
use lib.Dec.{eqb, leb}
use borrow.Author.Tests.{eq-eqb, eqb-false, eqb-true, leb-false, leb-true}
use Rattle.base.proofs.Refusals.{accepted_iff, answer_holds, answer_lowest, clear_holds}
use Rattle.base.proofs.Tests.{clash, or_cases, or_inl, or_inr, or_iff, split}
use Rattle.base.specs.Refusals.{Row, answer, ascending, holds, lowest}
use Rattle.blockcache.proofs.Chooser.{block_free, block_small, by_answer, by_refused, count_all, gives_addr, gives_block, gives_cache}
use Rattle.blockcache.proofs.Numbers.{rows_ascending}
use Rattle.blockcache.proofs.Outcomes.{step_answer}
use Rattle.blockcache.specs.Chooser.{chooser, chooser_rows, refused_choice}
use Rattle.blockcache.specs.Step.{cache_rows}
use Rattle.blockcache.specs.Steps.{is_crash}
use Rattle.blockcache.specs.declared.CacheState.{CacheState}
use Rattle.blockcache.specs.declared.Call.{Call}
use Rattle.blockcache.specs.declared.Settings.{Settings}
use Rattle.blockdisk.proofs.Accepting.{disk_ascending}
use Rattle.blockdisk.proofs.Crashing.{crash_ascending}
use Rattle.blockdisk.specs.Crash.{crash_rows}
use Rattle.blockdisk.specs.declared.Records.{Records}
use Rattle.blockdisk.specs.Ops.{disk_rows}
use Rattle.blocksystem.proofs.Accepting.{crash_answer, disk_answer, refused_unmoved}
use Rattle.blocksystem.proofs.After.{every_iff}
use Rattle.blocksystem.proofs.Choosing.{choice_is, choice_zero}
use Rattle.blocksystem.proofs.Operations.{list_answered}
use Rattle.blocksystem.specs.Choosing.{joined_choice}
use Rattle.blocksystem.specs.Joined.{disk_asked, disk_call, joined, joined_answer, settings_of, start_rows}
use Rattle.blocksystem.specs.Run.{Answered, AnsweredAs, ChoiceAnswered, JoinedCall, State, StepAnswered, after, choice, choice_rows}
use Rattle.blocksystem.specs.Run.{choose, conditions, disk_side, operations, step}

-- a is the lowest number of which P holds; 0 where P holds of none
pub record Lowest (a : ℕ) (P : ℕ → Bool) : Type 0 where
  pub none : a ≡ 0 → (k : ℕ) → P k ≡ false
  pub own : (a ≡ 0 → ⊥) → P a ≡ true
  pub least : (k : ℕ) → P k ≡ true → a ≤ k

-- of two that are asked
pub lowest_of : (a b : ℕ) (P Q : ℕ → Bool) → Lowest a P → Lowest b Q → Lowest (lowest a b) (λ k. P k || Q k)
lowest_of a b P Q x y =
    split (eqb a 0)
    (λ t. rw t (let e : a ≡ 0 = eqb-true a 0 t in
    record {
      none = λ z k. (or_iff (P k) (Q k)).1 (x.none e k, y.none z k);
      own = λ ne. or_inr (P b) (y.own ne);
      least = λ k h. ⊎_elim (λ u. clash u (x.none e k)) (λ u. y.least k u) (or_cases (P k) (Q k) h);
    }))
    (λ f. let n : (a ≡ 0 → ⊥) = eqb-false a 0 f in
    split (eqb b 0)
    (λ t. rw (f, t) (let e : b ≡ 0 = eqb-true b 0 t in
    record {
      none = λ z k. absurd (n z);
      own = λ ne. or_inl (Q a) (x.own n);
      least = λ k h. ⊎_elim (λ u. x.least k u) (λ u. clash u (y.none e k)) (or_cases (P k) (Q k) h);
    }))
    (λ g. let m : (b ≡ 0 → ⊥) = eqb-false b 0 g in
    split (leb a b)
    (λ t. rw (f, g, t) (let le : a ≤ b = leb-true a b t in
    record {
      none = λ z k. absurd (n z);
      own = λ ne. or_inl (Q a) (x.own n);
      least = λ k h. ⊎_elim (λ u. x.least k u) (λ u. let j : b ≤ k = y.least k u in omega arith) (or_cases (P k) (Q k) h);
    }))
    (λ t. rw (f, g, t) (let lt : b < a = leb-false a b t in
    record {
      none = λ z k. absurd (m z);
      own = λ ne. or_inr (P b) (y.own m);
      least = λ k h. ⊎_elim (λ u. let j : a ≤ k = x.least k u in omega arith) (λ u. y.least k u) (or_cases (P k) (Q k) h);
    }))))

-- a list of rows whose numbers ascend
pub rows_lowest : (rs : List Row) → ascending rs ≡ true → Lowest (answer rs) (λ k. holds k rs)
rows_lowest rs up =
    record { none = λ z k. clear_holds rs ((accepted_iff rs up).0 z) k; own = answer_holds rs; least = answer_lowest 0 rs up }

pub cache_lowest : (g : Settings) (c : CacheState) (n : ℕ) (q : Call) →
    Lowest (answer (cache_rows g c n q)) (λ k. holds k (cache_rows g c n q))
cache_lowest g c n q = rows_lowest (cache_rows g c n q) (rows_ascending g c n q)

module _ (d : ℕ) (s : State) (n : ℕ) (q : Call) (o : Records) where
  abbrev a : ℕ
  a = joined_answer d n q o s.cache s.disk

  disk_lowest : Lowest (disk_asked d n q o s.disk).answer (λ k. holds k (disk_side d s n q o))
  disk_lowest =
      split (is_crash n)
      (λ t. rw (crash_answer d n q o s.disk t, t) (rows_lowest (crash_rows d s.disk o) (crash_ascending d s.disk o)))
      (λ t. rw (disk_answer d n q o s.disk t, t)
      (rows_lowest (disk_rows d s.disk (disk_call n q)) (disk_ascending d s.disk (disk_call n q))))

  pub joined_lowest : Lowest a (conditions d s n q o)
  unfolding joined_answer conditions
  joined_lowest =
      let c = cache_rows (settings_of d s.disk) s.cache n q in
      let start = start_rows d n q s.disk in
      let disk = (disk_asked d n q o s.disk).answer in
      rw (step_answer (settings_of d s.disk) s.cache n q)
      (lowest_of (lowest (answer c) disk) (answer start) (λ k. holds k c || holds k (disk_side d s n q o)) (λ k. holds k start)
      (lowest_of (answer c) disk (λ k. holds k c) (λ k. holds k (disk_side d s n q o))
      (cache_lowest (settings_of d s.disk) s.cache n q) disk_lowest)
      (rows_lowest start refl))

  step_answered : StepAnswered d s n q o
  unfolding joined
  step_answered =
      let l = joined_lowest in
      record {
        accepted = (l.none, (λ h. split (eqb a 0) (eqb-true a 0) (λ t. clash (l.own (eqb-false a 0 t)) (h a))));
        refused = l.own;
        lowest = λ k lt. split (conditions d s n q o k) (λ t. absurd (let le : a ≤ k = l.least k t in omega arith)) (λ t. t);
        cache_unchanged = λ ne. (refused_unmoved d n q o s.cache s.disk ne).cache;
        disk_unchanged = λ ne. (refused_unmoved d n q o s.cache s.disk ne).disk;
        no_node = λ ne. (refused_unmoved d n q o s.cache s.disk ne).node;
        next_cache = λ e. rw (eq-eqb a 0 e);
        disk_next = λ e. rw (eq-eqb a 0 e);
        node_read = λ e. rw (eq-eqb a 0 e);
      }

-- the chooser's call
choice_answered : (d : ℕ) (s : State) → ChoiceAnswered d s
unfolding joined_choice
choice_answered d s =
    let g = settings_of d s.disk in
    let c = s.cache in
    let rows = choice_rows d s in
    let a = answer rows in
    let is : (choice d s).answer ≡ a = by_answer g c rows in
    let l = rows_lowest rows refl in
    let formed : ((choice d s).answer ≡ 0 → choice d s ≡ chooser g c) = choice_is d c s.disk in
    let own : ((choice d s).answer ≡ 0 → answer (chooser_rows g c) ≡ 0) = λ e. (choice_zero d c s.disk e).1 in
    record {
      accepted = ((λ e. l.none (sym is ∙ e)), (λ h. is ∙ split (eqb a 0) (eqb-true a 0) (λ t. clash (l.own (eqb-false a 0 t)) (h a))));
      refused = λ ne. rw is (l.own (λ e. ne (is ∙ e)));
      lowest = λ k lt. split (holds k rows) (λ t. absurd (let le : a ≤ k = l.least k t in omega arith)) (λ t. t);
      unchanged = λ ne. by_refused g c rows (λ e. ne (is ∙ e)) ∙ ap (λ n. refused_choice n c) (sym is);
      block = λ e. rw (formed e) (gives_block g c (own e));
      small = λ e. rw (formed e, gives_block g c (own e)) (block_small g c);
      is_free = λ e. rw (formed e, gives_block g c (own e)) (block_free g c (own e));
      addr = λ e. rw (formed e, gives_block g c (own e)) (gives_addr g c (own e));
      count = λ e. rw (formed e) (count_all g c (own e));
      next = λ e. rw (formed e, gives_block g c (own e)) (gives_cache g c (own e));
    }

pub answered_as : (d : ℕ) (s : State) (k : JoinedCall) → AnsweredAs d s k
answered_as d s (step n q o) = step_answered d s n q o
answered_as d s choose = choice_answered d s
answered_as d s (operations q l) = list_answered d s q l

-- each call of a list, whatever the state
pub all_answered : (d : ℕ) (calls : List JoinedCall) (s : State) → Answered d s calls
all_answered d calls s = (every_iff d (AnsweredAs d) calls s).1 (λ front back k e. answered_as d (after d s front) k)
