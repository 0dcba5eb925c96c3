-- The disk asked with no operation: it refuses nothing but what is out of its written form, and stays as it is. So a joined call with
-- no D answers what the cache answers. Assumes nothing.
use Prim.Native.Nat.{◌<◌, ◌≤◌, ℕ}
use mathlib.Core.Bool.{◌&&◌, and-false, Bool, cond, false, false≢true, not, true}
use mathlib.Core.List.{[]}
use mathlib.Core.Path.{◌∙◌, ◌≡◌, ap, refl, subst, sym}
use native.Mathlib.Omega.{arith}
use borrow.Author.Tests.{eqb-false, eqb-true, le-leb, leb-false, leb-true, ne_eqb}
use lib.Dec.{eqb, leb}
use Rattle.base.proofs.Refusals.{answer_holds, lowest_one_right, lowest_right, none_lower}
use Rattle.base.proofs.Tests.{and_both, clash, cond_same, split}
use Rattle.base.specs.Refusals.{answer, ascending_from, lowest}
use Rattle.blockcache.proofs.Gate.{step_unformed}
use Rattle.blockcache.proofs.Operations.{begins_iff}
use Rattle.blockcache.proofs.Outcomes.{step_answer, step_refused}
use Rattle.blockcache.specs.Form.{cache_form, call_form, settings_form}
use Rattle.blockcache.specs.Ops.{dop_kind, no_dop}
use Rattle.blockcache.specs.Rows.{takes}
use Rattle.blockcache.specs.Step.{cache_step, outside_limits}
use Rattle.blockcache.specs.Steps.{is_crash, is_start, step_of, steps, transaction_step}
use Rattle.blockcache.specs.declared.CacheOutcome.{CacheOutcome}
use Rattle.blockcache.specs.declared.CacheState.{CacheState}
use Rattle.blockcache.specs.declared.Call.{Call}
use Rattle.blockcache.specs.declared.Settings.{Settings}
use Rattle.blockdisk.specs.Form.{disk_form}
use Rattle.blockdisk.specs.Ops.{disk_rows, disk_step, op_rows}
use Rattle.blockdisk.specs.declared.DiskOp.{DiskOp}
use Rattle.blockdisk.specs.declared.DiskOp.TheVariants.{NoDiskOp, ReqReadIndirectionTableOp, ReqReadNodeOp, ReqWriteIndirectionTableOp}
use Rattle.blockdisk.specs.declared.DiskOp.TheVariants.{ReqWriteNodeOp, RespReadIndirectionTableOp, RespReadNodeOp}
use Rattle.blockdisk.specs.declared.DiskOp.TheVariants.{RespWriteIndirectionTableOp, RespWriteNodeOp}
use Rattle.blockdisk.specs.declared.DiskState.{DiskState}
use Rattle.blockdisk.specs.declared.Records.{Records}
use Rattle.sectortype.specs.Form.{node_form, table_form}
use Rattle.sectortype.specs.declared.Node.{Node}
use Rattle.sectortype.specs.declared.Table.{Table}
use Rattle.blocksystem.specs.Joined.{disk_asked, disk_call, joined, joined_answer, settings_of}
use Rattle.blocksystem.specs.Operations.{idle_disk}

-- disk, node and table are in their written form
abbrev is_formed : ℕ → Call → DiskState → Bool
is_formed d q s = disk_form d s && node_form q.node && table_form q.table

pub idle_answer : (d : ℕ) (q : Call) (s : DiskState) → (idle_disk d q s).answer ≡ cond (not (is_formed d q s)) 1 0
unfolding disk_step answer
idle_answer d q s = refl

pub idle_disk_lem : (d : ℕ) (q : Call) (s : DiskState) → (idle_disk d q s).disk ≡ s
unfolding disk_step
idle_disk_lem d q s = cond_same (eqb (answer (disk_rows d s (record { op = NoDiskOp; node = q.node; table = q.table }))) 0) s

-- A JOINED CALL WITH NO D, no crash and no start, on a disk in its written form: what the cache answers and leaves, and the disk as it was

-- of what the two judge, the disk looks at node and table alone
unformed_call : (d : ℕ) (q : Call) (s : DiskState) → disk_form d s ≡ true → is_formed d q s ≡ false → call_form q ≡ false
unformed_call d q s f out =
    split (node_form q.node)
    (λ n. split (table_form q.table) (λ t. clash (and_both (and_both f n) t) out)
    (λ t. rw t (and-false (leb q.reference 63 && node_form q.node))))
    (λ n. rw (n, and-false (leb q.reference 63)))

module _ (d n : ℕ) (q : Call) (o : Records) (c : CacheState) (s : DiskState) (nc : is_crash n ≡ false) (ns : is_start n ≡ false) where
  abbrev x : CacheOutcome
  x = cache_step (settings_of d s) c n q

  two_asked : joined_answer d n q o c s ≡ lowest x.answer (disk_step d s (disk_call n q)).answer
  unfolding joined_answer disk_asked answer
  two_asked = rw (nc, ns) (lowest_right (lowest x.answer (disk_step d s (disk_call n q)).answer))

  module _ (no_op : (disk_call n q).op ≡ NoDiskOp) where
    is_idle : disk_step d s (disk_call n q) ≡ idle_disk d q s
    is_idle = ap (λ op. disk_step d s (record { op = op; node = q.node; table = q.table })) no_op

    module _ (f : disk_form d s ≡ true) where
      answers_alike : joined_answer d n q o c s ≡ x.answer
      answers_alike =
          two_asked ∙ ap (λ y. lowest x.answer y.answer) is_idle ∙ ap (lowest x.answer) (idle_answer d q s)
          ∙ split (is_formed d q s)
          (λ t. rw t (lowest_right x.answer))
          (λ t. let w = unformed_call d q s f t in
          let u = step_unformed (settings_of d s) c n q (rw w (and-false (settings_form (settings_of d s) && cache_form d c))) in
          rw t (lowest_one_right x.answer ∙ sym (ap (λ y. y.answer) u)))

      pub record Idle : Type 0 where
        pub answer : (joined d n q o c s).answer ≡ x.answer
        pub cache : (joined d n q o c s).cache ≡ x.cache
        pub disk : (joined d n q o c s).disk ≡ s

      pub idle_joined : Idle
      unfolding joined disk_asked
      idle_joined =
          record {
            answer = answers_alike;
            cache = split (eqb x.answer 0) (λ t. rw (answers_alike, t))
                (λ t. rw (answers_alike, t) (sym (step_refused (settings_of d s) c n q
                (λ e. eqb-false _ _ t (step_answer (settings_of d s) c n q ∙ e)))));
            disk = split (eqb x.answer 0) (λ t. rw (answers_alike, t, nc, is_idle) (idle_disk_lem d q s)) (λ t. rw (answers_alike, t));
          }

-- STEP 20, whatever its D: the cache refuses with 3 at the most where D is not none, and the disk with nothing between 1 and 15

-- every other refusal of the disk is past 14
past_14 : (d : ℕ) (s : DiskState) (op : DiskOp) (n : Node) (t : Table) → ascending_from 14 (op_rows d s op n t) ≡ true
past_14 d s (ReqReadIndirectionTableOp id l) n t = refl
past_14 d s (ReqReadNodeOp id l) n t = refl
past_14 d s (ReqWriteIndirectionTableOp id l) n t = refl
past_14 d s (ReqWriteNodeOp id l) n t = refl
past_14 d s (RespReadIndirectionTableOp id b) n t = refl
past_14 d s (RespReadNodeOp id b) n t = refl
past_14 d s (RespWriteIndirectionTableOp id) n t = refl
past_14 d s (RespWriteNodeOp id) n t = refl
past_14 d s NoDiskOp n t = refl

disk_bound : (d : ℕ) (s : DiskState) (op : DiskOp) (n : Node) (t : Table) → (answer (op_rows d s op n t) ≡ 0 → ⊥) →
    14 < answer (op_rows d s op n t)
disk_bound d s op n t ne =
    let rows = op_rows d s op n t in
    split (leb (answer rows) 14)
    (λ l. clash (answer_holds rows ne) (none_lower 14 rows (past_14 d s op n t) (answer rows) (leb-true _ _ l)))
    (λ l. leb-false _ _ l)

-- the operation whose kind is none
pub is_none : (op : DiskOp) → eqb (dop_kind op) no_dop ≡ true → op ≡ NoDiskOp
is_none (ReqReadIndirectionTableOp id l) e = absurd (false≢true e)
is_none (ReqReadNodeOp id l) e = absurd (false≢true e)
is_none (ReqWriteIndirectionTableOp id l) e = absurd (false≢true e)
is_none (ReqWriteNodeOp id l) e = absurd (false≢true e)
is_none (RespReadIndirectionTableOp id b) e = absurd (false≢true e)
is_none (RespReadNodeOp id b) e = absurd (false≢true e)
is_none (RespWriteIndirectionTableOp id) e = absurd (false≢true e)
is_none (RespWriteNodeOp id) e = absurd (false≢true e)
is_none NoDiskOp e = refl

pub idle_rows : (d : ℕ) (s : DiskState) (op : DiskOp) (n : Node) (t : Table) → eqb (dop_kind op) no_dop ≡ true → op_rows d s op n t ≡ []
idle_rows d s op n t e = ap (λ x. op_rows d s x n t) (is_none op e)

four_at_most : (w x y z : Bool) → cond w 1 (cond x 2 (cond y 3 (cond z 4 0))) ≤ 4
four_at_most true x y z = omega arith
four_at_most false true y z = omega arith
four_at_most false false true z = omega arith
four_at_most false false false true = omega arith
four_at_most false false false false = omega arith

module _ (d : ℕ) (q : Call) (o : Records) (c : CacheState) (s : DiskState) where
  abbrev g : Settings
  g = settings_of d s

  abbrev twenty : ℕ
  twenty = (cache_step g c 20 q).answer

  abbrev refusal : ℕ
  refusal = answer (op_rows d s q.dop q.node q.table)

  twenty_small : twenty ≤ 4
  unfolding answer step_of steps
  twenty_small =
      let t = takes c.phase q.vop q.dop transaction_step in
      subst (λ n. n ≤ 4) (sym (step_answer g c 20 q)) (four_at_most (outside_limits g c 20 q) (not t.version) (not t.disk) (not
      t.phase))

  none_refused : twenty ≡ 0 → refusal ≡ 0
  unfolding answer
  none_refused e =
      let b = (begins_iff g c q).0 (sym (step_answer g c 20 q) ∙ e) in
      rw (idle_rows d s q.dop q.node q.table b.disk) refl

  -- past the written forms, what the cache refuses comes before what the disk does
  cache_first : lowest twenty refusal ≡ twenty
  cache_first =
      split (eqb refusal 0)
      (λ t. ap (lowest twenty) (eqb-true refusal 0 t) ∙ lowest_right twenty)
      (λ t. let some_refusal = eqb-false refusal 0 t in
      let past = disk_bound d s q.dop q.node q.table some_refusal in
      let small = twenty_small in
      let some_twenty : eqb twenty 0 ≡ false = ne_eqb twenty 0 (λ e. some_refusal (none_refused e)) in
      rw (some_twenty, t, le-leb twenty refusal (omega (arith, past, small))))

  pub twenty_joined : (joined d 20 q o c s).answer ≡ cond (eqb (idle_disk d q s).answer 0) twenty (idle_disk d q s).answer
  unfolding joined disk_step answer
  twenty_joined =
      two_asked d 20 q o c s refl refl
      ∙ split (is_formed d q s) (λ t. rw t cache_first) (λ t. rw t (lowest_one_right twenty))
