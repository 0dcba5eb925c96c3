-- Demand 2 for the joined call: it is accepted exactly where upstream's BlockSystem allows some next state and no narrowing refuses it, and then the
-- cache and disk handed back are a state that upstream allows. For any device, call, offered records, cache, disk and step number but those of
-- document 02's steps, which upstream doesn't have. Assumes nothing.
use Prim.Native.Nat.{ℕ}
use mathlib.Core.Bool.{false, true}
use mathlib.Core.Logic.Iff
use mathlib.Core.Logic.{◌↔◌}
use mathlib.Core.Option.{some}
use mathlib.Core.Path.{◌∙◌, ◌≡◌, ap, refl, sym}
use borrow.Author.Tests.{eqb-true}
use Rattle.base.proofs.Refusals.{accepted_iff}
use Rattle.base.proofs.Tests.{and_false_iff, clash, not_iff, split}
use Rattle.base.specs.Refusals.{answer}
use Rattle.blockcache.proofs.Demand2.{cache_accepted, cache_allowed, cache_crash}
use Rattle.blockcache.proofs.Numbers.{number_decides}
use Rattle.blockcache.specs.Abstract.{cache_vars, call_op}
use Rattle.blockcache.specs.NextStep.{NextStep}
use Rattle.blockcache.specs.Ops.{vop_loc}
use Rattle.blockcache.specs.Step.{cache_next}
use Rattle.blockcache.specs.Steps.{crash_step, is_crash, is_new, is_read, is_start, read_step, receive_loc_step, Step, step_of, steps}
use Rattle.blockcache.specs.Upstream.{unready, Variables as MVariables}
use Rattle.blockcache.specs.declared.CacheState.{CacheState}
use Rattle.blockcache.specs.declared.Call.{Call}
use Rattle.blockcache.specs.declared.VersionOp.{VersionOp}
use Rattle.blockcache.specs.declared.VersionOp.TheVariants.{CrashOp, SendPersistentLocOp}
use Rattle.blockdisk.proofs.Accepting.{disk_accepted_iff}
use Rattle.blockdisk.proofs.Demand2.{crash_accepted, disk_accepted, disk_allowed}
use Rattle.blockdisk.specs.Crash.{crashed, crash_rows}
use Rattle.blockdisk.specs.Ops.{disk_rows, next_disk}
use Rattle.blockdisk.specs.Upstream.{disk_vars, Dop}
use Rattle.blockdisk.specs.declared.DiskState.{DiskState}
use Rattle.blockdisk.specs.declared.Records.{Records}
use Rattle.blocksystem.proofs.Accepting.{crash_answer, crash_next, disk_answer, disk_next, joined_cache, joined_disk, joined_zero}
use Rattle.blocksystem.proofs.EveryStep.{sent_by}
use Rattle.blocksystem.proofs.Starting.{wf_succs_iff}
use Rattle.blocksystem.specs.Allowed.{handed_back, joined_op, joined_vop, MachineTo, NoNarrowing, SystemAllows, SystemMoves}
use Rattle.blocksystem.specs.Joined.{disk_call, joined, joined_answer, settings_of, start_rows}
use Rattle.blocksystem.specs.Start.{wf_succs as whole_graph}
use Rattle.blocksystem.specs.Upstream.{Crash, Next, crash_step as system_crash, machine_step, system_vars, Variables}
use Rattle.disklayout.specs.declared.Location.{Location}

-- THE OPERATIONS OF A STEP

module _ (d : ℕ) (s s' : MVariables) (q : Call) where
  abbrev To : Dop → VersionOp → Step → Type 0
  To dop vop step = NextStep d s s' dop vop q.reference q.node step

  -- a read takes none, every other step those of the call
  pub next_joined : (n : ℕ) (step : Step) → step_of n ≡ some step → To (call_op q) q.vop step ↔ To (joined_op n q) (joined_vop n q) step
  next_joined n step e =
      split (is_read n)
      (λ t. let z : step ≡ read_step = number_decides n step read_step e t in
      rw z Iff.rfl)
      (λ t. rw t Iff.rfl)

  -- and a start sends one
  pub sends : (n : ℕ) (step : Step) → step_of n ≡ some step → is_start n ≡ true → To (joined_op n q) (joined_vop n q) step →
      (l : Location) × (q.vop ≡ SendPersistentLocOp l) × (joined_vop n q ≡ SendPersistentLocOp l)
  sends n step e t x =
      let h : n ≡ 10 = eqb-true n 10 t in
      let z : step ≡ receive_loc_step = number_decides n step receive_loc_step e t in
      let y : To (joined_op n q) (joined_vop n q) receive_loc_step = rw z at x in
      let l = y.1.0 in
      let v : joined_vop n q ≡ SendPersistentLocOp l = y.1.1 in
      (l, sym (ap (λ m. joined_vop m q) h) ∙ v, v)

-- THE ROW OF A START

start_iff : (d n : ℕ) (q : Call) (s : DiskState) →
    (answer (start_rows d n q s) ≡ 0) ↔ (is_start n ≡ true → whole_graph d s.records (vop_loc q.vop) ≡ true)
start_iff d n q s = (
  (λ e. let h = simp (and_false_iff, not_iff) at ((accepted_iff (start_rows d n q s) refl).0 e) in h.0),
  (λ h. (accepted_iff (start_rows d n q s) refl).1 (simp (and_false_iff, not_iff) (h, tt))),
)

-- A STEP OF THE MACHINE

module _ (d n : ℕ) (q : Call) (o : Records) (c : CacheState) (s : DiskState) where
  module _ (ne : is_crash n ≡ false) (old : is_new n ≡ false) where
    abbrev after : Variables
    after = record { machine = cache_vars (cache_next d c n q); disk = disk_vars d (next_disk d s (disk_call n q).op q.node q.table) }

    machine_to : joined_answer d n q o c s ≡ 0 → MachineTo d n q o c s after
    machine_to e =
        let z = (joined_zero d n q o c s).0 e in
        let a : answer (disk_rows d s (disk_call n q)) ≡ 0 = sym (disk_answer d n q o s ne) ∙ z.1 in
        let x = cache_allowed (settings_of d s) c n q old z.0 in
        let m = (next_joined d (cache_vars c) after.machine q n x.0 x.1).0 x.2 in (
          x.0,
          x.1,
          record {
            machine = m;
            disk = disk_allowed d s (disk_call n q) a;
            persistent = λ l v.
                let t = sent_by d (cache_vars c) after.machine q n l x.0 x.1 m v in
                let u = sends d (cache_vars c) after.machine q n x.0 x.1 t m in
                let g : SendPersistentLocOp u.0 ≡ SendPersistentLocOp l = sym u.2 ∙ v in
                let k : vop_loc q.vop ≡ l = ap vop_loc u.1 ∙ ap vop_loc g in
                (wf_succs_iff d s ((disk_accepted_iff d s (disk_call n q)).0 a).disk c l).0 (rw k at ((start_iff d n q s).0 z.2 t));
          },
        )

    machine_from : NoNarrowing d n q o c s → (s' : Variables) → MachineTo d n q o c s s' → joined_answer d n q o c s ≡ 0
    machine_from h s' x =
        let m = x.2 in
        let a = (disk_accepted d s (disk_call n q)).1 (h.disk ne, (s'.disk, m.disk)) in
        (joined_zero d n q o c s).1 (
          (cache_accepted (settings_of d s) c n q old).1
              (h.cache, (x.0, x.1, (s'.machine, (next_joined d (cache_vars c) s'.machine q n x.0 x.1).1 m.machine))),
          disk_answer d n q o s ne ∙ a,
          (start_iff d n q s).1
              (λ t. let u = sends d (cache_vars c) s'.machine q n x.0 x.1 t m.machine in
              let w = (wf_succs_iff d s ((disk_accepted_iff d s (disk_call n q)).0 a).disk c u.0).1 (m.persistent u.0 u.2) in
              rw (ap vop_loc u.1) w),
        )

-- A CRASH

module _ (d : ℕ) (q : Call) (o : Records) (c : CacheState) (s : DiskState) where
  crash_op : (s' : MVariables) →
      ((step : Step) × (step_of 18 ≡ some step) × NextStep d (cache_vars c) s' (call_op q) q.vop q.reference q.node step) → q.vop ≡ CrashOp
  crash_op s' (step, e, x) = let z : step ≡ crash_step = number_decides 18 step crash_step e refl in (rw z at x).0

  crash_to : joined_answer d 18 q o c s ≡ 0 → (answer (crash_rows d s o) ≡ 0)
      × Crash (system_vars d c s) (record { machine = unready; disk = disk_vars d (crashed s o) }) q.vop
  crash_to e =
      let z = (joined_zero d 18 q o c s).0 e in
      let a : answer (crash_rows d s o) ≡ 0 = sym (crash_answer d 18 q o s refl) ∙ z.1 in (
        a,
        record {
          op = crash_op (cache_vars (cache_next d c 18 q))
              (cache_allowed (settings_of d s) c 18 q refl z.0);
          machine = refl;
          disk = ((crash_accepted d s o).0 a).1;
        },
      )

  crash_from : NoNarrowing d 18 q o c s → (m : MVariables) →
      Crash (system_vars d c s) (record { machine = m; disk = disk_vars d (crashed s o) }) q.vop → joined_answer d 18 q o c s ≡ 0
  unfolding step_of steps
  crash_from h m x =
      (joined_zero d 18 q o c s).1 (
        (cache_accepted (settings_of d s) c 18 q refl).1 (h.cache, (crash_step, refl, (m, (x.op, x.machine)))),
        crash_answer d 18 q o s refl ∙ (crash_accepted d s o).1 (h.crash refl, x.disk),
        (start_iff d 18 q s).1 (λ t. clash t refl),
      )

-- THE THEOREMS

module _ (d n : ℕ) (q : Call) (o : Records) (c : CacheState) (s : DiskState) (old : is_new n ≡ false) where
  pub joined_accepted : (joined_answer d n q o c s ≡ 0) ↔ (NoNarrowing d n q o c s × SystemAllows d n q o c s)
  joined_accepted = (to, (λ h. from h.0 h.1))
    where
      to : joined_answer d n q o c s ≡ 0 → NoNarrowing d n q o c s × SystemAllows d n q o c s
      to e =
          let z = (joined_zero d n q o c s).0 e in (
            record {
              cache = ((cache_accepted (settings_of d s) c n q old).0 z.0).0;
              disk = λ ne. ((disk_accepted d s (disk_call n q)).0 (sym (disk_answer d n q o s ne) ∙ z.1)).0;
              crash = λ t. ((crash_accepted d s o).0 (sym (crash_answer d n q o s t) ∙ z.1)).0;
            },
            record {
              machine = λ ne. (after d n q o c s ne old, machine_to d n q o c s ne old e);
              crash = λ t. let h : n ≡ 18 = eqb-true n 18 t in (unready, (crash_to d q o c s (rw h at e)).1);
            },
          )

      from : NoNarrowing d n q o c s → SystemAllows d n q o c s → joined_answer d n q o c s ≡ 0
      from h a =
          split (is_crash n)
          (λ t. let k : n ≡ 18 = eqb-true n 18 t in
          let x = a.crash t in
          rw k (crash_from d q o c s (rw k at h) x.0 x.1))
          (λ t. let x = a.machine t in machine_from d n q o c s t old h x.0 x.1)

  pub joined_allowed : joined_answer d n q o c s ≡ 0 → SystemMoves d n q o c s
  joined_allowed e =
      let z = (joined_zero d n q o c s).0 e in
      let cs = joined_cache d n q o c s e in
      record {
        machine = λ ne.
            let y : (joined d n q o c s).disk ≡ next_disk d s (disk_call n q).op q.node q.table = joined_disk d n q o c s e
            ∙ disk_next d n q o s ne (sym (disk_answer d n q o s ne) ∙ z.1) in
            rw (cs, y) (machine_to d n q o c s ne old e);
        crash = λ t.
            let y : (joined d n q o c s).disk ≡ crashed s o = joined_disk d n q o c s e
            ∙ crash_next d n q o s t (sym (crash_answer d n q o s t) ∙ z.1) in
            let h : n ≡ 18 = eqb-true n 18 t in
            let k : cache_vars (joined d n q o c s).cache ≡ unready = ap cache_vars (cs ∙ ap (λ m. cache_next d c m q) h)
            ∙ cache_crash d c q in
            rw (k, y) (crash_to d q o c s (rw h at e)).1;
      }

  -- in upstream's own word: an accepted call is a step of BlockSystem's Next
  pub joined_next : joined_answer d n q o c s ≡ 0 → Next d (system_vars d c s) (handed_back d n q o c s) (joined_vop n q)
  joined_next e =
      let m = joined_allowed e in
      split (is_crash n)
      (λ t. let k : n ≡ 18 = eqb-true n 18 t in
      let v : joined_vop n q ≡ q.vop = rw k refl in
      (system_crash, rw v (m.crash t)))
      (λ t. let x = m.machine t in (machine_step (joined_op n q) q.reference q.node x.0, x.2))
