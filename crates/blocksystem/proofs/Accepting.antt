-- What a refused joined call hands back; what it is for one to be accepted, and the cache and disk that it hands back then. Assumes
-- nothing.
use Prim.Native.Nat.{ℕ}
use mathlib.Core.Bool.{cond, false, true}
use mathlib.Core.Logic.{◌↔◌}
use mathlib.Core.Option.{some}
use mathlib.Core.Path.{◌∙◌, ◌≡◌, ap, sym}
use borrow.Author.Tests.{eq-eqb, ne_eqb}
use lib.Dec.{eqb}
use Rattle.base.proofs.Refusals.{lowest_zero}
use Rattle.base.proofs.Tests.{never, split}
use Rattle.base.specs.Refusals.{answer, lowest}
use Rattle.blockcache.proofs.Outcomes.{step_answer, step_taken}
use Rattle.blockcache.specs.Step.{cache_next, cache_rows, cache_step}
use Rattle.blockcache.specs.Steps.{is_crash}
use Rattle.blockcache.specs.declared.CacheOutcome.{CacheOutcome}
use Rattle.blockcache.specs.declared.CacheState.{CacheState}
use Rattle.blockcache.specs.declared.Call.{Call}
use Rattle.blockdisk.proofs.Crashing.{crash_form_kept, crash_keeps_node, crash_keeps_table}
use Rattle.blockdisk.proofs.Kept.{disk_form_kept}
use Rattle.blockdisk.proofs.Outstanding.{places_none}
use Rattle.blockdisk.proofs.Reading.{upstream_of, upstream_some}
use Rattle.blockdisk.specs.Crash.{crash_rows, crashed, disk_crash}
use Rattle.blockdisk.specs.Form.{disk_form}
use Rattle.blockdisk.specs.Ops.{disk_rows, disk_step, next_disk}
use Rattle.blockdisk.specs.Upstream.{disk_vars, places}
use Rattle.blockdisk.specs.declared.DiskState.{DiskState}
use Rattle.blockdisk.specs.declared.Records.{Records}
use Rattle.queue.specs.Queue.{empty_requests}
use Rattle.sectortype.specs.Form.{zero_node}
use Rattle.blocksystem.proofs.Invariant.{NoneQueued}
use Rattle.blocksystem.proofs.KeepQueues.{Survives}
use Rattle.blocksystem.specs.Joined.{disk_asked, disk_call, joined, joined_answer, settings_of, start_rows}

-- REFUSED

-- whichever of the two refuses, neither cache nor disk moves, and the node is zeros
pub record Unmoved (d : ℕ) (n : ℕ) (q : Call) (o : Records) (c : CacheState) (s : DiskState) : Type 0 where
  pub cache : (joined d n q o c s).cache ≡ c
  pub disk : (joined d n q o c s).disk ≡ s
  pub node : (joined d n q o c s).node ≡ zero_node

pub refused_unmoved : (d : ℕ) (n : ℕ) (q : Call) (o : Records) (c : CacheState) (s : DiskState) → ((joined d n q o c s).answer ≡ 0 → ⊥) →
    Unmoved d n q o c s
unfolding joined
refused_unmoved d n q o c s ne =
    record { cache = stays x.cache c; disk = stays (disk_asked d n q o s).disk s; node = stays x.node zero_node }
  where
    x : CacheOutcome
    x = cache_step (settings_of d s) c n q

    stays : {A : Type 0} (next before : A) → cond (eqb (joined_answer d n q o c s) 0) next before ≡ before
    stays next before = rw (ne_eqb (joined_answer d n q o c s) 0 ne)

-- THE DISK'S HALF

module _ (d : ℕ) (n : ℕ) (q : Call) (o : Records) (s : DiskState) where
  module _ (e : is_crash n ≡ false) where
    pub disk_answer : (disk_asked d n q o s).answer ≡ answer (disk_rows d s (disk_call n q))
    unfolding disk_asked disk_step
    disk_answer = rw e

    pub disk_next : answer (disk_rows d s (disk_call n q)) ≡ 0 →
        (disk_asked d n q o s).disk ≡ next_disk d s (disk_call n q).op q.node q.table
    unfolding disk_asked disk_step
    disk_next z = rw (e, eq-eqb _ _ z)

  module _ (e : is_crash n ≡ true) where
    pub crash_answer : (disk_asked d n q o s).answer ≡ answer (crash_rows d s o)
    unfolding disk_asked disk_crash
    crash_answer = rw e

    pub crash_next : answer (crash_rows d s o) ≡ 0 → (disk_asked d n q o s).disk ≡ crashed s o
    unfolding disk_asked disk_crash
    crash_next z = rw (e, eq-eqb _ _ z)

-- nothing is outstanding in an empty queue
pub none_queued : NoneQueued (places empty_requests)
none_queued id k h = never (rw places_none at h)

-- a crash leaves what no write was outstanding for
pub survives : (d : ℕ) (s : DiskState) (o : Records) → answer (crash_rows d s o) ≡ 0 → Survives (disk_vars d s) (disk_vars d (crashed s o))
survives d s o e =
    record {
      idle = record { no_table_reads = none_queued; no_node_reads = none_queued; no_table_writes = none_queued; no_node_writes = none_queued };
      tables = λ k t h free.
          let x = upstream_some d s.records k h in
          upstream_of d o k x.0 (crash_keeps_table d s o e k x.0 x.1 free) ∙ ap some x.2;
      nodes = λ k n h free. crash_keeps_node d s o e k n h free;
    }

-- BOTH

module _ (d : ℕ) (n : ℕ) (q : Call) (o : Records) (c : CacheState) (s : DiskState) where
  -- accepted exactly where cache, disk and the row of a start accept
  pub joined_zero : (joined_answer d n q o c s ≡ 0) ↔
      ((answer (cache_rows (settings_of d s) c n q) ≡ 0) × ((disk_asked d n q o s).answer ≡ 0) × (answer (start_rows d n q s) ≡ 0))
  unfolding joined_answer
  joined_zero =
      let a = (cache_step (settings_of d s) c n q).answer in
      let b = (disk_asked d n q o s).answer in
      let z = answer (start_rows d n q s) in (
        (λ e. let h = (lowest_zero (lowest a b) z).0 e in let g = (lowest_zero a b).0 h.0 in
            (sym (step_answer (settings_of d s) c n q) ∙ g.0, g.1, h.1)),
        (λ h. (lowest_zero (lowest a b) z).1 ((lowest_zero a b).1 (step_answer (settings_of d s) c n q ∙ h.0, h.1), h.2)),
      )

  module _ (e : joined_answer d n q o c s ≡ 0) where
    pub joined_cache : (joined d n q o c s).cache ≡ cache_next d c n q
    unfolding joined
    joined_cache = rw (eq-eqb _ _ e) (step_taken (settings_of d s) c n q (joined_zero.0 e).0)

    pub joined_disk : (joined d n q o c s).disk ≡ (disk_asked d n q o s).disk
    unfolding joined
    joined_disk = rw (eq-eqb _ _ e)

    pub joined_node : (joined d n q o c s).node ≡ (cache_step (settings_of d s) c n q).node
    unfolding joined
    joined_node = rw (eq-eqb _ _ e)

-- and the disk that an accepted call hands back is in its written form
pub joined_disk_form : (d : ℕ) (n : ℕ) (q : Call) (o : Records) (c : CacheState) (s : DiskState) → joined_answer d n q o c s ≡ 0 →
    disk_form d (joined d n q o c s).disk ≡ true
joined_disk_form d n q o c s e =
    let z = ((joined_zero d n q o c s).0 e).1 in
    rw (joined_disk d n q o c s e)
    (split (is_crash n)
    (λ t. let a = sym (crash_answer d n q o s t) ∙ z in rw (crash_next d n q o s t a) (crash_form_kept d s o a))
    (λ t. let a = sym (disk_answer d n q o s t) ∙ z in rw (disk_next d n q o s t a) (disk_form_kept d s (disk_call n q) a)))
