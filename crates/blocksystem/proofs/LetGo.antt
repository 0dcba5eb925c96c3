-- Step 19 of the joined store, in demand 2's manner: accepted exactly where the cache's law and upstream's disk allow it and no narrowing refuses it, and
-- then the cache and disk handed back are such a state. For any device, call, offered records, cache and disk. Assumes nothing.
use Prim.Native.Nat.{ℕ}
use mathlib.Core.Bool.{false}
use mathlib.Core.Logic.{◌↔◌}
use mathlib.Core.Path.{◌∙◌, ◌≡◌, refl, sym}
use Rattle.base.proofs.Tests.{clash, or_iff}
use Rattle.base.specs.Refusals.{answer}
use Rattle.blockcache.proofs.LetGo.{let_go_accepted, let_go_next}
use Rattle.blockcache.specs.Narrowings.{narrowed}
use Rattle.blockcache.specs.Step.{outside_limits}
use Rattle.blockcache.specs.Steps.{step_of, steps}
use Rattle.blockcache.specs.declared.CacheState.{CacheState}
use Rattle.blockcache.specs.declared.Call.{Call}
use Rattle.blockdisk.proofs.Demand2.{disk_accepted, disk_allowed}
use Rattle.blockdisk.specs.Ops.{disk_rows}
use Rattle.blockdisk.specs.declared.DiskState.{DiskState}
use Rattle.blockdisk.specs.declared.Records.{Records}
use Rattle.blocksystem.proofs.Accepting.{disk_answer, disk_next, joined_cache, joined_disk, joined_zero}
use Rattle.blocksystem.specs.Allowed.{NoNarrowing, SystemLetsGo, handed_back}
use Rattle.blocksystem.specs.Joined.{disk_call, joined_answer, settings_of}
use Rattle.blocksystem.specs.Upstream.{Variables}

module _ (d : ℕ) (q : Call) (o : Records) (c : CacheState) (s : DiskState) where
  disk_zero : joined_answer d 19 q o c s ≡ 0 → answer (disk_rows d s (disk_call 19 q)) ≡ 0
  disk_zero e = sym (disk_answer d 19 q o s refl) ∙ ((joined_zero d 19 q o c s).0 e).1

  -- the cache and disk handed back
  pub joined_let_go_next : joined_answer d 19 q o c s ≡ 0 → SystemLetsGo d q c s (handed_back d 19 q o c s)
  joined_let_go_next e =
      let z = (joined_zero d 19 q o c s).0 e in
      let b = disk_zero e in
      record {
        machine = rw (joined_cache d 19 q o c s e) (let_go_next (settings_of d s) c q z.0);
        disk = rw (joined_disk d 19 q o c s e ∙ disk_next d 19 q o s refl b) (disk_allowed d s (disk_call 19 q) b);
      }

  pub joined_let_go : (joined_answer d 19 q o c s ≡ 0) ↔ (NoNarrowing d 19 q o c s × ((s' : Variables) × SystemLetsGo d q c s s'))
  unfolding narrowed step_of steps answer
  joined_let_go = (
    (λ e. let z = (joined_zero d 19 q o c s).0 e in (
      record {
        cache = (or_iff (outside_limits (settings_of d s) c 19 q) false).1 (((let_go_accepted (settings_of d s) c q).0 z.0).0, refl);
        disk = λ ne. ((disk_accepted d s (disk_call 19 q)).0 (disk_zero e)).0;
        crash = λ t. clash t refl;
      },
      (handed_back d 19 q o c s, joined_let_go_next e),
    )),
    (λ (n, (s', g)). (joined_zero d 19 q o c s).1 (
      (let_go_accepted (settings_of d s) c q).1
          (((or_iff (outside_limits (settings_of d s) c 19 q) false).0 n.cache).0, (s'.machine, g.machine)),
      disk_answer d 19 q o s refl ∙ (disk_accepted d s (disk_call 19 q)).1 (n.disk refl, (s'.disk, g.disk)),
      refl,
    )),
  )
