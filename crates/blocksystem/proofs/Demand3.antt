-- DEMAND 3, and all else that is promised of a list: along every list of joined calls, crashes between any two included, from a newly
-- formatted device, each call is answered as documents 01 and 02 fix, no accepted read differs from the working picture, and afterwards a
-- place is named, no reference is lost, added or altered at any named place, no start there is refused with 20, no name was set over
-- another, the cache in Ready agrees with the working picture, the disk has its rule still, under rule 2 a frozen place stayed named
-- until a clean-up or a start was accepted, the cache's marks are right, each block that stayed free was given in time, and no wait is
-- for ever. The rule is a variable throughout. Of the list it is asked that each accepted start is given a place then named
-- (`starts_named`), and nothing else.
use Prim.Native.Nat.{ℕ}
use mathlib.Core.Bool.{true}
use mathlib.Core.List.{List}
use mathlib.Core.Logic.{⊎_elim}
use mathlib.Core.Path.{◌≡◌, refl}
use Rattle.blockdisk.specs.Form.{is_rule}
use Rattle.disklayout.specs.Device.{made}
use Rattle.sectortype.specs.declared.Contents.{Contents}
use Rattle.blocksystem.proofs.Answering.{all_answered}
use Rattle.blocksystem.proofs.Counting.{none_counted_lem}
use Rattle.blocksystem.proofs.Formatted.{formatted_holds, start_rule}
use Rattle.blocksystem.proofs.Frozen.{frozen_stays, run_keeps_rule}
use Rattle.blocksystem.proofs.Invariant.{Invariant}
use Rattle.blocksystem.proofs.Keep.{run_keeps}
use Rattle.blocksystem.proofs.Naming.{none_of_iff, nothing_lost_iff}
use Rattle.blocksystem.proofs.Restart.{starts_whole}
use Rattle.blocksystem.proofs.Screen.{none_differ, ready_shown}
use Rattle.blocksystem.proofs.Fairness.{block_usable, fairness, lowest_after_load}
use Rattle.blocksystem.proofs.TwoNames.{two_names}
use Rattle.blocksystem.proofs.Waits.{waits_end}
use Rattle.blocksystem.specs.Audit.{counted}
use Rattle.blocksystem.specs.Frozen.{FrozenStays}
use Rattle.blocksystem.specs.Promise.{Promised}
use Rattle.blocksystem.specs.Run.{JoinedCall, State, after, NothingLost, start, starts_named}

-- where the invariant holds, nothing is lost, added or altered
pub holds_nothing_lost : (d : ℕ) (s : State) → Invariant d s → NothingLost d s
holds_nothing_lost d s v =
    let first = s.pictures.first in
    let second = s.pictures.second in
    (nothing_lost_iff d s).1
    (λ m which there.
    (none_of_iff (counted d s.disk.records m)).0
    (⊎_elim (λ (i : m ≡ first). rw i (none_counted_lem d s.disk first v.whole.first v.pictures_form.first))
    (λ (i : m ≡ second).
    let kept = v.whole.second second.place (rw (← i, there)) in
    rw i (none_counted_lem d s.disk second kept v.pictures_form.second))
    which))

pub nothing_lost : (d r : ℕ) → made d ≡ true → is_rule r ≡ true → (x : Contents) (calls : List JoinedCall) →
    starts_named d (start d x r) calls ≡ true → Promised d (start d x r) calls
nothing_lost d r on rule x calls n =
    let s = start d x r in
    let at_first = formatted_holds d x on r rule in
    let v = run_keeps d calls s at_first n in
    record {
      answered = all_answered d calls s;
      kept = holds_nothing_lost d (after d s calls) v;
      named = v.first_named;
      starts = starts_whole d (after d s calls) v;
      two_names = two_names d calls s at_first n;
      reads = none_differ d calls s at_first n;
      shown = ready_shown d (after d s calls) v;
      rule = run_keeps_rule d calls s;
      frozen = frozen_stays d calls s at_first n;
      form = v.cache_form_lem;
      fair = fairness d calls s at_first.cache_form_lem;
      loaded = lowest_after_load d (after d s calls);
      usable = block_usable d (after d s calls);
      waits = waits_end d (after d s calls) v;
    }

-- and so, on a device formatted under rule 2, a frozen place stays named until a clean-up or a start is accepted
pub frozen_place_stays : (d : ℕ) → made d ≡ true → (x : Contents) (calls : List JoinedCall) → starts_named d (start d x 2) calls ≡ true →
    FrozenStays d (start d x 2) calls
frozen_place_stays d on x calls n = (nothing_lost d 2 on refl x calls n).frozen (start_rule d x on 2 refl)
