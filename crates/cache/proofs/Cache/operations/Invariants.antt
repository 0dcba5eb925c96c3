-- After i operations the walk is `walked` at i.
use mathlib.Core.Path.{◌≡◌}
use Rattle.blockcache.specs.Walk.{walked}
use Rattle.cache.proofs.Cache.operations.Given as goal

abbrev pub invariant-loop-i : goal.invariant-loop-i
invariant-loop-i l = l.w ≡ walked l.fn.self.settings l.initial.w l.fn.list l.i
