use mathlib.Core.Bool.{◌&&◌, false}
use mathlib.Core.Path.{◌≡◌}
use Rattle.base.specs.Scan.{some_below}
use Rattle.blockcache.specs.Scan.{list_names, names_at}
use Rattle.sectortype.specs.Form.{entry_at, succ_at}
use Rattle.cache.proofs.scan.has_predecessor.Given as goal

abbrev pub invariant-loop-j : goal.invariant-loop-j
invariant-loop-j l = (l.hit ≡ false) × (false ≡ some_below (λ k. l.e.allocated && names_at l.e.succs.count k (succ_at l.e.succs k) l.r) l.j)

abbrev pub invariant-search : goal.invariant-search
invariant-search l = (l.hit ≡ false) × (false ≡ some_below (λ k. list_names (entry_at l.fn.t k) l.r) l.e-index)
