-- `numbering::list_of` meets its contract. Assumes nothing.
use mathlib.Core.Path.{ap}
use native.Mathlib.Omega.{arith}
use Rattle.sectortype.specs.declared.Succs.{Succs}
use Rattle.numbering.proofs.Counts.{grown}
use Rattle.smalltable.specs.Tables.{list_of}
use Rattle.numbering.proofs.list_of.Goals as goal

pub listed_if-a-requires : goal.listed_if-a-requires
listed_if-a-requires c = let e = ap (λ (s : Succs). s.count) c.zero_succs-none.ensures in omega arith

pub listed_if-b-requires : goal.listed_if-b-requires
listed_if-b-requires c =
    let e = ap (λ (s : Succs). s.count) c.zero_succs-none.ensures in
    omega (arith, grown 1 _ _ _ c.listed_if-a.ensures (omega arith))

pub listed_if-requires : goal.listed_if-requires
listed_if-requires c =
    let e = ap (λ (s : Succs). s.count) c.zero_succs-none.ensures in
    omega (arith, grown 2 _ _ _ c.listed_if-b.ensures (grown 1 _ _ _ c.listed_if-a.ensures (omega arith)))

pub returns : goal.returns
unfolding list_of
returns c = cc
