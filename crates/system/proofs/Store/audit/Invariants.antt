use mathlib.Core.Path.{◌≡◌}
use Rattle.base.specs.Scan.{count_below}
use Rattle.sectortype.specs.Form.{entry_at, slot_at}
use Rattle.blockdisk.specs.Records.{read_table}
use Rattle.blocksystem.specs.Audit.{is_added, is_altered, is_lost, through_table}
use Rattle.system.proofs.Store.audit.Given as goal

abbrev pub invariant-loop-i : goal.invariant-loop-i
invariant-loop-i l =
    let x = read_table l.self.device l.records l.m.place in
    (l.a ≡ count_below (λ k. is_lost (through_table l.self.device l.records x (entry_at x.held k)) (slot_at l.m.picture k)) l.i)
    × (l.b ≡ count_below (λ k. is_added (through_table l.self.device l.records x (entry_at x.held k)) (slot_at l.m.picture k)) l.i)
    × (l.c ≡ count_below (λ k. is_altered (through_table l.self.device l.records x (entry_at x.held k)) (slot_at l.m.picture k)) l.i)
