-- The two rows in their order: the tests are the definition's, by what the callees ensure of the disk and of the records
-- offered. Assumes nothing.
use Rattle.base.specs.Refusals.{answer}
use Rattle.blockdisk.specs.Crash.{disk_crash}
use Rattle.disk.proofs.Disk.crash.Goals as goal

pub returns-then-not-good : goal.returns-then-not-good
unfolding disk_crash answer
returns-then-not-good c =
    simp (rw (c.records_ok-c.ensures, c.well_formed-form.ensures) at c.if-not-good.true)

pub returns-then-not-possible : goal.returns-then-not-possible
unfolding disk_crash answer
returns-then-not-possible c =
    let e = rw (c.records_ok-c.ensures, c.well_formed-form.ensures) at c.if-not-good.false in
    let f = rw (c.records_ok-c.ensures, c.records_kept-kept.ensures) at c.if-not-possible.true in
    simp (e, f)

pub returns : goal.returns
unfolding disk_crash answer
returns c =
    let e = rw (c.records_ok-c.ensures, c.well_formed-form.ensures) at c.if-not-good.false in
    let f = rw (c.records_ok-c.ensures, c.records_kept-kept.ensures) at c.if-not-possible.false in
    simp (e, f, c.empty_queues-none.ensures)
