-- The definition's test, by what the callees ensure of the disk's parts. Assumes nothing.
use Rattle.blockdisk.specs.Form.{disk_form}
use Rattle.disk.proofs.Disk.well_formed.Goals as goal

pub returns : goal.returns
unfolding disk_form
returns c = simp (c.disk_ok.ensures, c.queues_ok-waiting.ensures, c.records_ok-stored.ensures)
