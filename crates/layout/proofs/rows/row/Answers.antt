-- The constant table is the definition's, entry by entry. Assumes nothing.
use native.Mathlib.Omega.{arith}
use borrow.Author.Tests.{le-leb}
use Rattle.disklayout.specs.Device.{devices}
use Rattle.disklayout.proofs.Devices.{row_within}
use Rattle.layout.proofs.rows.row.Goals as goal

pub returns : goal.returns
unfolding devices
returns c =
    (le-leb c.args.device 2 (omega arith), row_within c.args.device (record { journal = 0; table = 0; block = 0; first = 0 }) (omega arith))
