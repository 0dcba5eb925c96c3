-- On a device that is made by what a comparison of kinds tells, on any other no. Assumes nothing.
use Rattle.base.proofs.Tests.{split}
use Rattle.disklayout.specs.Device.{made}
use Rattle.disklayout.proofs.Devices.{device_good}
use Rattle.layout.proofs.Asked.{kind_asked}
use Rattle.layout.proofs.kinds.is_kind.Goals as goal

pub returns : goal.returns
returns c =
    let d = c.args.device in
    rw (c.eq.ensures, c.kind_of.ensures)
    (split (made d) (λ t. rw t (kind_asked _ (device_good d) c.args.loc c.args.kind)) (λ f. rw f))
