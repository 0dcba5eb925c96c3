-- By what the library's own call ensures. Assumes nothing.
use mathlib.Core.Path.{◌∙◌, ap}
use Rattle.std.proofs.Common.{rules, of_calls}
use Rattle.disklayout.specs.Device.{device_of}
use Rattle.disklayout.specs.Journal.{journal_front_location, journal_front_requires}
use Rattle.journalrange.specs.Parts.{part_number}
use Rattle.journalrange.proofs.Parts.{number_of, number_told}
use Rattle.kiosk.proofs.layout_front_result.Goals as goal

pub returns : goal.returns
returns c =
    let args = c.args in
    let device = device_of args.device in
    number_of c.front_part.result
    (λ p e. let h = rw e at c.map_or_else.ensures in search (rules, of_calls, h))
    (λ r e. let h = rw e at c.map_or_else.ensures in search (rules, of_calls, h))
    ∙ ap part_number c.front_part.ensures
    ∙ number_told args.device (journal_front_requires device args.start) args.bytes
    (journal_front_location device args.start args.blocks)
