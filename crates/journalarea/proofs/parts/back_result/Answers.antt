-- By what the callee ensures of the part. Assumes nothing.
use mathlib.Core.Path.{◌∙◌, ap}
use lib.ListN.{length}
use Rattle.std.proofs.Common.{rules, of_calls}
use Rattle.disklayout.specs.Device.{device_of}
use Rattle.disklayout.specs.Journal.{journal_back_location, journal_back_requires}
use Rattle.journalrange.specs.Parts.{part_number}
use Rattle.journalrange.proofs.Parts.{number_of, number_told}
use Rattle.journalarea.proofs.parts.back_result.Goals as goal

pub returns : goal.returns
returns c =
    let args = c.args in
    let device = device_of args.device in
    number_of c.back_part.result
    (λ p e. let h = rw e at c.map_or_else.ensures in search (rules, of_calls, h))
    (λ r e. let h = rw e at c.map_or_else.ensures in search (rules, of_calls, h))
    ∙ ap part_number c.back_part.ensures
    ∙ number_told args.device (journal_back_requires device args.start args.blocks) (length args.area.now)
    (journal_back_location device args.start args.blocks)
