-- By what the layout tells of the part's location. Assumes nothing.
use mathlib.Core.Path.{◌∙◌, ◌≡◌, sym}
use borrow.Author.Rules.{rules}
use Rattle.std.specs.Prelude.{Err}
use Rattle.disklayout.specs.Device.{device_of}
use Rattle.disklayout.specs.Journal.{journal_back_location}
use Rattle.journalrange.specs.Parts.{untold}
use Rattle.journalrange.proofs.Told.{refused_as}
use Rattle.journalarea.proofs.parts.back_part.Goals as goal

pub returns-in_err-location : goal.returns-in_err-location
returns-in_err-location c =
    let args = c.args in
    let refused : c.from_residual.result ≡ Err (untold c.in_err-location.field-0.0) = search rules in
    let e = sym c.journal_back_location.ensures ∙ c.in_err-location.was in
    refused ∙ refused_as _ _ _ (journal_back_location (device_of args.device) args.start args.blocks) _ _ _ e (λ f. f)
