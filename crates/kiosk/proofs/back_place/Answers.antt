-- By what the library's own call ensures. Assumes nothing.
use mathlib.Core.Path.{◌∙◌, ap}
use Rattle.journalrange.specs.Parts.{place_of}
use Rattle.journalrange.proofs.Parts.{place_told}
use Rattle.kiosk.proofs.back_place.Goals as goal

pub returns : goal.returns
returns c = place_told c.back_part.result c.unwrap_or_default.ensures ∙ ap place_of c.back_part.ensures
