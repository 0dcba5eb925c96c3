-- The part lies within the lent area, and is what was cut out of it. Assumes nothing.
use lib.ListN.{length}
use Rattle.journalrange.proofs.Parts.{back_fits, place_told}
use Rattle.journalarea.proofs.parts.back.Goals as goal

pub cut_out-requires : goal.cut_out-requires
cut_out-requires c =
    let args = c.args in
    rw (place_told c.back_part-part.result c.unwrap_or_default.ensures, c.back_part-part.ensures)
    (back_fits args.device (length args.area.now) args.start args.blocks)
