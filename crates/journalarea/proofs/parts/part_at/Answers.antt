-- By the journal's length, which the layout tells of a device that is made. Assumes nothing.
use mathlib.Core.Path.{◌∙◌, ◌≡◌, ap, sym}
use borrow.Author.Rules.{rules}
use mathlib.Core.Option.{none, some}
use Rattle.std.specs.Prelude.{Err}
use Rattle.disklayout.proofs.Results.{made_told}
use Rattle.journalrange.specs.Parts.{located, part_at, untold}
use Rattle.journalrange.proofs.Told.{other_as, part_as, refused_as}
use Rattle.journalarea.proofs.parts.part_at.Goals as goal

pub returns-in_err-length : goal.returns-in_err-length
returns-in_err-length c =
    let refused : c.from_residual.result ≡ Err (untold c.in_err-length.field-0.0) = search rules in
    refused ∙ refused_as _ _ _ (located c.args.location) _ _ _ (sym c.journal_length.ensures ∙ c.in_err-length.was) (λ f. rw f)

pub returns-then-bytes-length : goal.returns-then-bytes-length
returns-then-bytes-length c = other_as _ _ (located c.args.location) (sym c.journal_length.ensures ∙ c.in_ok-length.was) c.if-bytes-length.true

pub returns-in_default : goal.returns-in_default
returns-in_default c =
    let told = sym c.journal_length.ensures ∙ c.in_ok-length.was in
    let empty : c.default.result ≡ part_at none = search rules in
    rw (empty, c.in_default.is) (part_as _ _ none told c.if-bytes-length.false)

pub overflow_sub-result : goal.overflow_sub-result
overflow_sub-result c =
    let start = made_told _ _ (sym c.journal_start_addr.ensures ∙ c.in_ok-journal_start_addr.was) in
    rw start.1 (c.requires c.in-Some.loc (ap located c.in-Some.is))

pub returns : goal.returns
returns c =
    let told = sym c.journal_length.ensures ∙ c.in_ok-length.was in
    let start = made_told _ _ (sym c.journal_start_addr.ensures ∙ c.in_ok-journal_start_addr.was) in
    rw (start.1, c.in-Some.is) (part_as _ _ (some c.in-Some.loc) told c.if-bytes-length.false)
