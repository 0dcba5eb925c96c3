-- Refused or accepted as the queue says. Assumes nothing.
use mathlib.Core.Path.{ap, refl, sym, ◌∙◌, ◌≡◌}
use borrow.Author.Rules.{rules}
use Rattle.std.specs.Prelude.{Err}
use Rattle.blockdisk.specs.Ops.{moved_outcome, table_not_stored, with_queues, with_table_reads}
use Rattle.disk.proofs.Requests.{answered_no, answered_yes}
use Rattle.disk.proofs.Disk.ack_read_indirection_table.Goals as goal

pub returns-in_err-self : goal.returns-in_err-self
unfolding table_not_stored
returns-in_err-self c =
    let r : c.from_residual.result ≡ Err c.in_err-self.field-0.0 = search rules in
    ap (λ o. moved_outcome o c.args.self.now.state c.args.self.now.state) r
    ∙ answered_no _ _ _ _ _ (rw (c.not_stored-wrong.ensures, c.same_table.ensures, c.table_at-stored.ensures, c.entry-asked.ensures) refl) (sym c.take.ensures ∙ c.in_err-self.was) refl

pub returns : goal.returns
unfolding table_not_stored
returns c =
    let s = c.args.self.now.state in
    answered_yes _ _ _ (λ q. with_queues s (with_table_reads s.queues q)) s (rw (c.not_stored-wrong.ensures, c.same_table.ensures, c.table_at-stored.ensures, c.entry-asked.ensures) refl) (sym c.take.ensures ∙ c.in_ok-self.was) refl
