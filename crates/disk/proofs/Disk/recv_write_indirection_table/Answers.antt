-- Refused or accepted as the queue says. Assumes nothing.
use mathlib.Core.Path.{ap, refl, sym, ◌∙◌, ◌≡◌}
use borrow.Author.Rules.{rules}
use Rattle.std.specs.Prelude.{Err}
use Rattle.blockdisk.specs.Ops.{moved_outcome, with_queues, with_records, with_table_writes}
use Rattle.blockdisk.specs.Records.{with_table}
use Rattle.disk.proofs.Requests.{asked_no, asked_yes}
use Rattle.disk.proofs.Disk.recv_write_indirection_table.Goals as goal

pub returns-in_err-self : goal.returns-in_err-self
returns-in_err-self c =
    let r : c.from_residual.result ≡ Err c.in_err-self.field-0.0 = search rules in
    ap (λ o. moved_outcome o c.args.self.now.state c.args.self.now.state) r
    ∙ asked_no _ _ _ _ _ _ (c.table_allowed-allowed.ensures) (sym c.ask.ensures ∙ c.in_err-self.was) refl

pub returns : goal.returns
returns c =
    let s = c.args.self.now.state in
    asked_yes _ _ _ _ (λ q. with_records (with_queues s (with_table_writes s.queues q)) (with_table c.args.self.now.device s.records c.args.loc c.args.table)) s (c.table_allowed-allowed.ensures) (sym c.ask.ensures ∙ c.in_ok-self.was) (ap (λ r. record { records = r; queues = with_table_writes s.queues c.in_ok-self.field-0; rule = s.rule }) c.with_table-self.ensures)
