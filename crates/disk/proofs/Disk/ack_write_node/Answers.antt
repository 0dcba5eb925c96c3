-- Refused or accepted as the queue says. Assumes nothing.
use mathlib.Core.Path.{ap, refl, sym, ◌∙◌, ◌≡◌}
use borrow.Author.Rules.{rules}
use Rattle.std.specs.Prelude.{Err}
use Rattle.blockdisk.specs.Ops.{moved_outcome, with_node_writes, with_queues}
use Rattle.disk.proofs.Requests.{answered_no, answered_yes}
use Rattle.disk.proofs.Disk.ack_write_node.Goals as goal

pub returns-in_err-self : goal.returns-in_err-self
returns-in_err-self c =
    let r : c.from_residual.result ≡ Err c.in_err-self.field-0.0 = search rules in
    ap (λ o. moved_outcome o c.args.self.now.state c.args.self.now.state) r
    ∙ answered_no _ _ _ _ _ (refl) (sym c.take.ensures ∙ c.in_err-self.was) refl

pub returns : goal.returns
returns c =
    let s = c.args.self.now.state in
    answered_yes _ _ _ (λ q. with_queues s (with_node_writes s.queues q)) s (refl) (sym c.take.ensures ∙ c.in_ok-self.was) refl
