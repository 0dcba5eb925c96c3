-- A chain that counts. Assumes nothing.
use mathlib.Core.Path.{◌∙◌, ◌≡◌}
use borrow.Author.Rules.{rules}
use lib.ListN.{length}
use Rattle.std.proofs.lemmas.Iterator.{YieldsList-from_slice}
use Rattle.std.proofs.lemmas.Iterator.Consumers.{YieldsList-from_filter, count_from_yields_List}
use Rattle.std.proofs.lemmas.List.Sums.{length-filter}
use Rattle.base.proofs.Chains.{count_is_count_of}
use Rattle.base.proofs.Lists.{unmapped}
use Rattle.sectortype.specs.Form.{default_slot}
use Rattle.sector.proofs.form.count_present.Goals as goal

pub returns : goal.returns
returns c =
    let xs = c.args.slots.now in
    let l : length xs ≡ 64 = search (rules, unmapped) in
    count_from_yields_List _ _ c.count.ensures.ran
    (YieldsList-from_filter _ (λ x. x.present) (YieldsList-from_slice xs cc) (cc) (λ x b q k. search rules))
    ∙ length-filter (λ x. x.present) xs ∙ count_is_count_of (λ x. x.present) default_slot 64 xs l
