-- A chain over the two arrays side by side. Assumes nothing.
use mathlib.Core.Path.{◌∙◌, ◌≡◌}
use borrow.Author.Rules.{rules}
use lib.ListN.{length}
use Rattle.std.proofs.lemmas.Iterator.{YieldsList-from_slice, YieldsList-from_zip}
use Rattle.std.proofs.lemmas.Iterator.Search.{all_from_yields_List}
use Rattle.blockdisk.specs.declared.Record.{Record}
use Rattle.sectortype.specs.declared.Node.{Node}
use Rattle.blockdisk.specs.Crash.{kept_node}
use Rattle.disk.proofs.Chains.{nodes_kept_all}
use Rattle.disk.proofs.crashing.nodes_kept.Goals as goal

pub returns : goal.returns
returns c =
    let old : length c.args.old ≡ 128 = search rules in
    let new : length c.args.new ≡ 128 = search rules in
    let e =
    all_from_yields_List (λ (w : Record Node × Record Node). kept_node c.args.q w.0 w.1) c.all.new.self _ _ c.all.ensures.ran
    (YieldsList-from_zip {s = c.zip.result} (YieldsList-from_slice c.args.old cc) (YieldsList-from_slice c.args.new cc)) (λ x b q k. search rules) in
    e ∙ nodes_kept_all c.args.q c.args.old c.args.new old new
