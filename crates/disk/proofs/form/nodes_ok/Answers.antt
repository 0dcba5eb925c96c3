-- One scan keeps both flags and the running address (`running_addr`, on the device). Assumes nothing.
use mathlib.Core.Path.{ap}
use Rattle.base.proofs.Scan.{all_end, all_none, all_turn}
use Rattle.blockdisk.specs.Form.{nodes_checked}
use Rattle.disklayout.proofs.RunningAddr.{walk_first, walk_next, walk_fits}
use Rattle.disk.proofs.form.nodes_ok.Goals as goal

pub loop-r-init : goal.loop-r-init
loop-r-init c = (walk_first c.args.device c.first_node_addr.ensures c.unwrap_or-at.ensures, all_none _, all_none _)

pub overflow_add-at : goal.overflow_add-at
overflow_add-at c =
    record {
      fits = walk_fits c.args.device c.node_block_size.ensures c.unwrap_or-size.ensures c.loop-r.r-index c.loop-r.invariant.0 c.loop-r-test.true;
    }

pub loop-r-preserved : goal.loop-r-preserved
loop-r-preserved c =
    let v = c.loop-r.invariant in
    let e = c.node_record_ok-c.ensures _ c.loop-r-test.true v.0 in
    let device = c.args.device in (
      walk_next device c.node_block_size.ensures c.unwrap_or-size.ensures c.loop-r.r-index v.0,
      all_turn _ _ v.1 (ap (λ x. x.form) e),
      all_turn _ _ v.2 (ap (λ x. x.placed) e),
    )

pub returns : goal.returns
unfolding nodes_checked
returns c =
    let v = c.loop-r.invariant in
    let end = c.loop-r.auto.r-index-end in
    let past = c.loop-r-test.false in
    simp (all_end _ v.1 end past, all_end _ v.2 end past)
