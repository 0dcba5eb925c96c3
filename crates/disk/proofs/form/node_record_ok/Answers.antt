-- Present: its address is that of whichever block begins there, and its length is asked. Absent: zeros. Assumes nothing.
use mathlib.Core.Bool.{and-true}
use Rattle.blockdisk.specs.Form.{node_record_checked}
use Rattle.disklayout.proofs.RunningAddr.{place_on}
use Rattle.disk.proofs.form.node_record_ok.Goals as goal

pub returns-then-r : goal.returns-then-r
unfolding node_record_checked
returns-then-r c = λ k h e.
    let a = c.args in
    simp (c.if-r.true, and-true, place_on a.device k a.r.now.loc h e c.node_place_length.ensures c.unwrap_or-may.ensures, c.node_form-form.ensures)

pub returns : goal.returns
unfolding node_record_checked
returns c = λ k h e. simp (c.if-r.false, c.loc_zero.ensures, c.node_zero.ensures, c.node_form-form.ensures)
