-- Arm by arm, what the step's method ensures; the rest is no step's number. Assumes nothing.
use mathlib.Core.Path.{◌≡◌}
use borrow.Author.Rules.{rules}
use Rattle.base.specs.Refusals.{answer}
use Rattle.blockcache.proofs.Numbers.{no_step}
use Rattle.blockcache.specs.Step.{dispatched, past_gate, settled_outcome}
use Rattle.blockcache.specs.Steps.{step_of, steps}
use Rattle.cache.proofs.Cache.dispatch.Goals as goal
use Rattle.cache.proofs.Cache.dispatch.Goals.{in-1, in-2, in-3, in-4, in-5, in-6, in-7, in-8, in-9, in-10}
use Rattle.cache.proofs.Cache.dispatch.Goals.{in-11, in-12, in-13, in-14, in-15, in-16, in-18, in-19, in-20, in_default}

pub returns : goal.returns
unfolding step_of steps past_gate answer
returns c =
    let s = c.args.self.state in
    let g = c.args.self.settings in
    let next : settled_outcome c.match-number.next s ≡ dispatched g s c.args.q.call (step_of c.args.number) = elim c.match-number.branch [
      | in-1 w ↦ rw (w.next-is, w.in-1.is) w.write_back_node_req-next.ensures
      | in-2 w ↦ rw (w.next-is, w.in-2.is) w.write_back_node_resp-next.ensures
      | in-3 w ↦ rw (w.next-is, w.in-3.is) w.write_back_indirection_table_req-next.ensures
      | in-4 w ↦ rw (w.next-is, w.in-4.is) w.write_back_indirection_table_resp-next.ensures
      | in-5 w ↦ rw (w.next-is, w.in-5.is) w.unalloc-next.ensures
      | in-6 w ↦ rw (w.next-is, w.in-6.is) w.page_in_node_req-next.ensures
      | in-7 w ↦ rw (w.next-is, w.in-7.is) w.page_in_node_resp-next.ensures
      | in-8 w ↦ rw (w.next-is, w.in-8.is) w.page_in_indirection_table_req-next.ensures
      | in-9 w ↦ rw (w.next-is, w.in-9.is) w.page_in_indirection_table_resp-next.ensures
      | in-10 w ↦ rw (w.next-is, w.in-10.is) w.receive_loc-next.ensures
      | in-11 w ↦ rw (w.next-is, w.in-11.is) w.evict-next.ensures
      | in-12 w ↦ rw (w.next-is, w.in-12.is) w.freeze-next.ensures
      | in-13 w ↦ rw (w.next-is, w.in-13.is) w.clean_up-next.ensures
      | in-14 w ↦ rw (w.next-is, w.in-14.is) w.no_op-next.ensures
      | in-15 w ↦ rw (w.next-is, w.in-15.is) w.dirty-next.ensures
      | in-16 w ↦ rw (w.next-is, w.in-16.is) w.alloc-next.ensures
      | in-18 w ↦ rw (w.next-is, w.in-18.is) w.crash-next.ensures
      | in-19 w ↦ rw (w.next-is, w.in-19.is) w.let_go-next.ensures
      | in-20 w ↦ rw (w.next-is, w.in-20.is)
      | in_default w ↦ rw (w.next-is, no_step c.args.number (search rules))
    ] in
    rw c.settled.ensures next
