-- The marks and the block given last, step by step: one split over the steps for each of these laws. Assumes nothing.
use Prim.Native.Nat.{ℕ}
use mathlib.Core.Bool.{false, true}
use mathlib.Core.Path.{◌∙◌, ◌≡◌, refl}
use native.Mathlib.Omega.{arith}
use Rattle.base.proofs.Refusals.{Clear}
use Rattle.base.proofs.Tests.{clash, or_iff, split}
use Rattle.blockcache.proofs.FormLaws.{empty_cache_form, received_form}
use Rattle.blockcache.proofs.Forms.{LastForm, WellFormed}
use Rattle.blockcache.proofs.MarkLaws.{marks_of_held, none_marked, right_marks, unlocated_holds}
use Rattle.blockcache.specs.Form.{is_ready, not_waiting}
use Rattle.blockcache.specs.Marks.{marks_of}
use Rattle.blockcache.specs.Next.{marks_renewed, step_next, unlocated, with_awaited, with_reads}
use Rattle.blockcache.specs.Ops.{dop_id, is_d, node_read_resp, vop_loc}
use Rattle.blockcache.specs.Rows.{own_rows}
use Rattle.blockcache.specs.Scan.{held_in}
use Rattle.blockcache.specs.Steps.{alloc_step, clean_up_step, crash_step, dirty_step, evict_step, freeze_step, is_load, let_go_step}
use Rattle.blockcache.specs.Steps.{no_op_step, number_of, page_in_indirection_table_req_step, page_in_indirection_table_resp_step}
use Rattle.blockcache.specs.Steps.{page_in_node_req_step, page_in_node_resp_step, read_step, receive_loc_step, relocates, Step}
use Rattle.blockcache.specs.Steps.{transaction_step, unalloc_step, write_back_indirection_table_req_step}
use Rattle.blockcache.specs.Steps.{write_back_indirection_table_resp_step, write_back_node_req_step, write_back_node_resp_step}
use Rattle.blockcache.specs.declared.CacheState.{CacheState}
use Rattle.blockcache.specs.declared.Call.{Call}
use Rattle.blockcache.specs.declared.Settings.{Settings}
use Rattle.queue.specs.Queue.{remove_of}
use Rattle.queue.specs.declared.Requests.{Requests}
use Rattle.sectortype.proofs.Forms.{located_allocated}
use Rattle.sectortype.specs.Form.{entry_at, slot_at}
use Rattle.sectortype.specs.declared.Table.{Table}

module _ (g : Settings) (c : CacheState) (q : Call) (w : WellFormed g c q) where
  abbrev r : ℕ
  r = q.reference

  abbrev table : Table
  table = c.tables.ephemeral

  abbrev writing : Requests
  writing = c.outstanding.writes

  last_kept : LastForm c.phase c.blocks.last
  last_kept = w.blocks.last

  -- the block given last: 127 after a load, as before it where the phase stays
  pub next_last : (step : Step) → LastForm (step_next c q step).phase (step_next c q step).blocks.last
  next_last write_back_node_req_step = last_kept
  next_last write_back_node_resp_step = last_kept
  next_last write_back_indirection_table_req_step = last_kept
  next_last write_back_indirection_table_resp_step = last_kept
  next_last unalloc_step = last_kept
  next_last page_in_node_req_step = last_kept
  next_last page_in_node_resp_step = last_kept
  next_last page_in_indirection_table_req_step = last_kept
  next_last page_in_indirection_table_resp_step = record { small = omega arith; zero = λ n. clash refl n }
  next_last receive_loc_step = record { small = omega arith; zero = λ n. refl }
  next_last evict_step = last_kept
  next_last freeze_step = last_kept
  next_last clean_up_step = last_kept
  next_last no_op_step = last_kept
  next_last dirty_step = last_kept
  next_last alloc_step = last_kept
  next_last read_step = last_kept
  next_last crash_step = record { small = omega arith; zero = λ n. refl }
  next_last let_go_step = split (is_d node_read_resp q.dop) (λ t. rw t last_kept) (λ t. rw t last_kept)
  next_last transaction_step = last_kept

  -- THE MARKS: a step that moves no location and no outstanding write, or leaves none, leaves them right

  -- Alloc sets a reference that had no location and gets none
  alloc_marks : Clear (own_rows g c q alloc_step) →
      (step_next c q alloc_step).blocks.marks ≡ marks_of g.device (step_next c q alloc_step).tables writing
  unfolding held_in
  alloc_marks k =
      let a : (entry_at table r).allocated ≡ false = ((or_iff (slot_at c.nodes r).present (entry_at table r).allocated).0 k.0).1 in
      let l : (entry_at table r).located ≡ false = split (entry_at table r).located
      (λ t. clash (located_allocated table w.form.tables.ephemeral r t) a) (λ t. t) in
      w.blocks.marks ∙ marks_of_held g.device c.tables (step_next c q alloc_step).tables writing writing
      (λ x. rw (unlocated_holds table r (unlocated q.node.succs) x w.form.tables.ephemeral w.call.reference refl l))

  pub marks_stay : (step : Step) → relocates (number_of step) ≡ false → Clear (own_rows g c q step) →
      marks_renewed g.device (step_next c q step) ≡ step_next c q step
  marks_stay write_back_node_req_step n k = clash refl n
  marks_stay write_back_node_resp_step n k = clash refl n
  marks_stay write_back_indirection_table_req_step n k =
      right_marks g.device (step_next c q write_back_indirection_table_req_step) w.blocks.marks
  marks_stay write_back_indirection_table_resp_step n k =
      right_marks g.device (step_next c q write_back_indirection_table_resp_step) w.blocks.marks
  marks_stay unalloc_step n k = clash refl n
  marks_stay page_in_node_req_step n k = right_marks g.device (step_next c q page_in_node_req_step) w.blocks.marks
  marks_stay page_in_node_resp_step n k = right_marks g.device (step_next c q page_in_node_resp_step) w.blocks.marks
  marks_stay page_in_indirection_table_req_step n k = right_marks g.device (step_next c q page_in_indirection_table_req_step) w.blocks.marks
  marks_stay page_in_indirection_table_resp_step n k = clash refl n
  marks_stay receive_loc_step n k = none_marked g.device (received_form (vop_loc q.vop))
  marks_stay evict_step n k = right_marks g.device (step_next c q evict_step) w.blocks.marks
  marks_stay freeze_step n k = clash refl n
  marks_stay clean_up_step n k = clash refl n
  marks_stay no_op_step n k = right_marks g.device c w.blocks.marks
  marks_stay dirty_step n k = clash refl n
  marks_stay alloc_step n k = right_marks g.device (step_next c q alloc_step) (alloc_marks k)
  marks_stay read_step n k = right_marks g.device c w.blocks.marks
  marks_stay crash_step n k = none_marked g.device empty_cache_form
  marks_stay let_go_step n k =
      split (is_d node_read_resp q.dop)
      (λ t. rw t (right_marks g.device (with_reads c (remove_of c.outstanding.reads (dop_id q.dop))) w.blocks.marks))
      (λ t. rw t (right_marks g.device (with_awaited c not_waiting) w.blocks.marks))
  marks_stay transaction_step n k = right_marks g.device c w.blocks.marks

-- THE BLOCK GIVEN LAST, while no table is loaded

module _ (c : CacheState) (q : Call) where
  -- a step other than a load leaves Ready or finds it, and then leaves the last block as it was
  pub ready_before : (step : Step) → is_load (number_of step) ≡ false → is_ready (step_next c q step) ≡ true →
      (is_ready c ≡ true) × ((step_next c q step).blocks.last ≡ c.blocks.last)
  ready_before write_back_node_req_step n t = (t, refl)
  ready_before write_back_node_resp_step n t = (t, refl)
  ready_before write_back_indirection_table_req_step n t = (t, refl)
  ready_before write_back_indirection_table_resp_step n t = (t, refl)
  ready_before unalloc_step n t = (t, refl)
  ready_before page_in_node_req_step n t = (t, refl)
  ready_before page_in_node_resp_step n t = (t, refl)
  ready_before page_in_indirection_table_req_step n t = (t, refl)
  ready_before page_in_indirection_table_resp_step n t = clash refl n
  ready_before receive_loc_step n t = clash t refl
  ready_before evict_step n t = (t, refl)
  ready_before freeze_step n t = (t, refl)
  ready_before clean_up_step n t = (t, refl)
  ready_before no_op_step n t = (t, refl)
  ready_before dirty_step n t = (t, refl)
  ready_before alloc_step n t = (t, refl)
  ready_before read_step n t = (t, refl)
  ready_before crash_step n t = clash t refl
  ready_before let_go_step n t = split (is_d node_read_resp q.dop) (λ u. rw u (rw u at t, refl)) (λ u. rw u (rw u at t, refl))
  ready_before transaction_step n t = (t, refl)
