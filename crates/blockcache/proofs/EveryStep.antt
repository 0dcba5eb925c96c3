-- What is shown step by step: one split over the steps for each of these laws, written once and used by the theorems. Assumes nothing.
use Prim.Native.Nat.{◌<◌, ℕ}
use mathlib.Core.Bool.{◌||◌, Bool, false, true}
use mathlib.Core.List.{◌∷◌}
use mathlib.Core.Logic.{⊎_elim}
use mathlib.Core.Option.{some}
use mathlib.Core.Path.{◌≡◌, refl, subst, sym}
use native.Mathlib.Omega.{arith}
use borrow.Author.Tests.{eq-eqb, le-leb, leb-false}
use lib.Dec.{eqb, leb}
use Rattle.base.proofs.Refusals.{Clear}
use Rattle.base.proofs.Tests.{not_iff, split}
use Rattle.base.specs.Refusals.{◌when◌, ascending}
use Rattle.blockcache.proofs.Bridge.{assigned_form}
use Rattle.blockcache.proofs.FormLaws.{assigned_absent, cached_slot_form, empty_cache_form, loading_form, received_form, unlocated_form}
use Rattle.blockcache.proofs.FormLaws.{with_awaited_form, with_ephemeral_form, with_nodes_form, with_places_form, with_reads_form}
use Rattle.blockcache.proofs.FormLaws.{with_tables_form, with_writes_form}
use Rattle.blockcache.proofs.Forms.{PartsForm, frozen_empty, Idle, idle_iff, loading_idle, read_ref_bounded, reads_insert_form}
use Rattle.blockcache.proofs.Forms.{reads_remove_form, ready_form, WellFormed, writes_insert_form, writes_remove_form}
use Rattle.blockcache.proofs.Frames.{Exact, Open}
use Rattle.blockcache.proofs.GraphSteps.{alloc_exact, dirty_exact, evict_exact, read_exact, unalloc_exact}
use Rattle.blockcache.proofs.InvGraph.{alloc_fixed, dirty_fixed, evict_kept, set_kept, unalloc_fixed, unalloc_kept}
use Rattle.blockcache.proofs.InvReads.{clean_up_kept, freeze_kept, let_go_kept, loaded_fixed, loaded_inv, page_in_kept, paged_in_kept}
use Rattle.blockcache.proofs.InvWrites.{table_write_kept, table_written_kept, write_fixed, write_kept, written_kept}
use Rattle.blockcache.proofs.LetGoStep.{let_go_exact}
use Rattle.blockcache.proofs.OtherSteps.{clean_up_exact, crash_exact, freeze_exact, no_op_exact, transaction_exact}
use Rattle.blockcache.proofs.ReadAnswers.{awaits_read_is, table_not_node}
use Rattle.blockcache.proofs.ReadSteps.{page_in_node_req_exact, page_in_node_resp_exact, page_in_table_req_exact, page_in_table_resp_exact}
use Rattle.blockcache.proofs.ReadSteps.{receive_loc_exact}
use Rattle.blockcache.proofs.WriteSteps.{write_back_node_req_exact, write_back_node_resp_exact, write_back_table_req_exact}
use Rattle.blockcache.proofs.WriteSteps.{write_back_table_resp_exact}
use Rattle.blockcache.specs.Form.{awaited_form, is_ready, loading_phase, not_waiting}
use Rattle.blockcache.specs.Freezing.{with_rule}
use Rattle.blockcache.specs.LetGo.{LetNodeGo, StoreStep}
use Rattle.blockcache.specs.Next.{assigned, cached_slot, node_set, step_next, unlocated, waiting_for, with_awaited, with_ephemeral}
use Rattle.blockcache.specs.Next.{with_nodes, with_places, with_tables, with_writes}
use Rattle.blockcache.specs.NextStep.{OnBoth}
use Rattle.blockcache.specs.Ops.{dop_id, dop_loc, vop_loc}
use Rattle.blockcache.specs.Rows.{awaits_read, own_rows, step_rows}
use Rattle.blockcache.specs.Steps.{alloc_step, clean_up_step, crash_step, dirty_step, evict_step, freeze_step, let_go_step, no_op_step}
use Rattle.blockcache.specs.Steps.{number_of, page_in_indirection_table_req_step, page_in_indirection_table_resp_step}
use Rattle.blockcache.specs.Steps.{page_in_node_req_step, page_in_node_resp_step, read_step, receive_loc_step, Step, step_of, steps}
use Rattle.blockcache.specs.Steps.{transaction_step, unalloc_step, write_back_indirection_table_req_step}
use Rattle.blockcache.specs.Steps.{write_back_indirection_table_resp_step, write_back_node_req_step, write_back_node_resp_step}
use Rattle.blockcache.specs.Upstream.{Alloc, CleanUp, Dirty, Evict, Freeze, PageInNodeReq, PageInNodeResp, Ready, Unalloc, Variables}
use Rattle.blockcache.specs.Upstream.{WriteBackIndirectionTableReq, WriteBackIndirectionTableResp, WriteBackNodeReq, WriteBackNodeResp}
use Rattle.blockcache.specs.UpstreamInv.{Inv, InvReady}
use Rattle.blockcache.specs.declared.Awaited.{Awaited}
use Rattle.blockcache.specs.declared.CacheState.{CacheState}
use Rattle.blockcache.specs.declared.Call.{Call}
use Rattle.blockcache.specs.declared.Settings.{Settings}
use Rattle.blockcache.specs.declared.Places.{Places}
use Rattle.blockcache.specs.declared.Tables.{Tables}
use Rattle.blockcache.specs.declared.VersionOp.{VersionOp}
use Rattle.blockdisk.specs.Upstream.{Dop}
use Rattle.disklayout.specs.Calls.{zero_loc}
use Rattle.disklayout.specs.declared.Location.{Location}
use Rattle.queue.specs.Queue.{entry_of, has_of, insert_of, remove_of}
use Rattle.queue.specs.declared.Request.{Request}
use Rattle.queue.specs.declared.Requests.{Requests}
use Rattle.sectortype.proofs.Forms.{empty_table_form, with_entry_form, with_slot_form, zero_entry_form, zero_slot_form}
use Rattle.sectortype.specs.Form.{empty_table, with_entry, with_slot, zero_entry, zero_slot}
use Rattle.sectortype.specs.declared.Node.{Node}
use Rattle.sectortype.specs.declared.Table.{Table}

-- EVERY STEP HAS ITS NUMBER

pub number_of_step : (step : Step) → step_of (number_of step) ≡ some step
unfolding step_of steps
number_of_step write_back_node_req_step = refl
number_of_step write_back_node_resp_step = refl
number_of_step write_back_indirection_table_req_step = refl
number_of_step write_back_indirection_table_resp_step = refl
number_of_step unalloc_step = refl
number_of_step page_in_node_req_step = refl
number_of_step page_in_node_resp_step = refl
number_of_step page_in_indirection_table_req_step = refl
number_of_step page_in_indirection_table_resp_step = refl
number_of_step receive_loc_step = refl
number_of_step evict_step = refl
number_of_step freeze_step = refl
number_of_step clean_up_step = refl
number_of_step no_op_step = refl
number_of_step dirty_step = refl
number_of_step alloc_step = refl
number_of_step read_step = refl
number_of_step crash_step = refl
number_of_step let_go_step = refl
number_of_step transaction_step = refl

-- THE ROWS ASCEND

module _ (g : Settings) (c : CacheState) (q : Call) (b : Bool) where
  -- the numbers of the rows ascend
  pub rows_ascend : (step : Step) → ascending ((1 when b) ∷ step_rows g c q step) ≡ true
  rows_ascend write_back_node_req_step = refl
  rows_ascend write_back_node_resp_step = refl
  rows_ascend write_back_indirection_table_req_step = refl
  rows_ascend write_back_indirection_table_resp_step = refl
  rows_ascend unalloc_step = refl
  rows_ascend page_in_node_req_step = refl
  rows_ascend page_in_node_resp_step = refl
  rows_ascend page_in_indirection_table_req_step = refl
  rows_ascend page_in_indirection_table_resp_step = refl
  rows_ascend receive_loc_step = refl
  rows_ascend evict_step = refl
  rows_ascend freeze_step = refl
  rows_ascend clean_up_step = refl
  rows_ascend no_op_step = refl
  rows_ascend dirty_step = refl
  rows_ascend alloc_step = refl
  rows_ascend read_step = refl
  rows_ascend crash_step = refl
  rows_ascend let_go_step = refl
  rows_ascend transaction_step = refl

-- THE FREEZE RULE

module _ (g : Settings) (c : CacheState) (q : Call) where
  -- a step other than Freeze has the same rows under both rules
  pub rows_of_rule : (step : Step) → (number_of step ≡ 12 → ⊥) → step_rows (with_rule g 2) c q step ≡ step_rows (with_rule g 1) c q step
  rows_of_rule write_back_node_req_step ne = refl
  rows_of_rule write_back_node_resp_step ne = refl
  rows_of_rule write_back_indirection_table_req_step ne = refl
  rows_of_rule write_back_indirection_table_resp_step ne = refl
  rows_of_rule unalloc_step ne = refl
  rows_of_rule page_in_node_req_step ne = refl
  rows_of_rule page_in_node_resp_step ne = refl
  rows_of_rule page_in_indirection_table_req_step ne = refl
  rows_of_rule page_in_indirection_table_resp_step ne = refl
  rows_of_rule receive_loc_step ne = refl
  rows_of_rule evict_step ne = refl
  rows_of_rule freeze_step ne = absurd (ne refl)
  rows_of_rule clean_up_step ne = refl
  rows_of_rule no_op_step ne = refl
  rows_of_rule dirty_step ne = refl
  rows_of_rule alloc_step ne = refl
  rows_of_rule read_step ne = refl
  rows_of_rule crash_step ne = refl
  rows_of_rule let_go_step ne = refl
  rows_of_rule transaction_step ne = refl

-- DEMAND 2

module _ (g : Settings) (c : CacheState) (q : Call) (w : WellFormed g c q) where
  pub exact : (step : Step) → Exact g c q step
  exact write_back_node_req_step = write_back_node_req_exact g c q w
  exact write_back_node_resp_step = write_back_node_resp_exact g c q w
  exact write_back_indirection_table_req_step = write_back_table_req_exact g c q w
  exact write_back_indirection_table_resp_step = write_back_table_resp_exact g c q w
  exact unalloc_step = unalloc_exact g c q w
  exact page_in_node_req_step = page_in_node_req_exact g c q w
  exact page_in_node_resp_step = page_in_node_resp_exact g c q w
  exact page_in_indirection_table_req_step = page_in_table_req_exact g c q w
  exact page_in_indirection_table_resp_step = page_in_table_resp_exact g c q w
  exact receive_loc_step = receive_loc_exact g c q w
  exact evict_step = evict_exact g c q w
  exact freeze_step = freeze_exact g c q w
  exact clean_up_step = clean_up_exact g c q w
  exact no_op_step = no_op_exact g c q w
  exact dirty_step = dirty_exact g c q w
  exact alloc_step = alloc_exact g c q w
  exact read_step = read_exact g c q w
  exact crash_step = crash_exact g c q w
  exact let_go_step = let_go_exact g c q w
  exact transaction_step = transaction_exact g c q w

-- THE WRITTEN FORM IS KEPT

module _ (g : Settings) (c : CacheState) (q : Call) (w : WellFormed g c q) where
  abbrev r : ℕ
  r = q.reference

  abbrev id : ℕ
  id = dop_id q.dop

  abbrev loc : Location
  loc = dop_loc q.dop

  abbrev table : Table
  table = c.tables.ephemeral

  abbrev writing : Requests
  writing = c.outstanding.writes

  abbrev reads : Requests
  reads = c.outstanding.reads

  abbrev f : PartsForm c
  f = w.form

  small : leb r 63 ≡ true
  small = let b : r < 64 = w.call.reference in le-leb r 63 (omega arith)

  -- a frozen table that is absent stays so
  frozen_kept : (c.tables.isfrozen || eqb (assigned c.tables.frozen r loc).count 0) ≡ true
  frozen_kept =
      split c.tables.isfrozen (λ t. rw t)
      (λ t. let z = frozen_empty c f t in rw (t, assigned_absent c.tables.frozen r loc f.tables.frozen w.call.reference z) (eq-eqb _ _ z))

  -- the awaited id is no part of what a cache lacks before Ready
  loading_awaited_form : (a : Awaited) → awaited_form a ≡ true → loading_phase c.phase ≡ true → PartsForm (with_awaited c a)
  loading_awaited_form a h loading =
      let i = loading_idle c f.phase loading in
      let after = with_awaited c a in
      record {
        tables = f.tables;
        places = f.places;
        awaited = h;
        outstanding = f.outstanding;
        nodes = f.nodes;
        phase = loading_form after loading ((idle_iff after).1 (still_idle i));
      }
    where
      still_idle : Idle c → Idle (with_awaited c a)
      still_idle i =
          record {
            no_persistent = i.no_persistent;
            no_ephemeral = i.no_ephemeral;
            no_frozen = i.no_frozen;
            no_place = i.no_place;
            no_writes = i.no_writes;
            no_reads = i.no_reads;
            no_nodes = i.no_nodes;
          }

  -- Dirty and Alloc
  set_node_form : is_ready c ≡ true → PartsForm (node_set c q)
  set_node_form ok =
      let t = with_entry table r (unlocated q.node.succs) in
      let e = with_ephemeral_form c f ok t
      (with_entry_form table r (unlocated q.node.succs) f.tables.ephemeral w.call.reference (unlocated_form q.node w.call.node)) in
      with_nodes_form (with_ephemeral c t) e ok (with_slot c.nodes r (cached_slot q.node))
      (with_slot_form c.nodes r (cached_slot q.node) f.nodes w.call.reference (cached_slot_form q.node w.call.node))

  pub next_form : (step : Step) → Open g c q step → Clear (own_rows g c q step) → PartsForm (step_next c q step)
  next_form write_back_node_req_step taken k =
      let new : Request = record { id = id; reference = r; loc = loc } in
      let h = with_writes_form c f taken.2 (insert_of writing new)
      (writes_insert_form writing new f.outstanding.writes (leb-false 16 writing.count k.1.1.1.1.1.1.0) k.0 small) in
      with_tables_form (with_writes c (insert_of writing new)) h taken.2
      (record { persistent = c.tables.persistent; ephemeral = assigned table r loc; isfrozen = c.tables.isfrozen; frozen = assigned c.tables.frozen r loc })
      (record {
        persistent = f.tables.persistent;
        ephemeral = assigned_form table r loc f.tables.ephemeral w.call.reference;
        frozen = assigned_form c.tables.frozen r loc f.tables.frozen w.call.reference;
        frozen_absent = frozen_kept;
      })
  next_form write_back_node_resp_step taken k =
      with_writes_form c f taken.2 (remove_of writing id)
      (writes_remove_form writing id f.outstanding.writes ((not_iff (has_of writing id)).0 k.0))
  next_form write_back_indirection_table_req_step taken k =
      let ps : Places = record { persistent = c.places.persistent; isfrozen = true; frozen = loc } in
      with_awaited_form (with_places c ps) (with_places_form c f taken.2 ps refl) taken.2 (waiting_for id) refl
  next_form write_back_indirection_table_resp_step taken k = with_awaited_form c f taken.2 not_waiting refl
  next_form unalloc_step taken k =
      let t = with_entry table r zero_entry in
      let e = with_ephemeral_form c f taken.2 t (with_entry_form table r zero_entry f.tables.ephemeral w.call.reference zero_entry_form) in
      with_nodes_form (with_ephemeral c t) e taken.2 (with_slot c.nodes r zero_slot)
      (with_slot_form c.nodes r zero_slot f.nodes w.call.reference zero_slot_form)
  next_form page_in_node_req_step taken k =
      let new : Request = record { id = id; reference = r; loc = zero_loc } in
      with_reads_form c f taken.2 (insert_of reads new)
      (reads_insert_form reads new f.outstanding.reading (leb-false 16 reads.count k.1.1.1.1.0) k.0 (rw small))
  next_form page_in_node_resp_step taken k =
      let there = (not_iff (has_of reads id)).0 k.0 in
      let ref = (entry_of reads id).reference in
      let m = with_slot c.nodes ref (cached_slot q.node) in
      let n = with_nodes_form c f taken.2 m
      (with_slot_form c.nodes ref (cached_slot q.node) f.nodes (read_ref_bounded reads id f.outstanding.reading there)
      (cached_slot_form q.node w.call.node)) in
      with_reads_form (with_nodes c m) n taken.2 (remove_of reads id) (reads_remove_form reads id f.outstanding.reading there)
  next_form page_in_indirection_table_req_step taken k = loading_awaited_form (waiting_for id) refl taken.2
  next_form page_in_indirection_table_resp_step taken k =
      record {
        tables = record { persistent = w.call.table; ephemeral = w.call.table; frozen = empty_table_form; frozen_absent = refl };
        places = f.places;
        awaited = refl;
        outstanding = f.outstanding;
        nodes = f.nodes;
        phase = ready_form (step_next c q page_in_indirection_table_resp_step) refl;
      }
  next_form receive_loc_step taken k = received_form (vop_loc q.vop)
  next_form evict_step taken k =
      with_nodes_form c f taken.2 (with_slot c.nodes r zero_slot)
      (with_slot_form c.nodes r zero_slot f.nodes w.call.reference zero_slot_form)
  next_form freeze_step taken k =
      let ts : Tables = record { persistent = c.tables.persistent; ephemeral = table; isfrozen = true; frozen = table } in
      let h = with_tables_form c f taken.2 ts
      (record { persistent = f.tables.persistent; ephemeral = f.tables.ephemeral; frozen = f.tables.ephemeral; frozen_absent = refl }) in
      with_places_form (with_tables c ts) h taken.2 (record { persistent = c.places.persistent; isfrozen = false; frozen = zero_loc }) refl
  next_form clean_up_step taken k =
      let ts : Tables = record { persistent = c.tables.frozen; ephemeral = table; isfrozen = false; frozen = empty_table } in
      let h = with_tables_form c f taken.2 ts
      (record { persistent = f.tables.frozen; ephemeral = f.tables.ephemeral; frozen = empty_table_form; frozen_absent = refl }) in
      with_places_form (with_tables c ts) h taken.2 (record { persistent = c.places.frozen; isfrozen = false; frozen = zero_loc }) refl
  next_form no_op_step taken k = f
  next_form dirty_step taken k = set_node_form taken.2
  next_form alloc_step taken k = set_node_form taken.2
  next_form read_step taken k = f
  next_form crash_step taken k = empty_cache_form
  next_form let_go_step taken k =
      ⊎_elim
      (λ x. rw x.0 (with_reads_form c f x.1 (remove_of reads id) (reads_remove_form reads id f.outstanding.reading x.2)))
      (λ x. rw (table_not_node q.dop x.0) (loading_awaited_form not_waiting refl x.1))
      ((awaits_read_is c q.dop).0 ((not_iff (awaits_read c q.dop)).0 k.0))
  next_form transaction_step taken k = f

-- UPSTREAM'S INV IS KEPT. No narrowing is needed for it: a used id, which upstream would overwrite, keeps it too.

-- from Ready to Ready
both_kept : (d : ℕ) (s s' : Variables) (P : Ready → Ready → Type 0) → ((x y : Ready) → InvReady d x → P x y → InvReady d y) →
    OnBoth s s' P → Inv d s → Inv d s'
both_kept d s s' P keep (x, e, (y, e', p)) i = subst (Inv d) (sym e') (keep x y (subst (Inv d) e i) p)

-- a next state that is fixed
fixed_kept : (d : ℕ) {y z : Ready} → y ≡ z → InvReady d z → InvReady d y
fixed_kept d e i = subst (InvReady d) (sym e) i

module _ (d : ℕ) (s s' : Variables) (dop : Dop) (vop : VersionOp) (r : ℕ) (n : Node) where
  pub next_inv : (step : Step) → StoreStep d s s' dop vop r n step → Inv d s → Inv d s'
  next_inv write_back_node_req_step (v, (id, loc, m, e, p)) =
      both_kept d s s' (λ x y. WriteBackNodeReq d x y id loc m r)
      (λ x y i u. fixed_kept d (write_fixed d x y id loc m r u) (write_kept d x y id loc m r i u)) p
  next_inv write_back_node_resp_step (v, (id, e, p)) =
      both_kept d s s' (λ x y. WriteBackNodeResp x y id) (λ x y i u. fixed_kept d u.next (written_kept d x id i)) p
  next_inv write_back_indirection_table_req_step (v, (id, loc, t, e, p)) =
      both_kept d s s' (λ x y. WriteBackIndirectionTableReq d x y id loc t)
      (λ x y i u. fixed_kept d u.next (table_write_kept d x y id loc t i u)) p
  next_inv write_back_indirection_table_resp_step (l, v, (id, e, p)) =
      both_kept d s s' (λ x y. WriteBackIndirectionTableResp x y id l) (λ x y i u. fixed_kept d u.next (table_written_kept d x i)) p
  next_inv unalloc_step (v, o, p) =
      both_kept d s s' (λ x y. Unalloc x y r) (λ x y i u. fixed_kept d (unalloc_fixed x y r u) (unalloc_kept d x y r i u)) p
  next_inv page_in_node_req_step (v, (id, loc, e, p)) =
      both_kept d s s' (λ x y. PageInNodeReq x y id loc r) (λ x y i u. fixed_kept d u.next (page_in_kept d x y id loc r i u)) p
  next_inv page_in_node_resp_step (v, (id, m, e, p)) =
      both_kept d s s' (λ x y. PageInNodeResp x y id m) (λ x y i u. fixed_kept d u.next (paged_in_kept d x y id m i u)) p
  next_inv page_in_indirection_table_req_step (v, (id, loc, e, (at, read, q, u))) = λ i. subst (Inv d) (sym u.next) (subst (Inv d) q i)
  next_inv page_in_indirection_table_resp_step (v, (id, t, e, (at, read, q, (y, e', u)))) =
      λ i. subst (Inv d) (sym e') (fixed_kept d (loaded_fixed d at read y id t u) (loaded_inv d u.t at u.wf u.distinct (subst (Inv d) q i)))
  next_inv receive_loc_step (o, (l, v, u)) = λ i. subst (Inv d) (sym u.next) u.valid
  next_inv evict_step (v, o, p) = both_kept d s s' (λ x y. Evict x y r) (λ x y i u. fixed_kept d u.next (evict_kept d x y r i u)) p
  next_inv freeze_step (v, o, p) =
      both_kept d s s' (λ x y. Freeze x y) (λ x y i u. fixed_kept d u.next (freeze_kept d x i u.no_table_write)) p
  next_inv clean_up_step (v, o, p) = both_kept d s s' (λ x y. CleanUp x y) (λ x y i u. fixed_kept d u.next (clean_up_kept d x y i u)) p
  next_inv no_op_step (v, u) = λ i. subst (Inv d) (sym u.next) i
  next_inv dirty_step (t, p) =
      both_kept d s s' (λ x y. Dirty x y r n)
      (λ x y i u. fixed_kept d (dirty_fixed x y r n u) (set_kept d x r u.list n i u.points u.succs)) p
  next_inv alloc_step (t, p) =
      both_kept d s s' (λ x y. Alloc x y r n)
      (λ x y i u. fixed_kept d (alloc_fixed d x y r n i u) (set_kept d x r u.list n i u.points u.succs)) p
  next_inv read_step (e, p) = λ i. subst (Inv d) (sym e) i
  next_inv crash_step (v, e) = λ i. subst (Inv d) (sym e) tt
  next_inv let_go_step g =
      ⊎_elim
      (λ (id, m, e, p). both_kept d s s' (λ x y. LetNodeGo x y id) (λ x y i u. fixed_kept d u.next (let_go_kept d x id i)) p)
      (λ (id, t, e, (at, read, q, u)). λ i. subst (Inv d) (sym u.next) (subst (Inv d) q i))
      g.answer
  next_inv transaction_step (t, e, p) = λ i. subst (Inv d) (sym e) i
