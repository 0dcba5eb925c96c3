-- What is shown step by step of the joined call: one split over the steps for each of these laws, written once and used by the theorems. Assumes
-- nothing.
use Prim.Native.Nat.{◌<◌, ℕ}
use mathlib.Core.Bool.{false, true}
use mathlib.Core.Logic.{inl, inr, ⊎_elim}
use mathlib.Core.Option.{none, Option, some}
use mathlib.Core.Path.{◌∙◌, ◌≡◌, ap, refl, subst, sym}
use borrow.Author.Tests.{eq-eqb, eqb-false, eqb-true}
use lib.Dec.{eqb}
use Rattle.base.proofs.Maps.{flagged_some}
use Rattle.base.proofs.Tests.{and_both, clash, split}
use Rattle.base.specs.Maps.{put}
use Rattle.blockcache.proofs.Numbers.{step_of_number}
use Rattle.blockcache.specs.Abstract.{call_op}
use Rattle.blockcache.specs.LetGo.{AwaitsRead, StoreStep}
use Rattle.blockcache.specs.Next.{cached_slot}
use Rattle.blockcache.specs.NextStep.{IdleVop, NextStep}
use Rattle.blockcache.specs.Ops.{vop_kind, vop_loc}
use Rattle.blockcache.specs.Steps.{alloc_step, clean_up_step, crash_step, dirty_step, evict_step, freeze_step, is_crash, is_start}
use Rattle.blockcache.specs.Steps.{let_go_step, no_op_step, number_of, page_in_indirection_table_req_step}
use Rattle.blockcache.specs.Steps.{page_in_indirection_table_resp_step, page_in_node_req_step, page_in_node_resp_step, read_step}
use Rattle.blockcache.specs.Steps.{receive_loc_step, Step, step_of, steps, transaction_step, unalloc_step}
use Rattle.blockcache.specs.Steps.{write_back_indirection_table_req_step, write_back_indirection_table_resp_step, write_back_node_req_step}
use Rattle.blockcache.specs.Steps.{write_back_node_resp_step}
use Rattle.blockcache.specs.Upstream.{Variables}
use Rattle.blockcache.specs.UpstreamInv.{Inv}
use Rattle.blockcache.specs.declared.Call.{Call}
use Rattle.blockcache.specs.declared.VersionOp.{VersionOp}
use Rattle.blockcache.specs.declared.VersionOp.TheVariants.{AdvanceOp, CleanUpOp, CrashOp, FreezeOp, JournalInternalOp, PopSyncOp}
use Rattle.blockcache.specs.declared.VersionOp.TheVariants.{PushSyncOp, SendFrozenLocOp, SendPersistentLocOp, StatesInternalOp}
use Rattle.blockdisk.proofs.Moves.{next_vars}
use Rattle.blockdisk.specs.Upstream.{Dop, dop_of, Next, Variables as DVariables}
use Rattle.blocksystem.proofs.Invariant.{PictureMaps, picture_maps, PicturesForm, Whole}
use Rattle.blocksystem.proofs.KeepQueues.{Started}
use Rattle.blocksystem.proofs.KeepSteps.{alloc_kept, clean_up_kept, dirty_kept, evict_kept, freeze_kept, let_go_kept, no_op_kept}
use Rattle.blocksystem.proofs.KeepSteps.{page_in_node_req_kept, page_in_node_resp_kept, page_in_table_req_kept, page_in_table_resp_kept}
use Rattle.blocksystem.proofs.KeepSteps.{read_kept, receive_loc_kept, unalloc_kept, write_back_node_req_kept}
use Rattle.blocksystem.proofs.Naming.{is_named_iff, names_iff}
use Rattle.blocksystem.proofs.KeepSteps.{transaction_kept, write_back_node_resp_kept, write_back_table_req_kept}
use Rattle.blocksystem.proofs.KeepSteps.{write_back_table_resp_kept}
use Rattle.blocksystem.specs.Allowed.{joined_op, joined_vop}
use Rattle.blocksystem.specs.Joined.{disk_call}
use Rattle.blocksystem.specs.Names.{is_named, names, node_pictured, picture_of, pictures_after, pictures_of, started_at, step_pictures}
use Rattle.blocksystem.specs.Names.{with_working}
use Rattle.blocksystem.specs.declared.Pictures.{Pictures}
use Rattle.disklayout.specs.declared.Location.{Location}
use Rattle.sectortype.proofs.Forms.{empty_nodes_form, with_slot_form, zero_slot_form}
use Rattle.sectortype.proofs.Maps.{nodes_del, nodes_put}
use Rattle.sectortype.specs.Abstract.{nodes_map}
use Rattle.sectortype.specs.Form.{empty_nodes, node_form, nodes_form, with_slot, zero_slot}
use Rattle.sectortype.specs.declared.Nodes.{Nodes}

-- A START AT A NAMED PLACE

pub started : (t : Pictures) (l : Location) → is_named t l ≡ true → Started (picture_maps t) (picture_maps (started_at t l)) l
started t l h =
    record {
      place = refl;
      no_second = refl;
      working = refl;
      named = split (names t.first l)
          (λ a. inl (((names_iff t.first l).0 a).1, rw a))
          (λ a. let (m, which, there, p) = (is_named_iff t l).0 h in
          let b = (names_iff m l).1 (there, p) in
          ⊎_elim (λ (i : m ≡ t.first). clash (subst (λ x. names x l ≡ true) i b) a)
          (λ (i : m ≡ t.second). inr (rw (← i, there) (ap some p), rw (a, subst (λ x. names x l ≡ true) i b))) which);
    }

-- THE PICTURES ARE KEPT

-- what is to hold afterwards
pub record KeptAfter (d : ℕ) (s : Variables) (v : DVariables) (t : Pictures) : Type 0 where
  pub named : t.first.present ≡ true
  pub whole : Whole d s v (picture_maps t)

module _ (d : ℕ) (q : Call) (s s' : Variables) (v v' : DVariables) (t : Pictures) (w : Whole d s v (picture_maps t)) (f : PicturesForm t)
    (named : t.first.present ≡ true) (i : Inv d s') (bound : q.reference < 64) where
  -- an accepted step other than a crash
  pub record Moves (step : Step) : Type 0 where
    pub cache : StoreStep d s s' (call_op q) q.vop q.reference q.node step
    pub disk : Next v v' (dop_of (disk_call (number_of step) q))
    pub move : v' ≡ next_vars v (dop_of (disk_call (number_of step) q))
    -- NoOp takes no read answer that the cache awaits
    pub unawaited : eqb (number_of step) (number_of no_op_step) ≡ true → AwaitsRead s (call_op q) → ⊥
    -- an accepted start is given a place then named
    pub start : is_start (number_of step) ≡ true → is_named t (vop_loc q.vop) ≡ true

  abbrev maps : PictureMaps
  maps = picture_maps t

  same : Whole d s' v' (picture_maps t) → KeptAfter d s' v' t
  same h = record { named = named; whole = h }

  -- Dirty and Alloc set the call's node in the working picture
  set_node : nodes_map (node_pictured q t).working ≡ put (nodes_map t.working) q.reference q.node
  set_node = nodes_put t.working q.reference (cached_slot q.node) f.working bound refl

  pub step_kept : (step : Step) → is_crash (number_of step) ≡ false → Moves step → KeptAfter d s' v' (step_pictures q t step)
  step_kept write_back_node_req_step e m =
      same (write_back_node_req_kept d s s' v v' (call_op q) q.vop q.reference q.node maps w i m.disk m.move m.cache)
  step_kept write_back_node_resp_step e m =
      same (write_back_node_resp_kept d s s' v v' (call_op q) q.vop q.reference q.node maps w i m.disk m.move m.cache)
  step_kept write_back_indirection_table_req_step e m =
      same (write_back_table_req_kept d s s' v v' (call_op q) q.vop q.reference q.node maps w i m.disk m.move m.cache)
  step_kept write_back_indirection_table_resp_step e m =
      record {
        named = named;
        whole = rw (ap vop_loc m.cache.1)
            (write_back_table_resp_kept d s s' v v'
            (call_op q) q.vop q.reference q.node maps w i m.disk m.move m.cache.0 m.cache.1 m.cache);
      }
  step_kept unalloc_step e m =
      record {
        named = named;
        whole = rw (nodes_del t.working q.reference zero_slot f.working bound refl)
            (unalloc_kept d s s' v v' (call_op q) q.vop q.reference q.node maps w i m.disk m.move m.cache);
      }
  step_kept page_in_node_req_step e m =
      same (page_in_node_req_kept d s s' v v' (call_op q) q.vop q.reference q.node maps w i m.disk m.move m.cache)
  step_kept page_in_node_resp_step e m =
      same (page_in_node_resp_kept d s s' v v' (call_op q) q.vop q.reference q.node maps w i m.disk m.move m.cache)
  step_kept page_in_indirection_table_req_step e m =
      same (page_in_table_req_kept d s s' v v' (call_op q) q.vop q.reference q.node maps w i m.disk m.move m.cache)
  step_kept page_in_indirection_table_resp_step e m =
      same (page_in_table_resp_kept d s s' v v' (call_op q) q.vop q.reference q.node maps w i m.disk m.move m.cache)
  step_kept receive_loc_step e m =
      let to = started_at t (vop_loc q.vop) in
      let l = m.cache.1.0 in
      let a = ap vop_loc m.cache.1.1 in
      let n = started t (vop_loc q.vop) (m.start refl) in
      record {
        named = refl;
        whole = receive_loc_kept d s s' v v' (call_op q) q.vop q.reference q.node maps w i m.disk m.move l (picture_maps to)
            m.cache.1.1 (subst (Started maps (picture_maps to)) a n) m.cache;
      }
  step_kept evict_step e m = same (evict_kept d s s' v v' (call_op q) q.vop q.reference q.node maps w i m.disk m.move m.cache)
  step_kept freeze_step e m =
      record {
        named = named;
        whole = freeze_kept d s s' v v' (call_op q) q.vop q.reference q.node maps w i m.disk m.move (nodes_map empty_nodes) m.cache;
      }
  step_kept clean_up_step e m =
      let k = clean_up_kept d s s' v v' (call_op q) q.vop q.reference q.node maps w i m.disk m.move (nodes_map empty_nodes) m.cache in
      let h = flagged_some t.second.present t.second.place k.1 in
      record {
        named = h.0;
        whole = rw h.1 k.2;
      }
  step_kept no_op_step e m =
      same (no_op_kept d s s' v v' (call_op q) q.vop q.reference q.node maps w i m.disk m.move (m.unawaited refl) m.cache)
  step_kept dirty_step e m =
      record {
        named = named;
        whole = rw set_node (dirty_kept d s s' v v' (call_op q) q.vop q.reference q.node maps w i m.disk m.move m.cache);
      }
  step_kept alloc_step e m =
      record {
        named = named;
        whole = rw set_node (alloc_kept d s s' v v' (call_op q) q.vop q.reference q.node maps w i m.disk m.move m.cache);
      }
  step_kept read_step e m = same (read_kept d s s' v v' (call_op q) q.vop q.reference q.node maps w m.move m.cache)
  step_kept crash_step e m = clash refl e
  step_kept let_go_step e m = same (let_go_kept d s s' v v' (call_op q) q.vop q.reference q.node maps w i m.disk m.move m.cache)
  step_kept transaction_step e m = same (transaction_kept d s s' v v' (call_op q) q.vop q.reference q.node maps w i m.disk
      m.move m.cache)

-- EACH PICTURE KEEPS ITS FORM

module _ (t : Pictures) (f : PicturesForm t) where
  picture_form : (l : Location) → nodes_form (picture_of t l) ≡ true
  picture_form l =
      split (names t.first l) (λ a. rw a f.first)
      (λ a. split (names t.second l) (λ b. rw (a, b) f.second) (λ b. rw (a, b) empty_nodes_form))

  with_working_form : (m : Nodes) → nodes_form m ≡ true → PicturesForm (with_working t m)
  with_working_form m h = record { first = f.first; second = f.second; working = h; frozen = f.frozen }

  module _ (q : Call) (bound : q.reference < 64) (formed : node_form q.node ≡ true) where
    set_form : PicturesForm (node_pictured q t)
    set_form =
        with_working_form (with_slot t.working q.reference (cached_slot q.node))
        (with_slot_form t.working q.reference (cached_slot q.node) f.working bound (and_both formed refl))

    step_form : (x : Step) → PicturesForm (step_pictures q t x)
    step_form write_back_node_req_step = f
    step_form write_back_node_resp_step = f
    step_form write_back_indirection_table_req_step = f
    step_form write_back_indirection_table_resp_step = record { first = f.first; second = f.frozen; working = f.working; frozen = f.frozen }
    step_form unalloc_step =
        with_working_form (with_slot t.working q.reference zero_slot)
        (with_slot_form t.working q.reference zero_slot f.working bound zero_slot_form)
    step_form page_in_node_req_step = f
    step_form page_in_node_resp_step = f
    step_form page_in_indirection_table_req_step = f
    step_form page_in_indirection_table_resp_step = f
    step_form receive_loc_step =
        record {
          first = picture_form (vop_loc q.vop);
          second = empty_nodes_form;
          working = picture_form
              (vop_loc q.vop);
          frozen = f.frozen;
        }
    step_form evict_step = f
    step_form freeze_step = record { first = f.first; second = empty_nodes_form; working = f.working; frozen = f.working }
    step_form clean_up_step = record { first = f.second; second = empty_nodes_form; working = f.working; frozen = f.frozen }
    step_form no_op_step = f
    step_form dirty_step = set_form
    step_form alloc_step = set_form
    step_form read_step = f
    step_form crash_step = f
    step_form let_go_step = f
    step_form transaction_step = f

    number_forms : (o : Option Step) → PicturesForm (pictures_of q t o)
    number_forms none = f
    number_forms (some x) = step_form x

    pub number_form : (n : ℕ) → PicturesForm (pictures_after n q t)
    unfolding pictures_after
    number_form n = number_forms (step_of n)

-- THE NUMBERS OF THE STEPS THAT CHANGE NAMES OR PICTURES: every other number leaves them as they are

module _ (n : ℕ) (q : Call) (t : Pictures) (not4 : n ≡ 4 → ⊥) (not5 : n ≡ 5 → ⊥) (not10 : n ≡ 10 → ⊥) (not12 : n ≡ 12 → ⊥)
    (not13 : n ≡ 13 → ⊥) (not15 : n ≡ 15 → ⊥) (not16 : n ≡ 16 → ⊥) where
  of_step : (step : Step) → n ≡ number_of step → step_pictures q t step ≡ t
  of_step write_back_node_req_step e = refl
  of_step write_back_node_resp_step e = refl
  of_step write_back_indirection_table_req_step e = refl
  of_step write_back_indirection_table_resp_step e = absurd (not4 e)
  of_step unalloc_step e = absurd (not5 e)
  of_step page_in_node_req_step e = refl
  of_step page_in_node_resp_step e = refl
  of_step page_in_indirection_table_req_step e = refl
  of_step page_in_indirection_table_resp_step e = refl
  of_step receive_loc_step e = absurd (not10 e)
  of_step evict_step e = refl
  of_step freeze_step e = absurd (not12 e)
  of_step clean_up_step e = absurd (not13 e)
  of_step no_op_step e = refl
  of_step dirty_step e = absurd (not15 e)
  of_step alloc_step e = absurd (not16 e)
  of_step read_step e = refl
  of_step crash_step e = refl
  of_step let_go_step e = refl
  of_step transaction_step e = refl

  of_number : (o : Option Step) → step_of n ≡ o → pictures_of q t o ≡ t
  of_number none e = refl
  of_number (some step) e = of_step step (step_of_number n step e)

  pub pictures_same : pictures_after n q t ≡ t
  unfolding pictures_after
  pictures_same = of_number (step_of n) refl

-- and all but four of these leave both names as they are
module _ (n : ℕ) (q : Call) (t : Pictures) (not4 : n ≡ 4 → ⊥) (not10 : n ≡ 10 → ⊥) (not12 : n ≡ 12 → ⊥) (not13 : n ≡ 13 → ⊥) where
  abbrev SameNames : Pictures → Type 0
  SameNames u = (u.first ≡ t.first) × (u.second ≡ t.second)

  works : (m : ℕ) → n ≡ m → SameNames (pictures_after m q t) → SameNames (pictures_after n q t)
  works m e h = subst (λ k. SameNames (pictures_after k q t)) (sym e) h

  pub names_same : SameNames (pictures_after n q t)
  unfolding pictures_after step_of steps
  names_same =
      split (eqb n 5) (λ a. works 5 (eqb-true n 5 a) (refl, refl))
      (λ a. split (eqb n 15) (λ b. works 15 (eqb-true n 15 b) (refl, refl))
      (λ b. split (eqb n 16) (λ e. works 16 (eqb-true n 16 e) (refl, refl))
      (λ e. let same = pictures_same n q t not4 (eqb-false n 5 a) not10 not12 not13 (eqb-false n 15 b) (eqb-false n 16 e) in
      (ap (λ x. x.first) same, ap (λ x. x.second) same))))

-- WHICH STEP SENDS A PERSISTENT PLACE

-- two version operations of different kinds
differ : {X : Type 0} (vop a b : VersionOp) → vop ≡ a → vop ≡ b → eqb (vop_kind a) (vop_kind b) ≡ false → X
differ vop a b p q f = absurd (eqb-false (vop_kind a) (vop_kind b) f (ap vop_kind (sym p ∙ q)))

module _ (d : ℕ) (s s' : Variables) (q : Call) where
  abbrev To : Dop → VersionOp → Step → Type 0
  To dop vop step = NextStep d s s' dop vop q.reference q.node step

  idle_sends : {X : Type 0} (n : ℕ) (l : Location) → IdleVop (joined_vop n q) → joined_vop n q ≡ SendPersistentLocOp l → X
  idle_sends n l i v =
      ⊎_elim (λ a. differ (joined_vop n q) StatesInternalOp (SendPersistentLocOp l) a v refl)
      (⊎_elim (λ a. differ (joined_vop n q) JournalInternalOp (SendPersistentLocOp l) a v refl)
      (⊎_elim (λ a. differ (joined_vop n q) PushSyncOp (SendPersistentLocOp l) a v refl)
      (λ a. differ (joined_vop n q) PopSyncOp (SendPersistentLocOp l) a v refl)))
      i

  read_vop : (n : ℕ) {v : VersionOp} → step_of n ≡ some read_step → joined_vop n q ≡ v → StatesInternalOp ≡ v
  read_vop n e x = rw (step_of_number n read_step e) at x

  -- only a start sends a persistent place
  pub sent_by : (n : ℕ) (l : Location) (step : Step) → step_of n ≡ some step → To (joined_op n q) (joined_vop n q) step →
      joined_vop n q ≡ SendPersistentLocOp l → is_start n ≡ true
  sent_by n l write_back_node_req_step e x v = differ (joined_vop n q) StatesInternalOp (SendPersistentLocOp l) x.0 v refl
  sent_by n l write_back_node_resp_step e x v = differ (joined_vop n q) StatesInternalOp (SendPersistentLocOp l) x.0 v refl
  sent_by n l write_back_indirection_table_req_step e x v = differ (joined_vop n q) StatesInternalOp (SendPersistentLocOp l) x.0 v refl
  sent_by n l write_back_indirection_table_resp_step e x v =
      differ (joined_vop n q) (SendFrozenLocOp x.0) (SendPersistentLocOp l) x.1 v refl
  sent_by n l unalloc_step e x v = differ (joined_vop n q) (AdvanceOp true) (SendPersistentLocOp l) x.0 v refl
  sent_by n l page_in_node_req_step e x v = differ (joined_vop n q) StatesInternalOp (SendPersistentLocOp l) x.0 v refl
  sent_by n l page_in_node_resp_step e x v = differ (joined_vop n q) StatesInternalOp (SendPersistentLocOp l) x.0 v refl
  sent_by n l page_in_indirection_table_req_step e x v = differ (joined_vop n q) StatesInternalOp (SendPersistentLocOp l) x.0 v refl
  sent_by n l page_in_indirection_table_resp_step e x v = differ (joined_vop n q) StatesInternalOp (SendPersistentLocOp l) x.0 v refl
  sent_by n l receive_loc_step e x v = eq-eqb n 10 (step_of_number n receive_loc_step e)
  sent_by n l evict_step e x v = differ (joined_vop n q) StatesInternalOp (SendPersistentLocOp l) x.0 v refl
  sent_by n l freeze_step e x v = differ (joined_vop n q) FreezeOp (SendPersistentLocOp l) x.0 v refl
  sent_by n l clean_up_step e x v = differ (joined_vop n q) CleanUpOp (SendPersistentLocOp l) x.0 v refl
  sent_by n l no_op_step e x v = idle_sends n l x.0 v
  sent_by n l dirty_step e x v = differ (joined_vop n q) (AdvanceOp x.0.0.0) (SendPersistentLocOp l) x.0.0.1 v refl
  sent_by n l alloc_step e x v = differ (joined_vop n q) (AdvanceOp x.0.0.0) (SendPersistentLocOp l) x.0.0.1 v refl
  sent_by n l read_step e x v = differ StatesInternalOp StatesInternalOp (SendPersistentLocOp l) refl (read_vop n e v) refl
  sent_by n l crash_step e x v = differ (joined_vop n q) CrashOp (SendPersistentLocOp l) x.0 v refl
  sent_by n l let_go_step e x v = absurd x
  sent_by n l transaction_step e x v = differ (joined_vop n q) (AdvanceOp x.0.0.0) (SendPersistentLocOp l) x.0.0.1 v refl
