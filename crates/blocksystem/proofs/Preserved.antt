-- From the invariant, which any list keeps in which each accepted start is given a place then named: upstream's
-- DiskChangesPreservesPersistentAndFrozen holds of each call. No call changes the graph of the persistent place, nor of the frozen one,
-- nor, before a place is received, of any place at which a whole graph is stored.
use Prim.Native.Nat.{ℕ}
use mathlib.Core.Bool.{Bool, ◌||◌, false, false≢true, true}
use mathlib.Core.List.{List}
use mathlib.Core.Logic.{inl}
use mathlib.Core.Option.{none, some}
use mathlib.Core.Path.{◌∙◌, ◌≡◌, ap, fun_ext, refl, subst, sym}
use borrow.Author.Tests.{eqb-false, eqb-true}
use lib.Dec.{eqb}
use Rattle.base.proofs.Maps.{put_same, some_of}
use Rattle.base.proofs.Refusals.{Clear}
use Rattle.base.proofs.Tests.{clash, never, not_iff, some_iff, split}
use Rattle.base.specs.Maps.{is_some}
use Rattle.blockcache.proofs.EveryStep.{number_of_step}
use Rattle.blockcache.proofs.Numbers.{call_accepted_iff}
use Rattle.blockcache.proofs.OpKinds.{on_ready_iff, ready_is}
use Rattle.blockcache.specs.Abstract.{cache_vars}
use Rattle.blockcache.specs.Form.{is_ready}
use Rattle.blockcache.specs.Ops.{dop_kind, no_dop, node_write_req, table_read_resp, table_write_req, table_write_resp}
use Rattle.blockcache.specs.Rows.{step_rows, takes}
use Rattle.blockcache.specs.Steps.{Step, clean_up_step, freeze_step, is_crash, is_read, number_of, page_in_indirection_table_resp_step}
use Rattle.blockcache.specs.Steps.{receive_loc_step, write_back_indirection_table_resp_step}
use Rattle.blockcache.specs.Upstream.{Ready, Variables as MVariables, loading_indirection_table, ready, unready}
use Rattle.blockcache.specs.declared.CacheState.{CacheState}
use Rattle.blockcache.specs.declared.Call.{Call}
use Rattle.blockcache.specs.declared.Settings.{Settings}
use Rattle.blockdisk.proofs.Moves.{disk_moves, next_vars}
use Rattle.blockdisk.specs.Upstream.{Variables as DVariables, disk_vars, op_of, req_write_indirection_table, req_write_node}
use Rattle.blockdisk.specs.declared.DiskOp.{DiskOp}
use Rattle.blockdisk.specs.declared.DiskOp.TheVariants.{NoDiskOp, ReqReadIndirectionTableOp, ReqReadNodeOp, ReqWriteIndirectionTableOp}
use Rattle.blockdisk.specs.declared.DiskOp.TheVariants.{ReqWriteNodeOp, RespReadIndirectionTableOp, RespReadNodeOp}
use Rattle.blockdisk.specs.declared.DiskOp.TheVariants.{RespWriteIndirectionTableOp, RespWriteNodeOp}
use Rattle.blockdisk.specs.declared.Records.{Records}
use Rattle.disklayout.specs.declared.Location.{Location}
use Rattle.sectortype.specs.Abstract.{IndirectionTable, indirection_table, nodes_map}
use Rattle.sectortype.specs.declared.Node.{Node}
use Rattle.sectortype.specs.declared.Table.{Table}
use Rattle.blocksystem.proofs.Accepting.{crash_answer, crash_next, disk_answer, disk_next, joined_disk, joined_zero, survives}
use Rattle.blocksystem.proofs.After.{hands_on, step_named_iff}
use Rattle.blocksystem.proofs.Answering.{answered_as}
use Rattle.blocksystem.proofs.EveryStep.{names_same}
use Rattle.blocksystem.proofs.Fairness.{stays_unready}
use Rattle.blocksystem.proofs.Graphs.{frozen_graph_of_loc, named_graph, persistent_graph, place_graph}
use Rattle.blocksystem.proofs.Invariant.{InPhase, Invariant, PictureMaps, UnreadyOk, picture_maps}
use Rattle.blocksystem.proofs.Keep.{call_keeps, run_every}
use Rattle.blocksystem.proofs.Premises.{loads_iff}
use Rattle.blocksystem.proofs.KeepQueues.{Survives}
use Rattle.blocksystem.proofs.Operations.{list_disk}
use Rattle.blocksystem.specs.Fairness.{loads}
use Rattle.blocksystem.specs.Joined.{disk_call, joined, joined_answer, settings_of}
use Rattle.blocksystem.specs.Run.{Every, JoinedCall, State, accepts_step, after_choice, after_list, after_step, choose, moved}
use Rattle.blocksystem.specs.Run.{operations, starts_named, step}
use Rattle.blocksystem.specs.Upstream.{DiskChangesPreservesPersistentAndFrozen, disk_graph, disk_graph_of_loc, frozen_loc_of}
use Rattle.blocksystem.specs.Upstream.{GraphPreserved, NoDanglingPointers, persistent_loc_of, SuccessorsAgree, Variables}
use Rattle.blocksystem.specs.Upstream.{WFSuccs, graph_or, system_vars}

-- A PLACE WITH A WHOLE GRAPH, in a state whose disk has the same table there and the same nodes at its locations

module _ (d : ℕ) (s s' : Variables) (l : Location) (w : WFSuccs d s l) (there : s'.disk.indirection_tables l ≡ some w.whole.table)
    (nodes : (ref : ℕ) (k : Location) (n : Node) → w.whole.table.locs ref ≡ some k → s.disk.nodes k ≡ some n →
    s'.disk.nodes k ≡ some n) where
  abbrev t : IndirectionTable
  t = w.whole.table

  same_node_lem : (ref : ℕ) (k : Location) → t.locs ref ≡ some k → (n : Node) × (s.disk.nodes k ≡ some n) × (s'.disk.nodes k ≡ some n)
  same_node_lem ref k e = let n = (some_iff (s.disk.nodes k)).0 (w.whole.stored ref k e) in (n.0, n.1, nodes ref k n.0 e n.1)

  same_graph : disk_graph t s'.disk.nodes ≡ disk_graph t s.disk.nodes
  unfolding disk_graph
  same_graph =
      fun_ext (λ ref.
      split (is_some (t.graph ref))
      (λ i. let m = some_of t.locs ref (sym (w.whole.complete.keys ref) ∙ i) in
      let n = same_node_lem ref m.0 m.1 in
      rw (i, m.1) (n.2 ∙ sym n.1))
      (λ i. rw i refl))

  graph_same : disk_graph_of_loc s' l ≡ disk_graph_of_loc s l
  graph_same = ap (λ o. graph_or o s'.disk.nodes) there ∙ same_graph ∙ sym (ap (λ o. graph_or o s.disk.nodes) w.whole.there)

  graph_preserved : GraphPreserved d s s' l
  graph_preserved =
      record {
        graph = disk_graph_of_loc s l;
        before = record { succs = w; is = refl };
        after = record {
          succs = record {
            whole = record {
              valid = w.whole.valid;
              table = t;
              there = there;
              complete = w.whole.complete;
              stored = λ ref k e. ap is_some (same_node_lem ref k e).2;
            };
            agree = subst (SuccessorsAgree t.graph) (sym graph_same) w.agree;
            closed = subst NoDanglingPointers (sym graph_same) w.closed;
          };
          is = sym graph_same;
        };
      }

-- A DISK WITH THE SAME CONTENTS

pub record SameContents (v v' : DVariables) : Type 0 where
  pub tables : v'.indirection_tables ≡ v.indirection_tables
  pub nodes : v'.nodes ≡ v.nodes

contents_preserve : (d : ℕ) (s s' : Variables) → SameContents s.disk s'.disk → (l : Location) → WFSuccs d s l →
    GraphPreserved d s s' l
contents_preserve d s s' c l w =
    graph_preserved d s s' l w (ap (λ f. f l) c.tables ∙ w.whole.there) (λ ref k n e h. ap (λ f. f k) c.nodes ∙ h)

abbrev vars : ℕ → State → Variables
vars d s = system_vars d s.cache s.disk

module _ (d : ℕ) (s s' : State) (v : Invariant d s) where
  same_contents_lem : SameContents (disk_vars d s.disk) (disk_vars d s'.disk) →
      DiskChangesPreservesPersistentAndFrozen d (vars d s) (vars d s')
  same_contents_lem c =
      let all = contents_preserve d (vars d s) (vars d s') c in
      record {
        none_persistent = λ e. all;
        persistent = λ l e. all l (persistent_graph d s v l e).1.succs;
        frozen = λ l e. all l (frozen_graph_of_loc d s v l e).1.succs;
      }

  -- a state with the same names, in which the invariant holds too
  module _ (v' : Invariant d s') (first : s'.pictures.first ≡ s.pictures.first)
      (second : s'.pictures.second ≡ s.pictures.second) where
    persistent_kept : (l : Location) → persistent_loc_of (cache_vars s.cache) ≡ some l → GraphPreserved d (vars d s) (vars d s') l
    persistent_kept l e =
        let (i, g) = persistent_graph d s v l e in
        record {
          graph = nodes_map s.pictures.first.picture;
          before = g;
          after = rw i at (rw first at (named_graph d s' v' s'.pictures.first (inl refl) v'.first_named));
        }

    frozen_kept : (l : Location) → frozen_loc_of (cache_vars s.cache) ≡ some l → GraphPreserved d (vars d s) (vars d s') l
    frozen_kept l e =
        let (i, g) = frozen_graph_of_loc d s v l e in
        record {
          graph = nodes_map s.pictures.second.picture;
          before = g;
          after = rw second at (place_graph d s' v' l (nodes_map s'.pictures.second.picture) (v'.whole.second l (rw second i)));
        }

-- WHICH STEPS WRITE

-- a request to write, by the kind of the disk operation
abbrev is_write : ℕ → Bool
is_write k = eqb k table_write_req || eqb k node_write_req

-- every other one leaves the contents as they are
op_same : (v : DVariables) (op : DiskOp) (n : Node) (t : Table) → is_write (dop_kind op) ≡ false →
    SameContents v (next_vars v (op_of op n t))
op_same v (ReqReadIndirectionTableOp id l) n t h = record { tables = refl; nodes = refl }
op_same v (ReqReadNodeOp id l) n t h = record { tables = refl; nodes = refl }
op_same v (ReqWriteIndirectionTableOp id l) n t h = absurd (false≢true (sym h))
op_same v (ReqWriteNodeOp id l) n t h = absurd (false≢true (sym h))
op_same v (RespReadIndirectionTableOp id b) n t h = record { tables = refl; nodes = refl }
op_same v (RespReadNodeOp id b) n t h = record { tables = refl; nodes = refl }
op_same v (RespWriteIndirectionTableOp id) n t h = record { tables = refl; nodes = refl }
op_same v (RespWriteNodeOp id) n t h = record { tables = refl; nodes = refl }
op_same v NoDiskOp n t h = record { tables = refl; nodes = refl }

module _ (d : ℕ) (s : State) (q : Call) (o : Records) where
  abbrev g : Settings
  g = settings_of d s.disk

  abbrev Accepted : ℕ → Type 0
  Accepted n = joined_answer d n q o s.cache s.disk ≡ 0

  abbrev op_kind : ℕ → ℕ
  op_kind n = dop_kind (disk_call n q).op

  -- the disk operation of an accepted step is one that the step takes
  disk_taken : (which : Step) → Accepted (number_of which) → (takes s.cache.phase q.vop q.dop which).disk ≡ true
  disk_taken which e =
      let x = (call_accepted_iff g s.cache (number_of which) q).0 ((joined_zero d (number_of which) q o s.cache s.disk).0 e).0 in
      let same : some x.step ≡ some which = sym x.is ∙ number_of_step which in
      let one : x.step ≡ which = cc in
      (not_iff _).0 (subst (λ y. Clear (step_rows g s.cache q y)) one x.clear).1.0

  -- so a step that takes operations of one kind, which is no request to write, writes nothing
  writes_none : (which : Step) (k : ℕ) → (takes s.cache.phase q.vop q.dop which).disk ≡ eqb (dop_kind q.dop) k →
      is_read (number_of which) ≡ false → is_write k ≡ false → Accepted (number_of which) → is_write (op_kind (number_of which)) ≡ false
  writes_none which k only no_read none_written e =
      let is : dop_kind q.dop ≡ k = eqb-true (dop_kind q.dop) k (sym only ∙ disk_taken which e) in
      rw (no_read, is) none_written

  -- and a step that writes nothing leaves the contents
  no_write : (n : ℕ) → is_crash n ≡ false → Accepted n → is_write (op_kind n) ≡ false →
      SameContents (disk_vars d s.disk) (disk_vars d (after_step d s n q o).disk)
  no_write n ne e w =
      let c = disk_call n q in
      let a = sym (disk_answer d n q o s.disk ne) ∙ ((joined_zero d n q o s.cache s.disk).0 e).1 in
      let after = joined_disk d n q o s.cache s.disk e ∙ disk_next d n q o s.disk ne a in
      rw (after, disk_moves d s.disk c a) (op_same (disk_vars d s.disk) c.op q.node q.table w)

-- A WRITE IS REQUESTED IN READY ALONE: after it one is queued, so the cache is in Ready then, and no load made it so

table_queued : (v : DVariables) (id : ℕ) (l : Location) → v.req_write_indirection_tables id ≡ some l → (m : MVariables) (p : PictureMaps) →
    InPhase m v p → (x : Ready) × (m ≡ ready x)
table_queued v id l e (ready x) p h = (x, refl)
table_queued v id l e (loading_indirection_table at read) p h = absurd (h.no_table_writes id l e)
table_queued v id l e unready p h = absurd (h.no_table_writes id l e)

node_queued : (v : DVariables) (id : ℕ) (l : Location) → v.req_write_nodes id ≡ some l → (m : MVariables) (p : PictureMaps) →
    InPhase m v p → (x : Ready) × (m ≡ ready x)
node_queued v id l e (ready x) p h = (x, refl)
node_queued v id l e (loading_indirection_table at read) p h = absurd (h.no_node_writes id l e)
node_queued v id l e unready p h = absurd (h.no_node_writes id l e)

queued_ready : (v : DVariables) (op : DiskOp) (n : Node) (t : Table) → is_write (dop_kind op) ≡ true → (m : MVariables) (p : PictureMaps) →
    InPhase m (next_vars v (op_of op n t)) p →
    (x : Ready) × (m ≡ ready x)
queued_ready v (ReqReadIndirectionTableOp id l) n t w m p h = absurd (false≢true w)
queued_ready v (ReqReadNodeOp id l) n t w m p h = absurd (false≢true w)
queued_ready v (ReqWriteIndirectionTableOp id l) n t w m p h =
    table_queued (next_vars v (req_write_indirection_table id l (indirection_table t))) id l
    (put_same v.req_write_indirection_tables id l) m p h
queued_ready v (ReqWriteNodeOp id l) n t w m p h =
    node_queued (next_vars v (req_write_node id l n)) id l (put_same v.req_write_nodes id l) m p h
queued_ready v (RespReadIndirectionTableOp id b) n t w m p h = absurd (false≢true w)
queued_ready v (RespReadNodeOp id b) n t w m p h = absurd (false≢true w)
queued_ready v (RespWriteIndirectionTableOp id) n t w m p h = absurd (false≢true w)
queued_ready v (RespWriteNodeOp id) n t w m p h = absurd (false≢true w)
queued_ready v NoDiskOp n t w m p h = absurd (false≢true w)

module _ (d : ℕ) (s : State) (n : ℕ) (q : Call) (o : Records) (e : Accepted d s q o n) where
  abbrev s' : State
  s' = after_step d s n q o

  writes_ready : is_crash n ≡ false → is_write (op_kind d s q o n) ≡ true → Invariant d s' → is_ready s.cache ≡ true
  writes_ready ne w v' =
      let c = disk_call n q in
      let a = sym (disk_answer d n q o s.disk ne) ∙ ((joined_zero d n q o s.cache s.disk).0 e).1 in
      let after = joined_disk d n q o s.cache s.disk e ∙ disk_next d n q o s.disk ne a in
      let moves = ap (disk_vars d) after ∙ disk_moves d s.disk c a in
      let (x, is) = queued_ready (disk_vars d s.disk) c.op q.node q.table w (cache_vars s'.cache) (picture_maps s'.pictures)
      (subst (λ y. InPhase (cache_vars s'.cache) y (picture_maps s'.pictures)) moves v'.whole.phase) in
      let on = ((on_ready_iff s'.cache (λ y. Unit {0})).0 (x, is, tt)).0 in
      let no_load : loads d s (step n q o) ≡ false =
      split (loads d s (step n q o))
      (λ t. let (x, y, same, z) = (loads_iff d s (step n q o)).0 t in
      let nine : n ≡ 9 = cc in
      let none = writes_none d s q o page_in_indirection_table_resp_step table_read_resp refl refl refl (subst (Accepted d s q o) nine e) in
      clash w (subst (λ m. is_write (op_kind d s q o m) ≡ false) (sym nine) none))
      (λ t. t) in
      split (is_ready s.cache) (λ t. t) (λ t. clash on (stays_unready d s (step n q o) t no_load))

-- BEFORE A PLACE IS RECEIVED

persistent_none : (c : CacheState) → persistent_loc_of (cache_vars c) ≡ none → cache_vars c ≡ unready
persistent_none c = from (cache_vars c)
  where
    from : (m : MVariables) → persistent_loc_of m ≡ none → m ≡ unready
    from (ready x) e = never (sym e)
    from (loading_indirection_table l read) e = never (sym e)
    from unready e = refl

module _ (d : ℕ) (s : State) (n : ℕ) (q : Call) (o : Records) (v : Invariant d s) (e : Accepted d s q o n) where
  abbrev next : State
  next = after_step d s n q o

  -- before a place is received nothing is queued, so a crash leaves every record
  crash_preserves : is_crash n ≡ true → cache_vars s.cache ≡ unready → (l : Location) → WFSuccs d (vars d s) l →
      GraphPreserved d (vars d s) (vars d next) l
  crash_preserves t is l w =
      let a = sym (crash_answer d n q o s.disk t) ∙ ((joined_zero d n q o s.cache s.disk).0 e).1 in
      let after = joined_disk d n q o s.cache s.disk e ∙ crash_next d n q o s.disk t a in
      let kept = subst (λ x. Survives (disk_vars d s.disk) (disk_vars d x)) (sym after) (survives d s.disk o a) in
      let idle : UnreadyOk (disk_vars d s.disk) =
      subst (λ m. InPhase m (disk_vars d s.disk) (picture_maps s.pictures)) is v.whole.phase in
      graph_preserved d (vars d s) (vars d next) l w
      (kept.tables l w.whole.table w.whole.there (λ id k h x. idle.no_table_writes id k h))
      (λ ref k m i h. kept.nodes k m h (λ id j y x. idle.no_node_writes id j y))

  unready_preserves : Invariant d next → persistent_loc_of (cache_vars s.cache) ≡ none → (l : Location) → WFSuccs d (vars d s) l →
      GraphPreserved d (vars d s) (vars d next) l
  unready_preserves v' none_there l w =
      let is = persistent_none s.cache none_there in
      split (is_crash n)
      (λ t. crash_preserves t is l w)
      (λ t. split (is_write (op_kind d s q o n))
      (λ x. let r = writes_ready d s n q o e t x v' in never (sym none_there ∙ ap persistent_loc_of (ready_is s.cache r)))
      (λ x. contents_preserve d (vars d s) (vars d next) (no_write d s q o n t e x) l w))

  -- the names stay, and so do their graphs
  keeps_names : (n ≡ 4 → ⊥) → (n ≡ 10 → ⊥) → (n ≡ 12 → ⊥) → (n ≡ 13 → ⊥) →
      DiskChangesPreservesPersistentAndFrozen d (vars d s) (vars d next)
  unfolding joined
  keeps_names not4 not10 not12 not13 =
      let v' : Invariant d next = call_keeps d s (step n q o) v ((step_named_iff d s n q o).1 (λ a t. absurd (not10 (eqb-true n 10 t)))) in
      let moved = (hands_on d s n q o).accepted e in
      let same = names_same n q s.pictures not4 not10 not12 not13 in
      let first = ap (λ x. x.first) moved ∙ same.0 in
      let second = ap (λ x. x.second) moved ∙ same.1 in
      record {
        none_persistent = unready_preserves v';
        persistent = persistent_kept d s next v v' first second;
        frozen = frozen_kept d s next v v' first second;
      }

  -- a step that changes a name writes nothing
  of_number : (m : ℕ) → n ≡ m → is_crash m ≡ false → (Accepted d s q o m → is_write (op_kind d s q o m) ≡ false) →
      DiskChangesPreservesPersistentAndFrozen d (vars d s) (vars d next)
  of_number m i ne w =
      same_contents_lem d s next v
      (subst (λ k. SameContents (disk_vars d s.disk) (disk_vars d (after_step d s k q o).disk)) (sym i)
      (no_write d s q o m ne (subst (Accepted d s q o) i e) (w (subst (Accepted d s q o) i e))))

  step_preserves : DiskChangesPreservesPersistentAndFrozen d (vars d s) (vars d next)
  step_preserves =
      let none = writes_none d s q o in
      split (eqb n 4) (λ t. of_number 4 (eqb-true n 4 t) refl (none write_back_indirection_table_resp_step table_write_resp refl refl refl))
      (λ a. split (eqb n 10) (λ t. of_number 10 (eqb-true n 10 t) refl (none receive_loc_step no_dop refl refl refl))
      (λ b. split (eqb n 12) (λ t. of_number 12 (eqb-true n 12 t) refl (none freeze_step no_dop refl refl refl))
      (λ c. split (eqb n 13) (λ t. of_number 13 (eqb-true n 13 t) refl (none clean_up_step no_dop refl refl refl))
      (λ x. keeps_names (eqb-false n 4 a) (eqb-false n 10 b) (eqb-false n 12 c) (eqb-false n 13 x)))))

-- ANY CALL, and each of a list

-- what a call leaves of upstream's disk
abbrev pub Preserves : ℕ → State → JoinedCall → Type 0
Preserves d s k = DiskChangesPreservesPersistentAndFrozen d (vars d s) (vars d (moved d s k))

pub call_preserves : (d : ℕ) (s : State) (k : JoinedCall) → Invariant d s → Preserves d s k
unfolding joined
call_preserves d s (step n q o) v =
    split (accepts_step d s n q o)
    (λ t. step_preserves d s n q o v (eqb-true _ _ t))
    (λ t. let disk = (answered_as d s (step n q o)).disk_unchanged (eqb-false _ _ t) in
    same_contents_lem d s (after_step d s n q o) v
    (record { tables = ap (λ x. (disk_vars d x).indirection_tables) disk; nodes = ap (λ x. (disk_vars d x).nodes) disk }))
call_preserves d s choose v = same_contents_lem d s (after_choice d s) v (record { tables = refl; nodes = refl })
call_preserves d s (operations q l) v =
    let disk = list_disk d s q l in
    same_contents_lem d s (after_list d s q l) v
    (record { tables = ap (λ x. (disk_vars d x).indirection_tables) disk; nodes = ap (λ x. (disk_vars d x).nodes) disk })

pub run_preserves : (d : ℕ) (calls : List JoinedCall) (s : State) → Invariant d s → starts_named d s calls ≡ true →
    Every d (Preserves d) s calls
run_preserves d calls s v n = run_every d (Preserves d) (call_preserves d) calls s v n
