-- The test of a start, whether a whole graph is stored at a place, is upstream's WFSuccs. Assumes nothing.
use Prim.Native.Nat.{ℕ}
use mathlib.Core.Bool.{◌&&◌, false≢true, true}
use mathlib.Core.Logic.{◌↔◌}
use mathlib.Core.Option.{Option, some}
use mathlib.Core.Path.{◌∙◌, ◌≡◌, ap, refl, sym}
use Rattle.base.proofs.Scan.{all_at, all_of}
use Rattle.base.proofs.Tests.{and_both, and_iff, some_iff, split}
use Rattle.base.specs.Maps.{is_some}
use Rattle.base.specs.Scan.{all_below}
use Rattle.blockcache.proofs.Bridge.{complete_test_iff}
use Rattle.blockcache.specs.Upstream.{In, SameSuccs, WFCompleteIndirectionTable}
use Rattle.blockcache.specs.declared.CacheState.{CacheState}
use Rattle.blockdisk.proofs.Forms.{DiskForm}
use Rattle.blockdisk.proofs.Reading.{node_read_iff, stored_table_form, stored_table_place, table_read_iff, upstream_of, upstream_some}
use Rattle.blockdisk.specs.Records.{read_node, read_table}
use Rattle.blockdisk.specs.Upstream.{nodes_stored, tables_stored}
use Rattle.blockdisk.specs.declared.DiskState.{DiskState}
use Rattle.disklayout.specs.declared.Location.{Location}
use Rattle.sectortype.proofs.Graphs.{same_set_iff, within_iff}
use Rattle.sectortype.proofs.Maps.{graph_at, graph_bounded, graph_some, in_graph, in_locs, locs_at, locs_some}
use Rattle.sectortype.proofs.Forms.{located_allocated}
use Rattle.sectortype.specs.Abstract.{graph_of, indirection_table, locs_of}
use Rattle.sectortype.specs.Form.{entry_at, table_form}
use Rattle.sectortype.specs.Graph.{wf_complete_indirection_table as complete_test, has_succ}
use Rattle.sectortype.specs.declared.Node.{Node}
use Rattle.sectortype.specs.declared.Table.{Table}
use Rattle.blocksystem.specs.Start.{wf_succs as whole_graph, graph_stored, node_agrees, ref_agrees}
use Rattle.blocksystem.specs.Upstream.{disk_graph, NoDanglingPointers, SuccessorsAgree, WFSuccs, system_vars}

module _ (d : ℕ) (s : DiskState) (f : DiskForm d s) where
  abbrev nodes : Location → Option Node
  nodes = nodes_stored d s.records

  -- what the test says of a table
  pub record Stored (t : Table) : Type 0 where
    pub complete : WFCompleteIndirectionTable d (indirection_table t)
    pub node : (ref : ℕ) → (entry_at t ref).allocated ≡ true →
        node_agrees t (entry_at t ref) (read_node d s.records (entry_at t ref).loc) ≡ true

  module _ (t : Table) (tf : table_form t ≡ true) where
    -- the graph's node of a reference
    graph_of_lem : (ref : ℕ) (l : Location) (n : Node) → (entry_at t ref).allocated ≡ true → locs_of t ref ≡ some l → nodes l ≡ some n →
        disk_graph (indirection_table t) nodes ref ≡ some n
    unfolding disk_graph
    graph_of_lem ref l n a e h = rw (in_graph t ref, a, e) h

    -- A TABLE WHOSE GRAPH IS STORED

    module _ (h : Stored t) where
      located : (ref : ℕ) → (entry_at t ref).allocated ≡ true → (entry_at t ref).located ≡ true
      located ref a = sym (in_locs t ref) ∙ sym (h.complete.keys ref) ∙ in_graph t ref ∙ a

      agrees : (ref : ℕ) (a : (entry_at t ref).allocated ≡ true) →
          (nodes (entry_at t ref).loc ≡ some (read_node d s.records (entry_at t ref).loc).held)
          × SameSuccs (entry_at t ref).succs (read_node d s.records (entry_at t ref).loc).held
          × ((r : ℕ) → has_succ (read_node d s.records (entry_at t ref).loc).held.succs r ≡ true → In r (graph_of t))
      agrees ref a =
          let x = read_node d s.records (entry_at t ref).loc in
          let g = simp and_iff at (h.node ref a) in (
            (node_read_iff d s.records (entry_at t ref).loc x.held).1 (g.0.0, refl),
            (same_set_iff (entry_at t ref).succs x.held.succs).0 (and_both g.0.1.0 g.0.1.1),
            (within_iff t x.held.succs).0 g.1,
          )

      graph_node : (ref : ℕ) (a : (entry_at t ref).allocated ≡ true) →
          disk_graph (indirection_table t) nodes ref ≡ some (read_node d s.records (entry_at t ref).loc).held
      graph_node ref a =
          graph_of_lem ref (entry_at t ref).loc (read_node d s.records (entry_at t ref).loc).held a (locs_at t ref (located ref a))
          (agrees ref a).0

      in_disk_graph : (ref : ℕ) → In ref (disk_graph (indirection_table t) nodes) → In ref (graph_of t)
      unfolding disk_graph
      in_disk_graph ref i = split (is_some (graph_of t ref)) (λ e. e) (λ e. absurd (false≢true (rw e at i)))

      disk_graph_in : (ref : ℕ) → In ref (graph_of t) → In ref (disk_graph (indirection_table t) nodes)
      disk_graph_in ref i = rw (graph_node ref (sym (in_graph t ref) ∙ i))

      pub stored_agree : SuccessorsAgree (graph_of t) (disk_graph (indirection_table t) nodes)
      stored_agree =
          record {
            there = disk_graph_in;
            back = in_disk_graph;
            same = λ ref list n g e r.
                let a = graph_some t ref g in
                let k : some (read_node d s.records (entry_at t ref).loc).held ≡ some n = sym (graph_node ref a.0) ∙ e in
                let z : (read_node d s.records (entry_at t ref).loc).held ≡ n = cc in
                rw (← a.1, ← z) ((agrees ref a.0).1 r);
          }

      pub stored_closed : NoDanglingPointers (disk_graph (indirection_table t) nodes)
      stored_closed r1 r2 n e hs =
          let a : (entry_at t r1).allocated ≡ true = sym (in_graph t r1) ∙ in_disk_graph r1 (rw e) in
          let k : some (read_node d s.records (entry_at t r1).loc).held ≡ some n = sym (graph_node r1 a) ∙ e in
          let z : (read_node d s.records (entry_at t r1).loc).held ≡ n = cc in
          disk_graph_in r2 ((agrees r1 a).2 r2 (rw z hs))

      pub stored_nodes : (ref : ℕ) (loc : Location) → locs_of t ref ≡ some loc → is_some (nodes loc) ≡ true
      stored_nodes ref loc e =
          let a = locs_some t ref e in rw (← a.1) (ap is_some (agrees ref (located_allocated t tf ref a.0)).0)

    -- THE TEST

    pub test_iff : ((complete_test d t && graph_stored d s.records t) ≡ true) ↔ Stored t
    unfolding graph_stored
    test_iff = (
      (λ e. let h = (and_iff (complete_test d t) (all_below (λ k. ref_agrees d s.records t (entry_at t k)) 64)).0 e in
          record {
            complete = (complete_test_iff d f.on t tf).0 h.0;
            node = λ ref a. rw a at (all_at (λ k. ref_agrees d s.records t (entry_at t k)) 64 ref h.1
                (graph_bounded t tf ref (entry_at t ref).succs (graph_at t ref a)));
          }),
      (λ h. and_both ((complete_test_iff d f.on t tf).1 h.complete)
          (all_of (λ k. ref_agrees d s.records t (entry_at t k)) 64
          (λ k b. split (entry_at t k).allocated (λ a. rw a (h.node k a)) (λ a. rw a)))),
    )

    -- what upstream's predicates say of the table
    pub stored_of : WFCompleteIndirectionTable d (indirection_table t) →
        ((ref : ℕ) (loc : Location) → locs_of t ref ≡ some loc → is_some (nodes loc) ≡ true) →
        SuccessorsAgree (graph_of t) (disk_graph (indirection_table t) nodes) →
        NoDanglingPointers (disk_graph (indirection_table t) nodes) → Stored t
    stored_of c w g p =
        record {
          complete = c;
          node = λ ref a.
              let l = (entry_at t ref).loc in
              let at_l : locs_of t ref ≡ some l = locs_at t ref (sym (in_locs t ref) ∙ sym (c.keys ref) ∙ in_graph t ref ∙ a) in
              let n = (some_iff (nodes l)).0 (w ref l at_l) in
              let x = (node_read_iff d s.records l n.0).0 n.1 in
              let e = graph_of_lem ref l n.0 a at_l n.1 in
              rw (x.0, x.1)
              (and_both ((same_set_iff (entry_at t ref).succs n.0.succs).1 (g.same ref (entry_at t ref).succs n.0 (graph_at t ref a) e))
              ((within_iff t n.0.succs).1 (λ r hs. g.back r (p ref r n.0 e hs))));
        }

  -- AT A PLACE

  module _ (c : CacheState) (l : Location) where
    pub wf_succs_iff : (whole_graph d s.records l ≡ true) ↔ WFSuccs d (system_vars d c s) l
    unfolding whole_graph
    wf_succs_iff = (to, from)
      where
        to : whole_graph d s.records l ≡ true → WFSuccs d (system_vars d c s) l
        to e =
            let t = (read_table d s.records l).held in
            let g = simp and_iff at e in
            let st : tables_stored d s.records l ≡ some t = (table_read_iff d s.records l t).1 (g.0.0, refl) in
            let tf = stored_table_form d s.records f.on f.form l t st in
            let up = upstream_of d s.records l t st in
            let h = (test_iff t tf).0 (and_both g.0.1 g.1) in
            record {
              whole = record {
                valid = stored_table_place d s.records f.on f.placed l t st;
                table = indirection_table t;
                there = up;
                complete = h.complete;
                stored = stored_nodes t tf h;
              };
              agree = rw up (stored_agree t tf h);
              closed = rw up (stored_closed t tf h);
            }

        from : WFSuccs d (system_vars d c s) l → whole_graph d s.records l ≡ true
        from w =
            let u = upstream_some d s.records l w.whole.there in
            let t = u.0 in
            let r = (table_read_iff d s.records l t).0 u.1 in
            let tf = stored_table_form d s.records f.on f.form l t u.1 in
            let up = upstream_of d s.records l t u.1 in
            let z = u.2 in
            rw (r.0, r.1)
            ((test_iff t tf).1 (stored_of t tf (rw z w.whole.complete) (λ ref loc e. w.whole.stored ref loc (rw (← z) e))
            (rw (← z, up) at w.agree) (rw up at w.closed)))
