-- From the invariant: a whole graph is stored at a named place, and a start there is never refused with 20. Assumes nothing.
use Prim.Native.Nat.{ℕ}
use mathlib.Core.Bool.{false, false≢true, true}
use mathlib.Core.Logic.{⊎_elim}
use mathlib.Core.Option.{Option, some}
use mathlib.Core.Path.{◌∙◌, ◌≡◌, ap, refl, subst, sym}
use native.Mathlib.Omega.{arith}
use Rattle.base.proofs.Maps.{some_of}
use Rattle.base.proofs.Tests.{none_iff, split}
use Rattle.base.specs.Maps.{is_some}
use Rattle.base.specs.Refusals.{holds}
use Rattle.blockcache.specs.Ops.{vop_loc}
use Rattle.blockcache.specs.Steps.{step_of, steps}
use Rattle.blockdisk.proofs.Forms.{disk_form_iff}
use Rattle.blockdisk.proofs.Reading.{stored_table_place, upstream_some}
use Rattle.blockdisk.specs.Ops.{op_rows}
use Rattle.blockdisk.specs.Upstream.{disk_vars}
use Rattle.blockdisk.specs.declared.DiskOp.{DiskOp}
use Rattle.blockdisk.specs.declared.DiskOp.TheVariants.{NoDiskOp, ReqReadIndirectionTableOp, ReqReadNodeOp, ReqWriteIndirectionTableOp}
use Rattle.blockdisk.specs.declared.DiskOp.TheVariants.{ReqWriteNodeOp, RespReadIndirectionTableOp, RespReadNodeOp}
use Rattle.blockdisk.specs.declared.DiskOp.TheVariants.{RespWriteIndirectionTableOp, RespWriteNodeOp}
use Rattle.blockdisk.specs.declared.DiskState.{DiskState}
use Rattle.disklayout.specs.declared.Location.{Location}
use Rattle.sectortype.specs.Abstract.{nodes_map}
use Rattle.sectortype.specs.declared.Node.{Node}
use Rattle.sectortype.specs.declared.Table.{Table}
use Rattle.blocksystem.proofs.Answering.{answered_as}
use Rattle.blocksystem.proofs.Invariant.{Invariant, KeptOn}
use Rattle.blocksystem.proofs.Laws.{kept_keys}
use Rattle.blocksystem.proofs.Naming.{is_named_iff}
use Rattle.blocksystem.proofs.Starting.{wf_succs_iff}
use Rattle.blocksystem.specs.Names.{is_named}
use Rattle.blocksystem.specs.Promise.{StartsWhole}
use Rattle.blocksystem.specs.Run.{State, conditions, step}
use Rattle.blocksystem.specs.Start.{wf_succs as whole_graph}
use Rattle.blocksystem.specs.Upstream.{disk_graph, WFSuccs, system_vars}

module _ (d : ℕ) (s : State) (v : Invariant d s) (l : Location) (pic : ℕ → Option Node) (k : KeptOn d (disk_vars d s.disk) l pic) where
  abbrev nodes : Location → Option Node
  nodes = (disk_vars d s.disk).nodes

  -- the graph read through the place is its picture
  pub graph_pictured : (ref : ℕ) → disk_graph k.table nodes ref ≡ pic ref
  unfolding disk_graph
  graph_pictured ref =
      split (is_some (k.table.locs ref))
      (λ e. let m = some_of k.table.locs ref e in let z = k.located ref m.0 m.1 in
      rw (k.complete.keys ref, m.1) (z.stored ∙ sym z.pictured))
      (λ e. rw (k.complete.keys ref, e) (sym (k.no_more ref ((none_iff (k.table.locs ref)).0 e))))

  graph_keys : (ref : ℕ) → is_some (disk_graph k.table nodes ref) ≡ is_some (k.table.graph ref)
  graph_keys ref = ap is_some (graph_pictured ref) ∙ kept_keys k ref ∙ sym (k.complete.keys ref)

  pub kept_succs : WFSuccs d (system_vars d s.cache s.disk) l
  kept_succs =
      let f = (disk_form_iff d s.disk).0 v.disk_form_lem in
      let u = upstream_some d s.disk.records l k.stored in
      record {
        whole = record {
          valid = stored_table_place d s.disk.records f.on f.placed l u.0 u.1;
          table = k.table;
          there = k.stored;
          complete = k.complete;
          stored = λ ref m e. ap is_some (k.located ref m e).stored;
        };
        agree = rw k.stored
            (record {
              there = λ ref i. graph_keys ref ∙ i;
              back = λ ref i. sym (graph_keys ref) ∙ i;
              same = λ ref list n g e. k.lists ref list n g (sym (graph_pictured ref) ∙ e);
            });
        closed = rw k.stored
            (λ r1 r2 n e h.
            let g = some_of k.table.graph r1 (sym (graph_keys r1) ∙ ap is_some e) in
            let same = k.lists r1 g.0 n g.1 (sym (graph_pictured r1) ∙ e) r2 in
            graph_keys r2 ∙ k.complete.graph_closed r1 g.0 g.1 r2 (same ∙ h));
      }

-- a whole graph is stored at a named place ..
pub named_whole : (d : ℕ) (s : State) → Invariant d s → (l : Location) → is_named s.pictures l ≡ true →
    whole_graph d s.disk.records l ≡ true
named_whole d s v l h =
    let (m, which, there, p) = (is_named_iff s.pictures l).0 h in
    (wf_succs_iff d s.disk ((disk_form_iff d s.disk).0 v.disk_form_lem) s.cache l).1
    (⊎_elim
    (λ (i : m ≡ s.pictures.first).
    let first = s.pictures.first in
    rw (sym (ap (λ x. x.place) i) ∙ p) at (kept_succs d s v first.place (nodes_map first.picture) v.whole.first))
    (λ (i : m ≡ s.pictures.second).
    kept_succs d s v l (nodes_map s.pictures.second.picture) (v.whole.second l (rw (← i, there) (ap some p))))
    which)

-- .. so 20 is never given to a start there: no row of cache or disk has that number
disk_never : (d : ℕ) (s : DiskState) (op : DiskOp) (n : Node) (t : Table) → holds 20 (op_rows d s op n t) ≡ false
disk_never d s (ReqReadIndirectionTableOp id l) n t = refl
disk_never d s (ReqReadNodeOp id l) n t = refl
disk_never d s (ReqWriteIndirectionTableOp id l) n t = refl
disk_never d s (ReqWriteNodeOp id l) n t = refl
disk_never d s (RespReadIndirectionTableOp id b) n t = refl
disk_never d s (RespReadNodeOp id b) n t = refl
disk_never d s (RespWriteIndirectionTableOp id) n t = refl
disk_never d s (RespWriteNodeOp id) n t = refl
disk_never d s NoDiskOp n t = refl

pub starts_whole : (d : ℕ) (s : State) → Invariant d s → StartsWhole d s
unfolding conditions step_of steps
starts_whole d s v q o h e =
    let a = answered_as d s (step 10 q o) in
    let c = subst (λ m. conditions d s 10 q o m ≡ true) e (a.refused (λ z. omega (arith, e, z))) in
    absurd (false≢true (rw (disk_never d s.disk q.dop q.node q.table, named_whole d s v (vop_loc q.vop) h) at c))
