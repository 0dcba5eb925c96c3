-- NoOp's disk operations, as upstream has them: none, any read answer, or a write answer that the cache doesn't await. Assumes nothing.
use Prim.Native.Nat.{ℕ}
use mathlib.Core.Bool.{◌&&◌, ◌||◌, and-false, Bool, false, false≢true, or-false, true}
use mathlib.Core.Logic.{◌↔◌}
use mathlib.Core.Option.{some}
use mathlib.Core.Path.{◌∙◌, ◌≡◌, refl, sym}
use lib.Dec.{eqb}
use Rattle.base.proofs.Tests.{and_both, and_left, and_right, clash, split}
use Rattle.blockcache.proofs.Bridge.{awaits_iff}
use Rattle.blockcache.proofs.OpKinds.{on_ready_iff}
use Rattle.blockcache.proofs.Waiting.{writes_has}
use Rattle.blockcache.specs.Abstract.{cache_vars}
use Rattle.blockcache.specs.Form.{is_ready}
use Rattle.blockcache.specs.Ops.{dop_id, dop_kind, is_idle_d, node_write_resp, table_write_resp}
use Rattle.blockcache.specs.Rows.{awaits_table}
use Rattle.blockcache.specs.Upstream.{AwaitsNodeWrite, AwaitsTableWrite, IdleOp, In}
use Rattle.blockcache.specs.declared.CacheState.{CacheState}
use Rattle.blockdisk.specs.Upstream.{op_of}
use Rattle.blockdisk.specs.declared.DiskOp.{DiskOp}
use Rattle.blockdisk.specs.declared.DiskOp.TheVariants.{NoDiskOp, ReqReadIndirectionTableOp, ReqReadNodeOp, ReqWriteIndirectionTableOp}
use Rattle.blockdisk.specs.declared.DiskOp.TheVariants.{ReqWriteNodeOp, RespReadIndirectionTableOp, RespReadNodeOp}
use Rattle.blockdisk.specs.declared.DiskOp.TheVariants.{RespWriteIndirectionTableOp, RespWriteNodeOp}
use Rattle.queue.specs.Queue.{has_of}
use Rattle.sectortype.specs.declared.Node.{Node}
use Rattle.sectortype.specs.declared.Table.{Table}

-- a test that fails, of two things at once
both_fail_iff : {Y : Type 0} (a b : Bool) → (b ≡ true) ↔ Y → ((a && b) ≡ false) ↔ ((a ≡ true) × Y → ⊥)
both_fail_iff a b h = (
  (λ e (x, y). clash {b = a && b} (and_both x (h.1 y)) e),
  (λ k. split (a && b) (λ t. absurd (k (and_left a b t, h.0 (and_right a b t)))) (λ t. t)),
)

pub awaits_table_iff : (c : CacheState) (id : ℕ) →
    ((is_ready c && awaits_table c.awaited id) ≡ false) ↔ (AwaitsTableWrite (cache_vars c) id → ⊥)
awaits_table_iff c id =
    let on = on_ready_iff c (λ x. x.outstanding_indirection_table_write ≡ some id) in
    let k = both_fail_iff (is_ready c) (awaits_table c.awaited id) (awaits_iff c.awaited id) in
    ((λ e x. k.0 e (on.0 x)), (λ h. k.1 (λ y. h (on.1 y))))

pub awaits_node_iff : (c : CacheState) (id : ℕ) →
    ((is_ready c && has_of c.outstanding.writes id) ≡ false) ↔ (AwaitsNodeWrite (cache_vars c) id → ⊥)
awaits_node_iff c id =
    let on = on_ready_iff c (λ x. In id x.outstanding_block_writes) in
    let w = writes_has c.outstanding.writes id in
    let k = both_fail_iff (is_ready c) (has_of c.outstanding.writes id) ((λ e. w ∙ e), (λ e. sym w ∙ e)) in
    ((λ e x. k.0 e (on.0 x)), (λ h. k.1 (λ y. h (on.1 y))))

-- NoOp's disk operations
module _ (c : CacheState) (n : Node) (t : Table) where
  abbrev awaited_op : DiskOp → Bool
  awaited_op op =
      is_ready c && ((eqb (dop_kind op) table_write_resp && awaits_table c.awaited (dop_id op)) ||
      (eqb (dop_kind op) node_write_resp && has_of c.outstanding.writes (dop_id op)))

  pub idle_op : (op : DiskOp) → is_idle_d op ≡ true → awaited_op op ≡ false → IdleOp (cache_vars c) (op_of op n t)
  idle_op (ReqReadIndirectionTableOp id l) k e = absurd (false≢true k)
  idle_op (ReqReadNodeOp id l) k e = absurd (false≢true k)
  idle_op (ReqWriteIndirectionTableOp id l) k e = absurd (false≢true k)
  idle_op (ReqWriteNodeOp id l) k e = absurd (false≢true k)
  idle_op (RespReadIndirectionTableOp id b) k e = tt
  idle_op (RespReadNodeOp id b) k e = tt
  idle_op (RespWriteIndirectionTableOp id) k e = (awaits_table_iff c id).0 (simp or-false at e)
  idle_op (RespWriteNodeOp id) k e = (awaits_node_iff c id).0 e
  idle_op NoDiskOp k e = tt

  pub idle_kind : (op : DiskOp) → IdleOp (cache_vars c) (op_of op n t) → (is_idle_d op ≡ true) × (awaited_op op ≡ false)
  idle_kind (ReqReadIndirectionTableOp id l) u = absurd u
  idle_kind (ReqReadNodeOp id l) u = absurd u
  idle_kind (ReqWriteIndirectionTableOp id l) u = absurd u
  idle_kind (ReqWriteNodeOp id l) u = absurd u
  idle_kind (RespReadIndirectionTableOp id b) u = (refl, and-false (is_ready c))
  idle_kind (RespReadNodeOp id b) u = (refl, and-false (is_ready c))
  idle_kind (RespWriteIndirectionTableOp id) u = (refl, simp or-false ((awaits_table_iff c id).1 u))
  idle_kind (RespWriteNodeOp id) u = (refl, (awaits_node_iff c id).1 u)
  idle_kind NoDiskOp u = (refl, and-false (is_ready c))
