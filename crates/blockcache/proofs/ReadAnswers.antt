-- The answer of a read: the phase in which it comes, and when the cache awaits it, said as facts. Assumes nothing.
use Prim.Native.Nat.{ℕ}
use mathlib.Core.Bool.{Bool, ◌&&◌, ◌||◌, false, false≢true, true}
use mathlib.Core.Logic.{◌↔◌, ◌⊎◌, inl, inr, ⊎_elim}
use mathlib.Core.Path.{◌≡◌, refl}
use native.Mathlib.Omega.{arith}
use borrow.Author.Tests.{eqb-true, ne_eqb}
use Rattle.base.proofs.Tests.{and_both, and_iff, clash, or_cases, or_inl, or_inr}
use Rattle.blockcache.specs.Form.{is_ready, loading_phase, ready_phase}
use Rattle.blockcache.specs.Ops.{dop_id, dop_kind, is_d, node_read_resp, table_read_resp}
use Rattle.blockcache.specs.Rows.{answer_phase, awaits_read, awaits_table}
use Rattle.blockcache.specs.declared.CacheState.{CacheState}
use Rattle.blockcache.specs.declared.Phase.{Phase}
use Rattle.blockdisk.specs.declared.Brought.{Brought}
use Rattle.blockdisk.specs.declared.DiskOp.{DiskOp}
use Rattle.blockdisk.specs.declared.DiskOp.TheVariants.{RespReadIndirectionTableOp, RespReadNodeOp}
use Rattle.queue.specs.Queue.{has_of}

-- an answer is of one kind
pub table_not_node : (o : DiskOp) → is_d table_read_resp o ≡ true → is_d node_read_resp o ≡ false
table_not_node o e =
    let h : dop_kind o ≡ table_read_resp = eqb-true (dop_kind o) table_read_resp e in ne_eqb (dop_kind o) node_read_resp (omega arith)

pub answer_phase_iff : (p : Phase) (o : DiskOp) →
    (answer_phase p o ≡ true) ↔ (((is_d node_read_resp o ≡ true) × (ready_phase p ≡ true)) ⊎
    ((is_d table_read_resp o ≡ true) × (loading_phase p ≡ true)))
unfolding answer_phase
answer_phase_iff p o =
    let n = is_d node_read_resp o in
    let t = is_d table_read_resp o in (
      (λ e. ⊎_elim (λ x. inl ((and_iff n (ready_phase p)).0 x)) (λ x. inr ((and_iff t (loading_phase p)).0 x))
          (or_cases (n && ready_phase p) (t && loading_phase p) e)),
      (λ u. ⊎_elim (λ x. or_inl (t && loading_phase p) (and_both x.0 x.1)) (λ x. or_inr (n && ready_phase p) (and_both x.0 x.1)) u),
    )

-- the two ways in which an answer is awaited
abbrev pub Awaited : CacheState → DiskOp → Type 0
Awaited c o =
    ((is_d node_read_resp o ≡ true) × (is_ready c ≡ true) × (has_of c.outstanding.reads (dop_id o) ≡ true))
    ⊎ ((is_d table_read_resp o ≡ true) × (loading_phase c.phase ≡ true) × (awaits_table c.awaited (dop_id o) ≡ true))

pub awaits_read_is : (c : CacheState) (o : DiskOp) → (awaits_read c o ≡ true) ↔ Awaited c o
unfolding awaits_read
awaits_read_is c o = (to, from)
  where
    read : Bool
    read = is_d node_read_resp o && has_of c.outstanding.reads (dop_id o)

    load : Bool
    load = is_d table_read_resp o && awaits_table c.awaited (dop_id o)

    to : (answer_phase c.phase o && (read || load)) ≡ true → Awaited c o
    to e =
        let h = (and_iff (answer_phase c.phase o) (read || load)).0 e in
        ⊎_elim
        (λ x. ⊎_elim
        (λ y. inl (x.0, x.1, ((and_iff (is_d node_read_resp o) (has_of c.outstanding.reads (dop_id o))).0 y).1))
        (λ y. clash x.0 (table_not_node o ((and_iff (is_d table_read_resp o) (awaits_table c.awaited (dop_id o))).0 y).0))
        (or_cases read load h.1))
        (λ x. ⊎_elim
        (λ y. clash ((and_iff (is_d node_read_resp o) (has_of c.outstanding.reads (dop_id o))).0 y).0 (table_not_node o x.0))
        (λ y. inr (x.0, x.1, ((and_iff (is_d table_read_resp o) (awaits_table c.awaited (dop_id o))).0 y).1))
        (or_cases read load h.1))
        ((answer_phase_iff c.phase o).0 h.0)

    from : Awaited c o → (answer_phase c.phase o && (read || load)) ≡ true
    from u =
        ⊎_elim
        (λ x. and_both ((answer_phase_iff c.phase o).1 (inl (x.0, x.1))) (or_inl load (and_both x.0 x.2)))
        (λ x. and_both ((answer_phase_iff c.phase o).1 (inr (x.0, x.1))) (or_inr read (and_both x.0 x.2)))
        u

-- an answer of each kind, under its id
pub node_awaited_iff : (c : CacheState) (id : ℕ) (b : Brought) →
    (awaits_read c (RespReadNodeOp id b) ≡ true) ↔ ((is_ready c ≡ true) × (has_of c.outstanding.reads id ≡ true))
node_awaited_iff c id b =
    let is = awaits_read_is c (RespReadNodeOp id b) in
    ((λ e. ⊎_elim (λ x. (x.1, x.2)) (λ x. absurd (false≢true x.0)) (is.0 e)), (λ h. is.1 (inl (refl, h.0, h.1))))

pub table_awaited_iff : (c : CacheState) (id : ℕ) (b : Brought) →
    (awaits_read c (RespReadIndirectionTableOp id b) ≡ true) ↔ ((loading_phase c.phase ≡ true) × (awaits_table c.awaited id ≡ true))
table_awaited_iff c id b =
    let is = awaits_read_is c (RespReadIndirectionTableOp id b) in
    ((λ e. ⊎_elim (λ x. absurd (false≢true x.0)) (λ x. (x.1, x.2)) (is.0 e)), (λ h. is.1 (inr (refl, h.0, h.1))))
