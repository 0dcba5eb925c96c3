-- What the tests of a step's kind say: of the version operation, of the disk operation and of the phase. Assumes nothing.
use Prim.Native.Nat.{ℕ}
use mathlib.Core.Bool.{◌||◌, Bool, cond, false≢true, true}
use mathlib.Core.Logic.{◌↔◌, inl, inr, ⊎_elim}
use mathlib.Core.Option.{Option}
use mathlib.Core.Path.{◌∙◌, ◌≡◌, ap, refl, sym}
use native.Mathlib.Omega.{arith}
use borrow.Author.Tests.{eq-eqb, eqb-true}
use lib.Dec.{eqb}
use Rattle.base.specs.Maps.{flagged}
use Rattle.blockcache.specs.Abstract.{awaited_id, cache_vars, ready_vars, vars_in}
use Rattle.blockcache.specs.Form.{is_ready, loading_phase, ready_phase, unready_phase}
use Rattle.blockcache.specs.NextStep.{IdleVop, OnLoading, OnReady, OnReqReadIndirectionTable, OnReqReadNode, OnReqWriteIndirectionTable}
use Rattle.blockcache.specs.NextStep.{OnReqWriteNode, OnRespReadIndirectionTable, OnRespReadNode, OnRespWriteIndirectionTable}
use Rattle.blockcache.specs.NextStep.{OnRespWriteNode}
use Rattle.blockcache.specs.Ops.{advance, clean_up, crash, dop_brought, dop_id, dop_kind, dop_loc, freeze, internal, journal_internal}
use Rattle.blockcache.specs.Ops.{node_read_req, node_read_resp, node_write_req, node_write_resp, no_dop, pop_sync, push_sync}
use Rattle.blockcache.specs.Ops.{send_frozen_loc, send_persistent_loc, table_read_req, table_read_resp, table_write_req, table_write_resp}
use Rattle.blockcache.specs.Ops.{vop_kind, vop_loc, vop_no_op}
use Rattle.blockcache.specs.Upstream.{loading_indirection_table, Ready, ready, unready}
use Rattle.blockcache.specs.declared.CacheState.{CacheState}
use Rattle.blockcache.specs.declared.Phase.{Phase}
use Rattle.blockcache.specs.declared.Phase.TheVariants.{Loading as PhaseLoading, Ready as PhaseReady, Unready as PhaseUnready}
use Rattle.blockcache.specs.declared.VersionOp.{VersionOp}
use Rattle.blockcache.specs.declared.VersionOp.TheVariants.{AdvanceOp, CleanUpOp, CrashOp, FreezeOp, JournalInternalOp, PopSyncOp}
use Rattle.blockcache.specs.declared.VersionOp.TheVariants.{PushSyncOp, SendFrozenLocOp, SendPersistentLocOp, StatesInternalOp}
use Rattle.blockdisk.specs.Ops.{something_in}
use Rattle.blockdisk.specs.Upstream.{Dop, no_disk_op, op_of, req_read_indirection_table, req_read_node, req_write_indirection_table}
use Rattle.blockdisk.specs.Upstream.{req_write_node, resp_read_indirection_table, resp_read_node, resp_write_indirection_table}
use Rattle.blockdisk.specs.Upstream.{resp_write_node}
use Rattle.blockdisk.specs.declared.Brought.{Brought}
use Rattle.blockdisk.specs.declared.DiskOp.{DiskOp}
use Rattle.blockdisk.specs.declared.DiskOp.TheVariants.{NoDiskOp, ReqReadIndirectionTableOp, ReqReadNodeOp, ReqWriteIndirectionTableOp}
use Rattle.blockdisk.specs.declared.DiskOp.TheVariants.{ReqWriteNodeOp, RespReadIndirectionTableOp, RespReadNodeOp}
use Rattle.blockdisk.specs.declared.DiskOp.TheVariants.{RespWriteIndirectionTableOp, RespWriteNodeOp}
use Rattle.disklayout.specs.declared.Location.{Location}
use Rattle.sectortype.specs.Abstract.{IndirectionTable, indirection_table}
use Rattle.sectortype.specs.declared.Node.{Node}
use Rattle.sectortype.specs.declared.Table.{Table}

-- THE VERSION OPERATION

-- the operation of a kind, with what it carries
abbrev vop_from : ℕ → Location → Bool → VersionOp
vop_from k l b =
    cond (eqb k internal) StatesInternalOp
    (cond (eqb k journal_internal) JournalInternalOp
    (cond (eqb k send_persistent_loc) (SendPersistentLocOp l)
    (cond (eqb k send_frozen_loc) (SendFrozenLocOp l)
    (cond (eqb k advance) (AdvanceOp b)
    (cond (eqb k freeze) FreezeOp
    (cond (eqb k clean_up) CleanUpOp
    (cond (eqb k push_sync) PushSyncOp
    (cond (eqb k pop_sync) PopSyncOp CrashOp))))))))

vop_from_lem : (v : VersionOp) → v ≡ vop_from (vop_kind v) (vop_loc v) (vop_no_op v)
vop_from_lem StatesInternalOp = refl
vop_from_lem JournalInternalOp = refl
vop_from_lem (SendPersistentLocOp l) = refl
vop_from_lem (SendFrozenLocOp l) = refl
vop_from_lem (AdvanceOp b) = refl
vop_from_lem FreezeOp = refl
vop_from_lem CleanUpOp = refl
vop_from_lem PushSyncOp = refl
vop_from_lem PopSyncOp = refl
vop_from_lem CrashOp = refl

module _ (v : VersionOp) where
  vop_is : (k : ℕ) → eqb (vop_kind v) k ≡ true → v ≡ vop_from k (vop_loc v) (vop_no_op v)
  vop_is k e = vop_from_lem v ∙ ap (λ j. vop_from j (vop_loc v) (vop_no_op v)) (eqb-true (vop_kind v) k e)

  pub internal_iff : (eqb (vop_kind v) internal ≡ true) ↔ (v ≡ StatesInternalOp)
  internal_iff = (vop_is internal, λ e. rw e)

  pub freeze_iff : (eqb (vop_kind v) freeze ≡ true) ↔ (v ≡ FreezeOp)
  freeze_iff = (vop_is freeze, λ e. rw e)

  pub clean_up_iff : (eqb (vop_kind v) clean_up ≡ true) ↔ (v ≡ CleanUpOp)
  clean_up_iff = (vop_is clean_up, λ e. rw e)

  pub crash_op_iff : (eqb (vop_kind v) crash ≡ true) ↔ (v ≡ CrashOp)
  crash_op_iff = (vop_is crash, λ e. rw e)

  pub advance_iff : (eqb (vop_kind v) advance ≡ true) ↔ ((b : Bool) × (v ≡ AdvanceOp b))
  advance_iff = ((λ e. (vop_no_op v, vop_is advance e)), (λ (b, e). rw e))

  pub send_persistent_iff : (P : Location → Type 0) →
      ((l : Location) × (v ≡ SendPersistentLocOp l) × P l) ↔ ((eqb (vop_kind v) send_persistent_loc ≡ true) × P (vop_loc v))
  send_persistent_iff P = (
    (λ (l, e, p). (rw e, let q : l ≡ vop_loc v = rw e in rw q at p)),
    (λ (k, p). (vop_loc v, vop_is send_persistent_loc k, p)),
  )

  pub send_frozen_iff : (P : Location → Type 0) →
      ((l : Location) × (v ≡ SendFrozenLocOp l) × P l) ↔ ((eqb (vop_kind v) send_frozen_loc ≡ true) × P (vop_loc v))
  send_frozen_iff P = (
    (λ (l, e, p). (rw e, let q : l ≡ vop_loc v = rw e in rw q at p)),
    (λ (k, p). (vop_loc v, vop_is send_frozen_loc k, p)),
  )

pub no_op_iff : (v : VersionOp) → (vop_no_op v ≡ true) ↔ (v ≡ AdvanceOp true)
no_op_iff v = (to v, λ e. rw e)
  where
    to : (v : VersionOp) → vop_no_op v ≡ true → v ≡ AdvanceOp true
    to StatesInternalOp e = absurd (false≢true e)
    to JournalInternalOp e = absurd (false≢true e)
    to (SendPersistentLocOp l) e = absurd (false≢true e)
    to (SendFrozenLocOp l) e = absurd (false≢true e)
    to (AdvanceOp b) e = ap AdvanceOp e
    to FreezeOp e = absurd (false≢true e)
    to CleanUpOp e = absurd (false≢true e)
    to PushSyncOp e = absurd (false≢true e)
    to PopSyncOp e = absurd (false≢true e)
    to CrashOp e = absurd (false≢true e)

-- NoOp's version operations
pub idle_vop_iff : (v : VersionOp) →
    ((eqb (vop_kind v) internal || eqb (vop_kind v) journal_internal || eqb (vop_kind v) push_sync || eqb
    (vop_kind v) pop_sync) ≡ true) ↔ IdleVop v
idle_vop_iff v = (to v, ⊎_elim (λ e. rw e) (⊎_elim (λ e. rw e) (⊎_elim (λ e. rw e) (λ e. rw e))))
  where
    to : (v : VersionOp) →
        (eqb (vop_kind v) internal || eqb (vop_kind v) journal_internal || eqb (vop_kind v) push_sync || eqb
        (vop_kind v) pop_sync) ≡ true → IdleVop v
    to StatesInternalOp e = inl refl
    to JournalInternalOp e = inr (inl refl)
    to (SendPersistentLocOp l) e = absurd (false≢true e)
    to (SendFrozenLocOp l) e = absurd (false≢true e)
    to (AdvanceOp b) e = absurd (false≢true e)
    to FreezeOp e = absurd (false≢true e)
    to CleanUpOp e = absurd (false≢true e)
    to PushSyncOp e = inr (inr (inl refl))
    to PopSyncOp e = inr (inr (inr refl))
    to CrashOp e = absurd (false≢true e)

-- THE DISK OPERATION

abbrev dop_from : ℕ → ℕ → Location → Brought → Node → Table → Dop
dop_from k id l b n t =
    cond (eqb k table_read_req) (req_read_indirection_table id l)
    (cond (eqb k node_read_req) (req_read_node id l)
    (cond (eqb k table_write_req) (req_write_indirection_table id l (indirection_table t))
    (cond (eqb k node_write_req) (req_write_node id l n)
    (cond (eqb k table_read_resp) (resp_read_indirection_table id (flagged (something_in b) (indirection_table t)))
    (cond (eqb k node_read_resp) (resp_read_node id (flagged (something_in b) n))
    (cond (eqb k table_write_resp) (resp_write_indirection_table id)
    (cond (eqb k node_write_resp) (resp_write_node id) no_disk_op)))))))

abbrev kind_of : Dop → ℕ
kind_of (req_read_indirection_table id l) = table_read_req
kind_of (req_read_node id l) = node_read_req
kind_of (req_write_indirection_table id l t) = table_write_req
kind_of (req_write_node id l n) = node_write_req
kind_of (resp_read_indirection_table id t) = table_read_resp
kind_of (resp_read_node id n) = node_read_resp
kind_of (resp_write_indirection_table id) = table_write_resp
kind_of (resp_write_node id) = node_write_resp
kind_of no_disk_op = no_dop

dop_from_lem : (op : DiskOp) (n : Node) (t : Table) → op_of op n t ≡ dop_from (dop_kind op) (dop_id op) (dop_loc op) (dop_brought op) n t
dop_from_lem (ReqReadIndirectionTableOp id l) n t = refl
dop_from_lem (ReqReadNodeOp id l) n t = refl
dop_from_lem (ReqWriteIndirectionTableOp id l) n t = refl
dop_from_lem (ReqWriteNodeOp id l) n t = refl
dop_from_lem (RespReadIndirectionTableOp id b) n t = refl
dop_from_lem (RespReadNodeOp id b) n t = refl
dop_from_lem (RespWriteIndirectionTableOp id) n t = refl
dop_from_lem (RespWriteNodeOp id) n t = refl
dop_from_lem NoDiskOp n t = refl

dop_kind_lem : (op : DiskOp) (n : Node) (t : Table) → kind_of (op_of op n t) ≡ dop_kind op
dop_kind_lem (ReqReadIndirectionTableOp id l) n t = refl
dop_kind_lem (ReqReadNodeOp id l) n t = refl
dop_kind_lem (ReqWriteIndirectionTableOp id l) n t = refl
dop_kind_lem (ReqWriteNodeOp id l) n t = refl
dop_kind_lem (RespReadIndirectionTableOp id b) n t = refl
dop_kind_lem (RespReadNodeOp id b) n t = refl
dop_kind_lem (RespWriteIndirectionTableOp id) n t = refl
dop_kind_lem (RespWriteNodeOp id) n t = refl
dop_kind_lem NoDiskOp n t = refl

module _ (op : DiskOp) (n : Node) (t : Table) where
  dop_is : (k : ℕ) → eqb (dop_kind op) k ≡ true → op_of op n t ≡ dop_from k (dop_id op) (dop_loc op) (dop_brought op) n t
  dop_is k e = dop_from_lem op n t ∙ ap (λ j. dop_from j (dop_id op) (dop_loc op) (dop_brought op) n t) (eqb-true (dop_kind op) k e)

  -- an operation of this kind
  kind_of_lem : (k : ℕ) (o : Dop) → op_of op n t ≡ o → kind_of o ≡ k → eqb (dop_kind op) k ≡ true
  kind_of_lem k o e q = eq-eqb (dop_kind op) k (sym (dop_kind_lem op n t) ∙ ap kind_of e ∙ q)

  pub no_disk_op_iff : (eqb (dop_kind op) no_dop ≡ true) ↔ (op_of op n t ≡ no_disk_op)
  no_disk_op_iff = (dop_is no_dop, λ e. kind_of_lem no_dop no_disk_op e refl)

  pub req_read_table_iff : (P : ℕ → Location → Type 0) →
      OnReqReadIndirectionTable (op_of op n t) P ↔ ((eqb (dop_kind op) table_read_req ≡ true) × P (dop_id op) (dop_loc op))
  req_read_table_iff P = (
    (λ (id, l, e, p). let k = kind_of_lem table_read_req (req_read_indirection_table id l) e refl in
        let f : op_of op n t ≡ req_read_indirection_table (dop_id op) (dop_loc op) = dop_is table_read_req k in
        let a : id ≡ dop_id op = cc in let b : l ≡ dop_loc op = cc in (k, rw (a, b) at p)),
    (λ (k, p). (dop_id op, dop_loc op, dop_is table_read_req k, p)),
  )

  pub req_read_node_iff : (P : ℕ → Location → Type 0) →
      OnReqReadNode (op_of op n t) P ↔ ((eqb (dop_kind op) node_read_req ≡ true) × P (dop_id op) (dop_loc op))
  req_read_node_iff P = (
    (λ (id, l, e, p). let k = kind_of_lem node_read_req (req_read_node id l) e refl in
        let f : op_of op n t ≡ req_read_node (dop_id op) (dop_loc op) = dop_is node_read_req k in
        let a : id ≡ dop_id op = cc in let b : l ≡ dop_loc op = cc in (k, rw (a, b) at p)),
    (λ (k, p). (dop_id op, dop_loc op, dop_is node_read_req k, p)),
  )

  pub req_write_table_iff : (P : ℕ → Location → IndirectionTable → Type 0) →
      OnReqWriteIndirectionTable (op_of op n t) P ↔
      ((eqb (dop_kind op) table_write_req ≡ true) × P (dop_id op) (dop_loc op) (indirection_table t))
  req_write_table_iff P = (
    (λ (id, l, u, e, p). let k = kind_of_lem table_write_req (req_write_indirection_table id l u) e refl in
        let f : op_of op n t ≡ req_write_indirection_table (dop_id op) (dop_loc op) (indirection_table t) = dop_is table_write_req k in
        let a : id ≡ dop_id op = cc in let b : l ≡ dop_loc op = cc in let g : u ≡ indirection_table t = cc in (k, rw (a, b, g) at p)),
    (λ (k, p). (dop_id op, dop_loc op, indirection_table t, dop_is table_write_req k, p)),
  )

  pub req_write_node_iff : (P : ℕ → Location → Node → Type 0) →
      OnReqWriteNode (op_of op n t) P ↔ ((eqb (dop_kind op) node_write_req ≡ true) × P (dop_id op) (dop_loc op) n)
  req_write_node_iff P = (
    (λ (id, l, m, e, p). let k = kind_of_lem node_write_req (req_write_node id l m) e refl in
        let f : op_of op n t ≡ req_write_node (dop_id op) (dop_loc op) n = dop_is node_write_req k in
        let a : id ≡ dop_id op = cc in let b : l ≡ dop_loc op = cc in let g : m ≡ n = cc in (k, rw (a, b, g) at p)),
    (λ (k, p). (dop_id op, dop_loc op, n, dop_is node_write_req k, p)),
  )

  pub resp_read_table_iff : (P : ℕ → Option IndirectionTable → Type 0) →
      OnRespReadIndirectionTable (op_of op n t) P ↔
      ((eqb (dop_kind op) table_read_resp ≡ true) × P (dop_id op) (flagged (something_in (dop_brought op)) (indirection_table t)))
  resp_read_table_iff P = (
    (λ (id, u, e, p). let k = kind_of_lem table_read_resp (resp_read_indirection_table id u) e refl in
        let f : op_of op n t ≡ resp_read_indirection_table (dop_id op)
        (flagged (something_in (dop_brought op)) (indirection_table t)) = dop_is table_read_resp k in
        let a : id ≡ dop_id op = cc in let b : u ≡ flagged (something_in (dop_brought op)) (indirection_table t) = cc in
        (k, rw (a, b) at p)),
    (λ (k, p). (dop_id op, flagged (something_in (dop_brought op)) (indirection_table t), dop_is table_read_resp k, p)),
  )

  pub resp_read_node_iff : (P : ℕ → Option Node → Type 0) →
      OnRespReadNode (op_of op n t) P ↔
      ((eqb (dop_kind op) node_read_resp ≡ true) × P (dop_id op) (flagged (something_in (dop_brought op)) n))
  resp_read_node_iff P = (
    (λ (id, u, e, p). let k = kind_of_lem node_read_resp (resp_read_node id u) e refl in
        let f : op_of op n t ≡ resp_read_node (dop_id op) (flagged (something_in (dop_brought op)) n) = dop_is node_read_resp k in
        let a : id ≡ dop_id op = cc in let b : u ≡ flagged (something_in (dop_brought op)) n = cc in (k, rw (a, b) at p)),
    (λ (k, p). (dop_id op, flagged (something_in (dop_brought op)) n, dop_is node_read_resp k, p)),
  )

  pub resp_write_table_iff : (P : ℕ → Type 0) →
      OnRespWriteIndirectionTable (op_of op n t) P ↔ ((eqb (dop_kind op) table_write_resp ≡ true) × P (dop_id op))
  resp_write_table_iff P = (
    (λ (id, e, p). let k = kind_of_lem table_write_resp (resp_write_indirection_table id) e refl in
        let f : op_of op n t ≡ resp_write_indirection_table (dop_id op) = dop_is table_write_resp k in
        let a : id ≡ dop_id op = cc in (k, rw a at p)),
    (λ (k, p). (dop_id op, dop_is table_write_resp k, p)),
  )

  pub resp_write_node_iff : (P : ℕ → Type 0) →
      OnRespWriteNode (op_of op n t) P ↔ ((eqb (dop_kind op) node_write_resp ≡ true) × P (dop_id op))
  resp_write_node_iff P = (
    (λ (id, e, p). let k = kind_of_lem node_write_resp (resp_write_node id) e refl in
        let f : op_of op n t ≡ resp_write_node (dop_id op) = dop_is node_write_resp k in
        let a : id ≡ dop_id op = cc in (k, rw a at p)),
    (λ (k, p). (dop_id op, dop_is node_write_resp k, p)),
  )

-- THE PHASE

pub ready_is : (c : CacheState) → is_ready c ≡ true → cache_vars c ≡ ready (ready_vars c)
ready_is c = from c.phase
  where
    from : (p : Phase) → ready_phase p ≡ true → vars_in p c ≡ ready (ready_vars c)
    from PhaseUnready k = absurd (false≢true k)
    from PhaseLoading k = absurd (false≢true k)
    from PhaseReady k = refl

pub on_ready_iff : (c : CacheState) (P : Ready → Type 0) → OnReady (cache_vars c) P ↔ ((is_ready c ≡ true) × P (ready_vars c))
on_ready_iff c P = (to c.phase, λ (k, p). (ready_vars c, ready_is c k, p))
  where
    to : (p : Phase) → OnReady (vars_in p c) P → (ready_phase p ≡ true) × P (ready_vars c)
    to PhaseUnready (x, e, p) = absurd (let z : ◌≡◌ {A = ℕ} 0 1 = cc in omega arith)
    to PhaseLoading (x, e, p) = absurd (let z : ◌≡◌ {A = ℕ} 0 1 = cc in omega arith)
    to PhaseReady (x, e, p) = let h : x ≡ ready_vars c = cc in (refl, rw h at p)

pub loading_is : (c : CacheState) → loading_phase c.phase ≡ true →
    cache_vars c ≡ loading_indirection_table c.places.persistent (awaited_id c.awaited)
loading_is c = from c.phase
  where
    from : (p : Phase) → loading_phase p ≡ true → vars_in p c ≡ loading_indirection_table c.places.persistent (awaited_id c.awaited)
    from PhaseUnready k = absurd (false≢true k)
    from PhaseLoading k = refl
    from PhaseReady k = absurd (false≢true k)

pub on_loading_iff : (c : CacheState) (P : Location → Option ℕ → Type 0) →
    OnLoading (cache_vars c) P ↔ ((loading_phase c.phase ≡ true) × P c.places.persistent (awaited_id c.awaited))
on_loading_iff c P = (to c.phase, λ (k, p). (c.places.persistent, awaited_id c.awaited, loading_is c k, p))
  where
    to : (p : Phase) → OnLoading (vars_in p c) P → (loading_phase p ≡ true) × P c.places.persistent (awaited_id c.awaited)
    to PhaseUnready (l, i, e, p) = absurd (let z : ◌≡◌ {A = ℕ} 0 1 = cc in omega arith)
    to PhaseLoading (l, i, e, p) = let h : l ≡ c.places.persistent = cc in let j : i ≡ awaited_id c.awaited = cc in (refl, rw (h, j) at p)
    to PhaseReady (l, i, e, p) = absurd (let z : ◌≡◌ {A = ℕ} 0 1 = cc in omega arith)

pub unready_iff : (c : CacheState) → (cache_vars c ≡ unready) ↔ (unready_phase c.phase ≡ true)
unready_iff c = (to c.phase, from c.phase)
  where
    to : (p : Phase) → vars_in p c ≡ unready → unready_phase p ≡ true
    to PhaseUnready e = refl
    to PhaseLoading e = absurd (let z : ◌≡◌ {A = ℕ} 0 1 = cc in omega arith)
    to PhaseReady e = absurd (let z : ◌≡◌ {A = ℕ} 0 1 = cc in omega arith)

    from : (p : Phase) → unready_phase p ≡ true → vars_in p c ≡ unready
    from PhaseUnready k = refl
    from PhaseLoading k = absurd (false≢true k)
    from PhaseReady k = absurd (false≢true k)
