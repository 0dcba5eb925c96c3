-- Upstream's NextStep: what each step may do to the variables of a cache.
use Rattle.std.specs.Prelude.{ℕ, Bool, true, ◌⊎◌, ◌≡◌}
use Rattle.std.proofs.Math.Option.{Option}
use Rattle.blockcache.specs.Steps.{Step, alloc_step, clean_up_step, crash_step, dirty_step, evict_step, freeze_step, let_go_step}
use Rattle.blockcache.specs.Steps.{no_op_step, page_in_indirection_table_req_step, page_in_indirection_table_resp_step}
use Rattle.blockcache.specs.Steps.{page_in_node_req_step, page_in_node_resp_step, read_step, receive_loc_step, transaction_step}
use Rattle.blockcache.specs.Steps.{unalloc_step, write_back_indirection_table_req_step, write_back_indirection_table_resp_step}
use Rattle.blockcache.specs.Steps.{write_back_node_req_step, write_back_node_resp_step}
use Rattle.blockcache.specs.Upstream.{Alloc, CleanUp, Dirty, Evict, Freeze, Init, NoOp, PageInIndirectionTableReq}
use Rattle.blockcache.specs.Upstream.{PageInIndirectionTableResp, PageInNodeReq, PageInNodeResp, ReadStep, Ready, ReceiveLoc, Unalloc}
use Rattle.blockcache.specs.Upstream.{Variables, WriteBackIndirectionTableReq, WriteBackIndirectionTableResp, WriteBackNodeReq}
use Rattle.blockcache.specs.Upstream.{WriteBackNodeResp, loading_indirection_table, ready}
use Rattle.blockcache.specs.declared.VersionOp.{VersionOp}
use Rattle.blockcache.specs.declared.VersionOp.TheVariants.{AdvanceOp, CleanUpOp, CrashOp, FreezeOp, JournalInternalOp, PopSyncOp}
use Rattle.blockcache.specs.declared.VersionOp.TheVariants.{PushSyncOp, SendFrozenLocOp, SendPersistentLocOp, StatesInternalOp}
use Rattle.blockdisk.specs.Upstream.{Dop, no_disk_op, req_read_indirection_table, req_read_node, req_write_indirection_table}
use Rattle.blockdisk.specs.Upstream.{req_write_node, resp_read_indirection_table, resp_read_node, resp_write_indirection_table}
use Rattle.blockdisk.specs.Upstream.{resp_write_node}
use Rattle.disklayout.specs.declared.Location.{Location}
use Rattle.sectortype.specs.Abstract.{IndirectionTable}
use Rattle.sectortype.specs.declared.Node.{Node}

-- WHAT KIND OF STATE AND OPERATION: s.Ready? and the like, with the parts

-- s.Ready?
abbrev pub OnReady : Variables → (Ready → Type 0) → Type 0
OnReady s P = (x : Ready) × (s ≡ ready x) × P x

-- s.Ready? && s'.Ready?
abbrev pub OnBoth : Variables → Variables → (Ready → Ready → Type 0) → Type 0
OnBoth s s' P = OnReady s (λ x. OnReady s' (λ y. P x y))

-- s.LoadingIndirectionTable?
abbrev pub OnLoading : Variables → (Location → Option ℕ → Type 0) → Type 0
OnLoading s P = (at : Location) × (read : Option ℕ) × (s ≡ loading_indirection_table at read) × P at read

abbrev pub OnReqReadIndirectionTable : Dop → (ℕ → Location → Type 0) → Type 0
OnReqReadIndirectionTable dop P = (id : ℕ) × (loc : Location) × (dop ≡ req_read_indirection_table id loc) × P id loc

abbrev pub OnReqReadNode : Dop → (ℕ → Location → Type 0) → Type 0
OnReqReadNode dop P = (id : ℕ) × (loc : Location) × (dop ≡ req_read_node id loc) × P id loc

abbrev pub OnReqWriteIndirectionTable : Dop → (ℕ → Location → IndirectionTable → Type 0) → Type 0
OnReqWriteIndirectionTable dop P =
    (id : ℕ) × (loc : Location) × (t : IndirectionTable) × (dop ≡ req_write_indirection_table id loc t) × P id loc t

abbrev pub OnReqWriteNode : Dop → (ℕ → Location → Node → Type 0) → Type 0
OnReqWriteNode dop P = (id : ℕ) × (loc : Location) × (n : Node) × (dop ≡ req_write_node id loc n) × P id loc n

abbrev pub OnRespReadIndirectionTable : Dop → (ℕ → Option IndirectionTable → Type 0) → Type 0
OnRespReadIndirectionTable dop P = (id : ℕ) × (t : Option IndirectionTable) × (dop ≡ resp_read_indirection_table id t) × P id t

abbrev pub OnRespReadNode : Dop → (ℕ → Option Node → Type 0) → Type 0
OnRespReadNode dop P = (id : ℕ) × (n : Option Node) × (dop ≡ resp_read_node id n) × P id n

abbrev pub OnRespWriteIndirectionTable : Dop → (ℕ → Type 0) → Type 0
OnRespWriteIndirectionTable dop P = (id : ℕ) × (dop ≡ resp_write_indirection_table id) × P id

abbrev pub OnRespWriteNode : Dop → (ℕ → Type 0) → Type 0
OnRespWriteNode dop P = (id : ℕ) × (dop ≡ resp_write_node id) × P id

-- Transaction: vop.AdvanceOp? && dop.NoDiskOp?
abbrev pub TransactionOp : Dop → VersionOp → Type 0
TransactionOp dop vop = ((b : Bool) × (vop ≡ AdvanceOp b)) × (dop ≡ no_disk_op)

-- the version operations of NoOp
abbrev pub IdleVop : VersionOp → Type 0
IdleVop vop = (vop ≡ StatesInternalOp) ⊎ ((vop ≡ JournalInternalOp) ⊎ ((vop ≡ PushSyncOp) ⊎ (vop ≡ PopSyncOp)))

-- BlockSystem's crash, the cache's half: V is CrashOp and M.Init(s')
abbrev pub Crashed : Variables → VersionOp → Type 0
Crashed s' vop = (vop ≡ CrashOp) × Init s'

-- the step with the reference and the node of the call
module _ (d : ℕ) (s s' : Variables) (dop : Dop) (vop : VersionOp) (ref : ℕ) (n : Node) where
  abbrev pub NextStep : Step → Type 0
  NextStep write_back_node_req_step =
      (vop ≡ StatesInternalOp) × OnReqWriteNode dop (λ id loc node. OnBoth s s' (λ x y. WriteBackNodeReq d x y id loc node ref))
  NextStep write_back_node_resp_step = (vop ≡ StatesInternalOp) × OnRespWriteNode dop (λ id. OnBoth s s' (λ x y. WriteBackNodeResp x y id))
  NextStep write_back_indirection_table_req_step =
      (vop ≡ StatesInternalOp) × OnReqWriteIndirectionTable dop
      (λ id loc t. OnBoth s s' (λ x y. WriteBackIndirectionTableReq d x y id loc t))
  NextStep write_back_indirection_table_resp_step =
      (vloc : Location) × (vop ≡ SendFrozenLocOp vloc)
      × OnRespWriteIndirectionTable dop (λ id. OnBoth s s' (λ x y. WriteBackIndirectionTableResp x y id vloc))
  -- AdvanceOp whose uiop is NoOp
  NextStep unalloc_step = (vop ≡ AdvanceOp true) × (dop ≡ no_disk_op) × OnBoth s s' (λ x y. Unalloc x y ref)
  NextStep page_in_node_req_step =
      (vop ≡ StatesInternalOp) × OnReqReadNode dop (λ id loc. OnBoth s s' (λ x y. PageInNodeReq x y id loc ref))
  NextStep page_in_node_resp_step =
      (vop ≡ StatesInternalOp) × OnRespReadNode dop (λ id node. OnBoth s s' (λ x y. PageInNodeResp x y id node))
  NextStep page_in_indirection_table_req_step =
      (vop ≡ StatesInternalOp) × OnReqReadIndirectionTable dop
      (λ id loc. OnLoading s (λ at read. PageInIndirectionTableReq at read s' id loc))
  NextStep page_in_indirection_table_resp_step =
      (vop ≡ StatesInternalOp) × OnRespReadIndirectionTable dop
      (λ id t. OnLoading s (λ at read. OnReady s' (λ y. PageInIndirectionTableResp d at read y id t)))
  NextStep receive_loc_step = (dop ≡ no_disk_op) × ((vloc : Location) × (vop ≡ SendPersistentLocOp vloc) × ReceiveLoc d s s' vloc)
  NextStep evict_step = (vop ≡ StatesInternalOp) × (dop ≡ no_disk_op) × OnBoth s s' (λ x y. Evict x y ref)
  NextStep freeze_step = (vop ≡ FreezeOp) × (dop ≡ no_disk_op) × OnBoth s s' (λ x y. Freeze x y)
  NextStep clean_up_step = (vop ≡ CleanUpOp) × (dop ≡ no_disk_op) × OnBoth s s' (λ x y. CleanUp x y)
  NextStep no_op_step = IdleVop vop × NoOp s s' dop
  NextStep dirty_step = TransactionOp dop vop × OnBoth s s' (λ x y. Dirty x y ref n)
  NextStep alloc_step = TransactionOp dop vop × OnBoth s s' (λ x y. Alloc x y ref n)
  NextStep read_step = (s' ≡ s) × OnReady s (λ x. (node : Node) × ReadStep x ref node)
  NextStep crash_step = Crashed s' vop
  -- upstream has no such step: LetGo.antt says what it does
  NextStep let_go_step = ⊥
  -- Transaction with an empty list: OpTransaction over no operation
  NextStep transaction_step = TransactionOp dop vop × (s' ≡ s) × OnReady s (λ x. Unit {0})
