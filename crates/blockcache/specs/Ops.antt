-- A version operation and a disk operation as numbers: its kind, by name, and what it carries, zeros where it carries none.
use Rattle.std.specs.Prelude.{ℕ, Bool, ◌||◌, false, eqb}
use Rattle.disklayout.specs.Calls.{zero_loc}
use Rattle.blockcache.specs.declared.VersionOp.{VersionOp}
use Rattle.blockcache.specs.declared.VersionOp.TheVariants.{AdvanceOp, CleanUpOp, CrashOp, FreezeOp, JournalInternalOp, PopSyncOp}
use Rattle.blockcache.specs.declared.VersionOp.TheVariants.{PushSyncOp, SendFrozenLocOp, SendPersistentLocOp, StatesInternalOp}
use Rattle.blockdisk.specs.declared.Brought.{Brought}
use Rattle.blockdisk.specs.declared.Brought.TheVariants.{Nothing}
use Rattle.blockdisk.specs.declared.DiskOp.{DiskOp}
use Rattle.blockdisk.specs.declared.DiskOp.TheVariants.{NoDiskOp, ReqReadIndirectionTableOp, ReqReadNodeOp, ReqWriteIndirectionTableOp}
use Rattle.blockdisk.specs.declared.DiskOp.TheVariants.{ReqWriteNodeOp, RespReadIndirectionTableOp, RespReadNodeOp}
use Rattle.blockdisk.specs.declared.DiskOp.TheVariants.{RespWriteIndirectionTableOp, RespWriteNodeOp}
use Rattle.disklayout.specs.declared.Location.{Location}

-- THE KINDS

abbrev pub internal : ℕ
internal = 1

abbrev pub journal_internal : ℕ
journal_internal = 2

abbrev pub send_persistent_loc : ℕ
send_persistent_loc = 3

abbrev pub send_frozen_loc : ℕ
send_frozen_loc = 4

abbrev pub advance : ℕ
advance = 5

abbrev pub freeze : ℕ
freeze = 6

abbrev pub clean_up : ℕ
clean_up = 7

abbrev pub push_sync : ℕ
push_sync = 8

abbrev pub pop_sync : ℕ
pop_sync = 9

abbrev pub crash : ℕ
crash = 10

abbrev pub no_dop : ℕ
no_dop = 0

abbrev pub table_read_req : ℕ
table_read_req = 1

abbrev pub node_read_req : ℕ
node_read_req = 2

abbrev pub table_write_req : ℕ
table_write_req = 3

abbrev pub node_write_req : ℕ
node_write_req = 4

abbrev pub table_read_resp : ℕ
table_read_resp = 5

abbrev pub node_read_resp : ℕ
node_read_resp = 6

abbrev pub table_write_resp : ℕ
table_write_resp = 7

abbrev pub node_write_resp : ℕ
node_write_resp = 8

-- WHAT AN OPERATION IS AND CARRIES

abbrev pub vop_kind : VersionOp → ℕ
vop_kind StatesInternalOp = internal
vop_kind JournalInternalOp = journal_internal
vop_kind (SendPersistentLocOp l) = send_persistent_loc
vop_kind (SendFrozenLocOp l) = send_frozen_loc
vop_kind (AdvanceOp b) = advance
vop_kind FreezeOp = freeze
vop_kind CleanUpOp = clean_up
vop_kind PushSyncOp = push_sync
vop_kind PopSyncOp = pop_sync
vop_kind CrashOp = crash

abbrev pub vop_loc : VersionOp → Location
vop_loc StatesInternalOp = zero_loc
vop_loc JournalInternalOp = zero_loc
vop_loc (SendPersistentLocOp l) = l
vop_loc (SendFrozenLocOp l) = l
vop_loc (AdvanceOp b) = zero_loc
vop_loc FreezeOp = zero_loc
vop_loc CleanUpOp = zero_loc
vop_loc PushSyncOp = zero_loc
vop_loc PopSyncOp = zero_loc
vop_loc CrashOp = zero_loc

-- an AdvanceOp whose uiop is NoOp
abbrev pub vop_no_op : VersionOp → Bool
vop_no_op StatesInternalOp = false
vop_no_op JournalInternalOp = false
vop_no_op (SendPersistentLocOp l) = false
vop_no_op (SendFrozenLocOp l) = false
vop_no_op (AdvanceOp b) = b
vop_no_op FreezeOp = false
vop_no_op CleanUpOp = false
vop_no_op PushSyncOp = false
vop_no_op PopSyncOp = false
vop_no_op CrashOp = false

abbrev pub dop_kind : DiskOp → ℕ
dop_kind (ReqReadIndirectionTableOp id l) = table_read_req
dop_kind (ReqReadNodeOp id l) = node_read_req
dop_kind (ReqWriteIndirectionTableOp id l) = table_write_req
dop_kind (ReqWriteNodeOp id l) = node_write_req
dop_kind (RespReadIndirectionTableOp id b) = table_read_resp
dop_kind (RespReadNodeOp id b) = node_read_resp
dop_kind (RespWriteIndirectionTableOp id) = table_write_resp
dop_kind (RespWriteNodeOp id) = node_write_resp
dop_kind NoDiskOp = no_dop

abbrev pub dop_id : DiskOp → ℕ
dop_id (ReqReadIndirectionTableOp id l) = id
dop_id (ReqReadNodeOp id l) = id
dop_id (ReqWriteIndirectionTableOp id l) = id
dop_id (ReqWriteNodeOp id l) = id
dop_id (RespReadIndirectionTableOp id b) = id
dop_id (RespReadNodeOp id b) = id
dop_id (RespWriteIndirectionTableOp id) = id
dop_id (RespWriteNodeOp id) = id
dop_id NoDiskOp = 0

abbrev pub dop_loc : DiskOp → Location
dop_loc (ReqReadIndirectionTableOp id l) = l
dop_loc (ReqReadNodeOp id l) = l
dop_loc (ReqWriteIndirectionTableOp id l) = l
dop_loc (ReqWriteNodeOp id l) = l
dop_loc (RespReadIndirectionTableOp id b) = zero_loc
dop_loc (RespReadNodeOp id b) = zero_loc
dop_loc (RespWriteIndirectionTableOp id) = zero_loc
dop_loc (RespWriteNodeOp id) = zero_loc
dop_loc NoDiskOp = zero_loc

abbrev pub dop_brought : DiskOp → Brought
dop_brought (ReqReadIndirectionTableOp id l) = Nothing
dop_brought (ReqReadNodeOp id l) = Nothing
dop_brought (ReqWriteIndirectionTableOp id l) = Nothing
dop_brought (ReqWriteNodeOp id l) = Nothing
dop_brought (RespReadIndirectionTableOp id b) = b
dop_brought (RespReadNodeOp id b) = b
dop_brought (RespWriteIndirectionTableOp id) = Nothing
dop_brought (RespWriteNodeOp id) = Nothing
dop_brought NoDiskOp = Nothing

-- V is of this kind, D is of this kind
abbrev pub is_v : ℕ → VersionOp → Bool
is_v k v = eqb (vop_kind v) k

abbrev pub is_d : ℕ → DiskOp → Bool
is_d k o = eqb (dop_kind o) k

-- no D, or an answer: what NoOp takes
abbrev pub is_idle_d : DiskOp → Bool
is_idle_d o = is_d no_dop o || is_d table_read_resp o || is_d node_read_resp o || is_d table_write_resp o || is_d node_write_resp o
