-- What is left of a disk that nothing is written to (document 02, Q-12): every table and node that was stored is stored unchanged, and no
-- write is outstanding.
use Rattle.std.specs.Prelude.{ℕ, Bool, ◌&&◌, false, true, ◌≡◌, eqb}
use Rattle.blockdisk.specs.Records.{node_record_at, table_record_at}
use Rattle.blockdisk.specs.declared.DiskOp.{DiskOp}
use Rattle.blockdisk.specs.declared.DiskOp.TheVariants.{NoDiskOp, ReqReadIndirectionTableOp, ReqReadNodeOp, ReqWriteIndirectionTableOp}
use Rattle.blockdisk.specs.declared.DiskOp.TheVariants.{ReqWriteNodeOp, RespReadIndirectionTableOp, RespReadNodeOp}
use Rattle.blockdisk.specs.declared.DiskOp.TheVariants.{RespWriteIndirectionTableOp, RespWriteNodeOp}
use Rattle.blockdisk.specs.declared.DiskState.{DiskState}
use Rattle.blockdisk.specs.declared.Records.{Records}

-- a request to write; every other operation asks to read, answers, or is none
abbrev pub is_write_req : DiskOp → Bool
is_write_req (ReqReadIndirectionTableOp id l) = false
is_write_req (ReqReadNodeOp id l) = false
is_write_req (ReqWriteIndirectionTableOp id l) = true
is_write_req (ReqWriteNodeOp id l) = true
is_write_req (RespReadIndirectionTableOp id b) = false
is_write_req (RespReadNodeOp id b) = false
is_write_req (RespWriteIndirectionTableOp id) = false
is_write_req (RespWriteNodeOp id) = false
is_write_req NoDiskOp = false

-- no write of a table and none of a node is outstanding; asked of any disk, in its written form or not
abbrev pub has_no_writes : DiskState → Bool
has_no_writes s = eqb s.queues.tablewrites.count 0 && eqb s.queues.nodewrites.count 0

-- every area and every block that held a record holds the very same one: the table or the node, and its place
pub record StoredUnchanged (old new : Records) : Type 0 where
  pub tables : (k : ℕ) → (table_record_at old k).present ≡ true → table_record_at new k ≡ table_record_at old k
  pub nodes : (k : ℕ) → (node_record_at old k).present ≡ true → node_record_at new k ≡ node_record_at old k

pub record Unwritten (s s' : DiskState) : Type 0 where
  pub stored : StoredUnchanged s.records s'.records
  pub none_outstanding : has_no_writes s' ≡ true
