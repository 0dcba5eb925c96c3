-- The refusals of each step, a row for each condition of documents 01 and 02, by its number. "Allocated" means in the ephemeral graph.
use Rattle.std.specs.Prelude.{ℕ, Bool, ◌&&◌, ◌||◌, not, true, List, [], ◌∷◌, eqb, leb}
use Rattle.base.specs.Refusals.{Row, ◌when◌}
use Rattle.blockcache.specs.Form.{is_ready, loading_phase, ready_phase, unready_phase}
use Rattle.blockcache.specs.Ops.{advance, clean_up, crash, dop_brought, dop_id, dop_loc, freeze, internal, is_d, is_idle_d, is_v}
use Rattle.blockcache.specs.Ops.{journal_internal, no_dop, node_read_req, node_read_resp, node_write_req, node_write_resp, pop_sync}
use Rattle.blockcache.specs.Ops.{push_sync, send_frozen_loc, send_persistent_loc, table_read_req, table_read_resp, table_write_req}
use Rattle.blockcache.specs.Ops.{table_write_resp, vop_loc, vop_no_op}
use Rattle.blockcache.specs.Scan.{has_predecessor, held_in, needs_cached, node_rejected, reads, table_rejected, writes_to}
use Rattle.blockcache.specs.Steps.{Step, alloc_step, clean_up_step, crash_step, dirty_step, evict_step, freeze_step, let_go_step}
use Rattle.blockcache.specs.Steps.{no_op_step, page_in_indirection_table_req_step, page_in_indirection_table_resp_step}
use Rattle.blockcache.specs.Steps.{page_in_node_req_step, page_in_node_resp_step, read_step, receive_loc_step, transaction_step}
use Rattle.blockcache.specs.Steps.{unalloc_step}
use Rattle.blockcache.specs.Steps.{write_back_indirection_table_req_step, write_back_indirection_table_resp_step}
use Rattle.blockcache.specs.Steps.{write_back_node_req_step, write_back_node_resp_step}
use Rattle.blockcache.specs.declared.Awaited.{Awaited}
use Rattle.blockcache.specs.declared.CacheState.{CacheState}
use Rattle.blockcache.specs.declared.Call.{Call}
use Rattle.blockcache.specs.declared.Phase.{Phase}
use Rattle.blockcache.specs.declared.Settings.{Settings}
use Rattle.blockcache.specs.declared.VersionOp.{VersionOp}
use Rattle.blockdisk.specs.declared.DiskOp.{DiskOp}
use Rattle.disklayout.specs.Calls.{holds_on}
use Rattle.disklayout.specs.Device.{device_of}
use Rattle.disklayout.specs.Layout.{valid_indirection_table_location, valid_node_location, overlap, same_loc}
use Rattle.disklayout.specs.declared.Location.{Location}
use Rattle.queue.specs.Queue.{entry_of, has_of}
use Rattle.queue.specs.declared.Requests.{Requests}
use Rattle.sectortype.specs.Form.{entry_at, slot_at}
use Rattle.sectortype.specs.Graph.{locs_complete, within}
use Rattle.sectortype.specs.Same.{same_node, same_table}
use Rattle.sectortype.specs.declared.Entry.{Entry}
use Rattle.sectortype.specs.declared.Slot.{Slot}

-- THE ANSWER OF A READ

-- it comes in its phase: a node's in Ready, a table's in Loading
unfoldable pub answer_phase : Phase → DiskOp → Bool
answer_phase p o = (is_d node_read_resp o && ready_phase p) || (is_d table_read_resp o && loading_phase p)

-- the awaited table request has this id; in Loading it is a read, in Ready a write
abbrev pub awaits_table : Awaited → ℕ → Bool
awaits_table a id = a.waiting && eqb a.id id

-- it comes in its phase, and the cache awaits its id
unfoldable pub awaits_read : CacheState → DiskOp → Bool
awaits_read c o =
    answer_phase c.phase o
    && ((is_d node_read_resp o && has_of c.outstanding.reads (dop_id o)) || (is_d table_read_resp o && awaits_table c.awaited (dop_id o)))

-- the answer of a write that a Ready cache awaits
abbrev pub awaits_write : CacheState → DiskOp → Bool
awaits_write c o =
    (is_d table_write_resp o && awaits_table c.awaited (dop_id o)) || (is_d node_write_resp o && has_of c.outstanding.writes (dop_id o))

-- THE FREEZE RULE

-- under rule 2 a frozen place that is set is held: no Freeze drops it
abbrev pub frozen_held : Settings → CacheState → Bool
frozen_held g c = eqb g.rule 2 && c.places.isfrozen

-- V, D AND THE PHASE

-- whether the version operation, the disk operation and the phase are the step's
pub record Takes : Type 0 where
  pub version : Bool
  pub disk : Bool
  pub phase : Bool

abbrev pub taking : Bool → Bool → Bool → Takes
taking v o p = record { version = v; disk = o; phase = p }

module _ (p : Phase) (v : VersionOp) (o : DiskOp) where
  abbrev pub takes : Step → Takes
  takes write_back_node_req_step = taking (is_v internal v) (is_d node_write_req o) (ready_phase p)
  takes write_back_node_resp_step = taking (is_v internal v) (is_d node_write_resp o) (ready_phase p)
  takes write_back_indirection_table_req_step = taking (is_v internal v) (is_d table_write_req o) (ready_phase p)
  takes write_back_indirection_table_resp_step = taking (is_v send_frozen_loc v) (is_d table_write_resp o) (ready_phase p)
  takes unalloc_step = taking (vop_no_op v) (is_d no_dop o) (ready_phase p)
  takes page_in_node_req_step = taking (is_v internal v) (is_d node_read_req o) (ready_phase p)
  takes page_in_node_resp_step = taking (is_v internal v) (is_d node_read_resp o) (ready_phase p)
  takes page_in_indirection_table_req_step = taking (is_v internal v) (is_d table_read_req o) (loading_phase p)
  takes page_in_indirection_table_resp_step = taking (is_v internal v) (is_d table_read_resp o) (loading_phase p)
  takes receive_loc_step = taking (is_v send_persistent_loc v) (is_d no_dop o) (unready_phase p)
  takes evict_step = taking (is_v internal v) (is_d no_dop o) (ready_phase p)
  takes freeze_step = taking (is_v freeze v) (is_d no_dop o) (ready_phase p)
  takes clean_up_step = taking (is_v clean_up v) (is_d no_dop o) (ready_phase p)
  takes no_op_step =
      taking (is_v internal v || is_v journal_internal v || is_v push_sync v || is_v pop_sync v) (is_idle_d o) true
  takes dirty_step = taking (is_v advance v) (is_d no_dop o) (ready_phase p)
  takes alloc_step = taking (is_v advance v) (is_d no_dop o) (ready_phase p)
  takes read_step = taking true true (ready_phase p)
  takes crash_step = taking (is_v crash v) true true
  takes let_go_step = taking (is_v internal v) (is_d node_read_resp o || is_d table_read_resp o) (answer_phase p o)
  takes transaction_step = taking (is_v advance v) (is_d no_dop o) (ready_phase p)

-- 2, 3 and 4 come before a step's own conditions
abbrev pub gate : Takes → List Row → List Row
gate t rest =
    (2 when not t.version) ∷
    (3 when not t.disk) ∷
    (4 when not t.phase) ∷
    rest

-- A STEP'S OWN CONDITIONS

module _ (g : Settings) (c : CacheState) (q : Call) where
  abbrev d : ℕ
  d = g.device

  abbrev r : ℕ
  r = q.reference

  abbrev entry : Entry
  entry = entry_at c.tables.ephemeral r

  abbrev slot : Slot
  slot = slot_at c.nodes r

  abbrev id : ℕ
  id = dop_id q.dop

  abbrev loc : Location
  loc = dop_loc q.dop

  abbrev vloc : Location
  vloc = vop_loc q.vop

  abbrev writes : Requests
  writes = c.outstanding.writes

  abbrev reading : Requests
  reading = c.outstanding.reads

  abbrev awaits : Bool
  awaits = awaits_table c.awaited id

  -- the reference of the awaited read that a node read answer is for
  abbrev pub read_ref : ℕ
  read_ref = (entry_of reading id).reference

  abbrev pub own_rows : Step → List Row
  own_rows write_back_node_req_step =
      (5 when has_of writes id) ∷
      (6 when (not (holds_on d (valid_node_location (device_of d) loc)) || eqb loc.len 0)) ∷
      (7 when held_in c.tables writes loc.addr) ∷
      (8 when not slot.present) ∷
      (9 when (slot.present && not (same_node slot.node q.node))) ∷
      (10 when c.awaited.waiting) ∷
      (14 when leb 16 writes.count) ∷
      []
  own_rows write_back_node_resp_step =
      (5 when not (has_of writes id)) ∷
      []
  own_rows write_back_indirection_table_req_step =
      (6 when (not (holds_on d (valid_indirection_table_location (device_of d) loc)) || holds_on d (overlap loc c.places.persistent))) ∷
      (9 when (c.tables.isfrozen && not (same_table c.tables.frozen q.table))) ∷
      (10 when not (eqb writes.count 0)) ∷
      (11 when (not c.tables.isfrozen || not (locs_complete c.tables.frozen) || c.places.isfrozen)) ∷
      []
  own_rows write_back_indirection_table_resp_step =
      (5 when not awaits) ∷
      (6 when not (c.places.isfrozen && same_loc c.places.frozen vloc)) ∷
      []
  own_rows unalloc_step =
      (8 when not entry.allocated) ∷
      (10 when reads reading r) ∷
      (11 when needs_cached c.tables r) ∷
      (12 when (eqb r 0 || has_predecessor c.tables.ephemeral r)) ∷
      []
  own_rows page_in_node_req_step =
      (5 when has_of reading id) ∷
      (6 when (entry.located && not (same_loc entry.loc loc))) ∷
      (8 when (not entry.allocated || not entry.located || slot.present)) ∷
      (10 when reads reading r) ∷
      (14 when leb 16 reading.count) ∷
      []
  own_rows page_in_node_resp_step =
      (5 when not (has_of reading id)) ∷
      (8 when (has_of reading id && ((slot_at c.nodes read_ref).present || not (entry_at c.tables.ephemeral read_ref).allocated))) ∷
      (9 when node_rejected (dop_brought q.dop) (has_of reading id) (entry_at c.tables.ephemeral read_ref) q.node) ∷
      []
  own_rows page_in_indirection_table_req_step =
      (6 when not (same_loc loc c.places.persistent)) ∷
      (10 when c.awaited.waiting) ∷
      []
  own_rows page_in_indirection_table_resp_step =
      (5 when not awaits) ∷
      (9 when table_rejected (dop_brought q.dop) d q.table) ∷
      []
  own_rows receive_loc_step =
      (6 when not (holds_on d (valid_indirection_table_location (device_of d) vloc))) ∷
      []
  own_rows evict_step =
      (8 when (not slot.present || (entry.allocated && not entry.located))) ∷
      (10 when (entry.allocated && entry.located && writes_to writes r entry.loc)) ∷
      (11 when needs_cached c.tables r) ∷
      []
  own_rows freeze_step =
      (10 when c.awaited.waiting) ∷
      (25 when frozen_held g c) ∷
      []
  own_rows clean_up_step =
      (10 when c.awaited.waiting) ∷  -- the frozen table's write
      (11 when (not c.places.isfrozen || not c.tables.isfrozen)) ∷
      []
  own_rows no_op_step =
      (5 when (is_ready c && ((is_d table_write_resp q.dop && awaits) || (is_d node_write_resp q.dop && has_of writes id)))) ∷
      (22 when awaits_read c q.dop) ∷  -- let go takes it
      []
  own_rows dirty_step =
      (8 when (not slot.present || not entry.allocated)) ∷
      (11 when needs_cached c.tables r) ∷  -- the node as it was frozen
      (13 when not (within c.tables.ephemeral q.node.succs)) ∷
      []
  own_rows alloc_step =
      (8 when (slot.present || entry.allocated)) ∷
      (13 when not (within c.tables.ephemeral q.node.succs)) ∷
      []
  own_rows read_step =
      (8 when (not entry.allocated || not slot.present)) ∷
      []
  own_rows crash_step = []
  own_rows let_go_step =
      (5 when not (awaits_read c q.dop)) ∷
      []
  own_rows transaction_step = []  -- an empty list; Operations.antt has the others

  abbrev pub step_rows : Step → List Row
  step_rows step = gate (takes c.phase q.vop q.dop step) (own_rows step)
