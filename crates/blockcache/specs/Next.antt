-- The next cache of each step: only what a step sets; every other part goes through a setter, one for each group of fields. The marks, which every
-- next cache has, are set once, after the step's own part.
use Rattle.std.specs.Prelude.{ℕ, ◌&&◌, cond, false, not, true}
use Rattle.blockcache.specs.Form.{empty_cache, loading_at, not_waiting}
use Rattle.blockcache.specs.Ops.{dop_id, dop_loc, is_d, node_read_resp, vop_loc}
use Rattle.blockcache.specs.Steps.{Step, alloc_step, clean_up_step, crash_step, dirty_step, evict_step, freeze_step, let_go_step}
use Rattle.blockcache.specs.Steps.{no_op_step, page_in_indirection_table_req_step, page_in_indirection_table_resp_step}
use Rattle.blockcache.specs.Steps.{page_in_node_req_step, page_in_node_resp_step, read_step, receive_loc_step, transaction_step}
use Rattle.blockcache.specs.Steps.{unalloc_step, write_back_indirection_table_req_step, write_back_indirection_table_resp_step}
use Rattle.blockcache.specs.Steps.{write_back_node_req_step, write_back_node_resp_step}
use Rattle.blockcache.specs.Marks.{marks_of}
use Rattle.blockcache.specs.declared.Awaited.{Awaited}
use Rattle.blockcache.specs.declared.Blocks.{Blocks}
use Rattle.blockcache.specs.declared.CacheState.{CacheState}
use Rattle.blockcache.specs.declared.Call.{Call}
use Rattle.blockcache.specs.declared.Marks.{Marks}
use Rattle.blockcache.specs.declared.Outstanding.{Outstanding}
use Rattle.blockcache.specs.declared.Phase.{Phase}
use Rattle.blockcache.specs.declared.Phase.TheVariants.{Loading, Ready}
use Rattle.blockcache.specs.declared.Places.{Places}
use Rattle.blockcache.specs.declared.Tables.{Tables}
use Rattle.disklayout.specs.declared.Location.{Location}
use Rattle.queue.specs.Queue.{entry_of, insert_of, remove_of}
use Rattle.queue.specs.declared.Requests.{Requests}
use Rattle.disklayout.specs.Calls.{zero_loc}
use Rattle.sectortype.specs.Form.{empty_table, entry_at, with_entry, with_slot, zero_entry, zero_slot}
use Rattle.sectortype.specs.declared.Entry.{Entry}
use Rattle.sectortype.specs.declared.Node.{Node}
use Rattle.sectortype.specs.declared.Nodes.{Nodes}
use Rattle.sectortype.specs.declared.Slot.{Slot}
use Rattle.sectortype.specs.declared.Succs.{Succs}
use Rattle.sectortype.specs.declared.Table.{Table}

-- THE SETTERS

abbrev pub with_phase : CacheState → Phase → CacheState
with_phase c p = record { phase = p; tables = c.tables; places = c.places; awaited = c.awaited; outstanding = c.outstanding; nodes = c.nodes; blocks = c.blocks }

abbrev pub with_tables : CacheState → Tables → CacheState
with_tables c ts = record { phase = c.phase; tables = ts; places = c.places; awaited = c.awaited; outstanding = c.outstanding; nodes = c.nodes; blocks = c.blocks }

abbrev pub with_places : CacheState → Places → CacheState
with_places c ps = record { phase = c.phase; tables = c.tables; places = ps; awaited = c.awaited; outstanding = c.outstanding; nodes = c.nodes; blocks = c.blocks }

abbrev pub with_awaited : CacheState → Awaited → CacheState
with_awaited c a = record { phase = c.phase; tables = c.tables; places = c.places; awaited = a; outstanding = c.outstanding; nodes = c.nodes; blocks = c.blocks }

abbrev pub with_outstanding : CacheState → Outstanding → CacheState
with_outstanding c o = record { phase = c.phase; tables = c.tables; places = c.places; awaited = c.awaited; outstanding = o; nodes = c.nodes; blocks = c.blocks }

abbrev pub with_nodes : CacheState → Nodes → CacheState
with_nodes c m = record { phase = c.phase; tables = c.tables; places = c.places; awaited = c.awaited; outstanding = c.outstanding; nodes = m; blocks = c.blocks }

abbrev pub with_blocks : CacheState → Blocks → CacheState
with_blocks c b = record { phase = c.phase; tables = c.tables; places = c.places; awaited = c.awaited; outstanding = c.outstanding; nodes = c.nodes; blocks = b }

abbrev pub with_marks : CacheState → Marks → CacheState
with_marks c m = with_blocks c (record { marks = m; last = c.blocks.last })

abbrev pub with_last : CacheState → ℕ → CacheState
with_last c b = with_blocks c (record { marks = c.blocks.marks; last = b })

abbrev pub with_ephemeral : CacheState → Table → CacheState
with_ephemeral c t =
    with_tables c (record { persistent = c.tables.persistent; ephemeral = t; isfrozen = c.tables.isfrozen; frozen = c.tables.frozen })

abbrev pub with_writes : CacheState → Requests → CacheState
with_writes c w = with_outstanding c (record { writes = w; reads = c.outstanding.reads })

abbrev pub with_reads : CacheState → Requests → CacheState
with_reads c r = with_outstanding c (record { writes = c.outstanding.writes; reads = r })

-- WHAT IS SET

-- assign_ref_to_location
unfoldable pub assigned : Table → ℕ → Location → Table
assigned t r l =
    cond ((entry_at t r).allocated && not (entry_at t r).located)
    (with_entry t r (record { allocated = true; located = true; loc = l; succs = (entry_at t r).succs }))
    t

abbrev pub waiting_for : ℕ → Awaited
waiting_for id = record { waiting = true; id = id }

-- a reference's node set: its own list into the graph, order and repeats kept, and no location
abbrev pub unlocated : Succs → Entry
unlocated s = record { allocated = true; located = false; loc = zero_loc; succs = s }

abbrev pub cached_slot : Node → Slot
cached_slot n = record { present = true; node = n }

-- a table loaded; the chooser starts as though block 127, the last, had been given
abbrev pub loaded : CacheState → Table → CacheState
loaded c t = with_last (with_phase (with_awaited (with_tables c (record { persistent = t; ephemeral = t; isfrozen = false; frozen = empty_table })) not_waiting) Ready) 127

-- THE STEPS

module _ (c : CacheState) (q : Call) where
  abbrev r : ℕ
  r = q.reference

  abbrev id : ℕ
  id = dop_id q.dop

  abbrev loc : Location
  loc = dop_loc q.dop

  -- a reference's node set, by Dirty and Alloc
  abbrev pub node_set : CacheState
  node_set =
      with_nodes (with_ephemeral c (with_entry c.tables.ephemeral r (unlocated q.node.succs))) (with_slot c.nodes r (cached_slot q.node))

  abbrev pub step_next : Step → CacheState
  step_next write_back_node_req_step =
      with_writes
      (with_tables c
      (record { persistent = c.tables.persistent; ephemeral = assigned c.tables.ephemeral r loc; isfrozen = c.tables.isfrozen; frozen = assigned c.tables.frozen r loc }))
      (insert_of c.outstanding.writes (record { id = id; reference = r; loc = loc }))
  step_next write_back_node_resp_step = with_writes c (remove_of c.outstanding.writes id)
  step_next write_back_indirection_table_req_step =
      with_awaited (with_places c (record { persistent = c.places.persistent; isfrozen = true; frozen = loc })) (waiting_for id)
  step_next write_back_indirection_table_resp_step = with_awaited c not_waiting
  step_next unalloc_step = with_nodes (with_ephemeral c (with_entry c.tables.ephemeral r zero_entry)) (with_slot c.nodes r zero_slot)
  step_next page_in_node_req_step = with_reads c (insert_of c.outstanding.reads (record { id = id; reference = r; loc = zero_loc }))
  step_next page_in_node_resp_step =
      with_reads (with_nodes c (with_slot c.nodes (entry_of c.outstanding.reads id).reference (cached_slot q.node)))
      (remove_of c.outstanding.reads id)
  step_next page_in_indirection_table_req_step = with_awaited c (waiting_for id)
  step_next page_in_indirection_table_resp_step = loaded c q.table
  step_next receive_loc_step = loading_at Loading (vop_loc q.vop)
  step_next evict_step = with_nodes c (with_slot c.nodes r zero_slot)
  -- a frozen place, if set, is dropped
  step_next freeze_step =
      with_places
      (with_tables c (record { persistent = c.tables.persistent; ephemeral = c.tables.ephemeral; isfrozen = true; frozen = c.tables.ephemeral }))
      (record { persistent = c.places.persistent; isfrozen = false; frozen = zero_loc })
  step_next clean_up_step =
      with_places
      (with_tables c (record { persistent = c.tables.frozen; ephemeral = c.tables.ephemeral; isfrozen = false; frozen = empty_table }))
      (record { persistent = c.places.frozen; isfrozen = false; frozen = zero_loc })
  step_next no_op_step = c
  step_next dirty_step = node_set
  step_next alloc_step = node_set
  step_next read_step = c
  step_next crash_step = empty_cache
  -- the wait for the answered read, and nothing else
  step_next let_go_step = cond (is_d node_read_resp q.dop) (with_reads c (remove_of c.outstanding.reads id)) (with_awaited c not_waiting)
  -- an empty list
  step_next transaction_step = c

-- THE MARKS: whatever the step, they are those of the next tables and outstanding writes
abbrev pub marks_renewed : ℕ → CacheState → CacheState
marks_renewed d c = with_marks c (marks_of d c.tables c.outstanding.writes)
