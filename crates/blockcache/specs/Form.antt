-- The cache's one written form: what a phase doesn't have is zeros, and the marks are those of its tables and its outstanding writes, on its device.
use Rattle.std.specs.Prelude.{ℕ, Bool, ◌&&◌, ◌||◌, false, not, true, eqb, leb, ltb}
use Rattle.base.specs.Scan.{all_below}
use Rattle.blockcache.specs.Marks.{blocks_zero, marks_of, no_blocks, same_marks}
use Rattle.blockcache.specs.declared.Awaited.{Awaited}
use Rattle.blockcache.specs.declared.Blocks.{Blocks}
use Rattle.blockcache.specs.declared.CacheState.{CacheState}
use Rattle.blockcache.specs.declared.Call.{Call}
use Rattle.blockcache.specs.declared.Outstanding.{Outstanding}
use Rattle.blockcache.specs.declared.Phase.{Phase}
use Rattle.blockcache.specs.declared.Phase.TheVariants.{Loading, Ready, Unready}
use Rattle.blockcache.specs.declared.Places.{Places}
use Rattle.blockcache.specs.declared.Settings.{Settings}
use Rattle.blockcache.specs.declared.Tables.{Tables}
use Rattle.blockdisk.specs.Form.{is_rule}
use Rattle.disklayout.specs.Device.{made}
use Rattle.disklayout.specs.declared.Location.{Location}
use Rattle.queue.specs.Queue.{empty_requests, request_at, requests_form}
use Rattle.queue.specs.declared.Request.{Request}
use Rattle.queue.specs.declared.Requests.{Requests}
use Rattle.disklayout.specs.Calls.{zero_loc}
use Rattle.sectortype.specs.Form.{empty_nodes, empty_table, loc_zero, node_form, nodes_form, table_form}

abbrev pub ready_phase : Phase → Bool
ready_phase Unready = false
ready_phase Loading = false
ready_phase Ready = true

abbrev pub loading_phase : Phase → Bool
loading_phase Unready = false
loading_phase Loading = true
loading_phase Ready = false

abbrev pub unready_phase : Phase → Bool
unready_phase Unready = true
unready_phase Loading = false
unready_phase Ready = false

abbrev pub is_ready : CacheState → Bool
is_ready c = ready_phase c.phase

-- each request in use passes the test
abbrev pub each_request : (Request → Bool) → Requests → Bool
each_request ok q = all_below (λ k. not (ltb k q.count) || ok (request_at q k)) 16

abbrev pub write_ok : Request → Bool
write_ok w = leb w.reference 63

abbrev pub read_ok : Request → Bool
read_ok w = leb w.reference 63 && loc_zero w.loc

unfoldable pub writes_form : Requests → Bool
writes_form q = requests_form q && each_request write_ok q

unfoldable pub reads_form : Requests → Bool
reads_form q = requests_form q && each_request read_ok q

abbrev pub tables_form : Tables → Bool
tables_form ts = table_form ts.persistent && table_form ts.ephemeral && table_form ts.frozen && (ts.isfrozen || eqb ts.frozen.count 0)

abbrev pub places_form : Places → Bool
places_form ps = ps.isfrozen || loc_zero ps.frozen

abbrev pub awaited_form : Awaited → Bool
awaited_form a = a.waiting || eqb a.id 0

abbrev pub outstanding_form : Outstanding → Bool
outstanding_form o = writes_form o.writes && reads_form o.reads

-- no table, no frozen place, nothing outstanding, nothing cached
unfoldable pub idle : CacheState → Bool
idle c =
    eqb c.tables.persistent.count 0 && eqb c.tables.ephemeral.count 0 && not c.tables.isfrozen && not c.places.isfrozen
    && eqb c.outstanding.writes.count 0 && eqb c.outstanding.reads.count 0 && eqb c.nodes.count 0

abbrev pub form_in : Phase → CacheState → Bool
form_in Unready c = idle c && loc_zero c.places.persistent && not c.awaited.waiting
form_in Loading c = idle c
form_in Ready c = true

unfoldable pub phase_form : CacheState → Bool
phase_form c = form_in c.phase c

-- each part by itself, and what the phase doesn't have
unfoldable pub parts_form : CacheState → Bool
parts_form c =
    tables_form c.tables && places_form c.places && awaited_form c.awaited && outstanding_form c.outstanding && nodes_form c.nodes && phase_form c

-- in Ready the marks are those of the tables and the outstanding writes, and the block given last is one of the 128; outside Ready both are zeros
abbrev pub blocks_in : Phase → ℕ → Blocks → Tables → Requests → Bool
blocks_in Unready d b ts writes = blocks_zero b
blocks_in Loading d b ts writes = blocks_zero b
blocks_in Ready d b ts writes = same_marks b.marks (marks_of d ts writes) && leb b.last 127

unfoldable pub blocks_form : ℕ → CacheState → Bool
blocks_form d c = blocks_in c.phase d c.blocks c.tables c.outstanding.writes

-- the form names the device: its row says which address is which block's
unfoldable pub cache_form : ℕ → CacheState → Bool
cache_form d c = parts_form c && blocks_form d c

-- a device that is made, and a freeze rule
abbrev pub settings_form : Settings → Bool
settings_form g = made g.device && is_rule g.rule

-- the reference is one, node and table are in their written form
abbrev pub call_form : Call → Bool
call_form q = leb q.reference 63 && node_form q.node && table_form q.table

abbrev pub empty_tables : Tables
empty_tables = record { persistent = empty_table; ephemeral = empty_table; isfrozen = false; frozen = empty_table }

abbrev pub not_waiting : Awaited
not_waiting = record { waiting = false; id = 0 }

-- a cache before Ready: a place at the most
abbrev pub loading_at : Phase → Location → CacheState
loading_at p l =
    record {
      phase = p;
      tables = empty_tables;
      places = record { persistent = l; isfrozen = false; frozen = zero_loc };
      awaited = not_waiting;
      outstanding = record { writes = empty_requests; reads = empty_requests };
      nodes = empty_nodes;
      blocks = no_blocks;
    }

abbrev pub empty_cache : CacheState
empty_cache = loading_at Unready zero_loc
