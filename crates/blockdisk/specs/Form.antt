-- The disk's one written form on device d.
use Rattle.std.specs.Prelude.{ℕ, Bool, ◌&&◌, ◌||◌, not, List, eqb, ltb, get_or, length}
use Rattle.base.specs.Scan.{all_below}
use Rattle.blockdisk.specs.Records.{default_node_record, default_table_record}
use Rattle.blockdisk.specs.declared.Checked.{Checked}
use Rattle.blockdisk.specs.declared.DiskState.{DiskState}
use Rattle.blockdisk.specs.declared.Record.{Record}
use Rattle.sectortype.specs.declared.Node.{Node}
use Rattle.sectortype.specs.declared.Table.{Table}
use Rattle.blockdisk.specs.declared.Queues.{Queues}
use Rattle.blockdisk.specs.declared.Records.{Records}
use Rattle.disklayout.specs.Blocks.{node_place, node_place_in, table_place_in}
use Rattle.disklayout.specs.Calls.{holds_on}
use Rattle.disklayout.specs.Device.{device_of, made}
use Rattle.disklayout.specs.Layout.{valid_indirection_table_location}
use Rattle.disklayout.specs.declared.Location.{Location}
use Rattle.queue.specs.Queue.{request_at, requests_form}
use Rattle.queue.specs.declared.Request.{Request}
use Rattle.queue.specs.declared.Requests.{Requests}
use Rattle.sectortype.specs.Form.{loc_zero, node_form, node_zero, table_form}

-- an absent record is zeros; one that is there lies in area k
unfoldable pub table_record_checked : ℕ → ℕ → Record Table → Checked
table_record_checked d k r =
    record {
      form = table_form r.held && (r.present || (loc_zero r.loc && eqb r.held.count 0));
      placed = not r.present || holds_on d (table_place_in (device_of d) k r.loc);
    }

-- an absent record is zeros; one that is there lies in block k
unfoldable pub node_record_checked : ℕ → ℕ → Record Node → Checked
node_record_checked d k r =
    record {
      form = node_form r.held && (r.present || (loc_zero r.loc && node_zero r.held));
      placed = not r.present || holds_on d (node_place_in (device_of d) k r.loc);
    }

unfoldable pub tables_checked : ℕ → List (Record Table) → Checked
tables_checked d l =
    record {
      form = (table_record_checked d 0 (get_or l 0 default_table_record)).form &&
          (table_record_checked d 1 (get_or l 1 default_table_record)).form;
      placed = (table_record_checked d 0 (get_or l 0 default_table_record)).placed &&
          (table_record_checked d 1 (get_or l 1 default_table_record)).placed;
    }

unfoldable pub nodes_checked : ℕ → List (Record Node) → Checked
nodes_checked d l =
    record {
      form = all_below (λ k. (node_record_checked d k (get_or l k default_node_record)).form) 128;
      placed = all_below (λ k. (node_record_checked d k (get_or l k default_node_record)).placed) 128;
    }

-- form: two areas and 128 blocks, each record in its own form. placed: each in its own area or block
unfoldable pub records_checked : ℕ → Records → Checked
records_checked d r =
    record {
      form = eqb (length r.tables) 2 && eqb (length r.nodes) 128 && ((tables_checked d r.tables).form && (nodes_checked d r.nodes).form);
      placed = (tables_checked d r.tables).placed && (nodes_checked d r.nodes).placed;
    }

-- a place that 16 allows
abbrev pub table_allowed : ℕ → Location → Bool
table_allowed d l = holds_on d (valid_indirection_table_location (device_of d) l)

abbrev pub node_allowed : ℕ → Location → Bool
node_allowed d l = holds_on d (node_place (device_of d) l)

-- a queued request has no reference, and an allowed place
abbrev pub table_request_ok : ℕ → Request → Bool
table_request_ok d w = eqb w.reference 0 && table_allowed d w.loc

abbrev pub node_request_ok : ℕ → Request → Bool
node_request_ok d w = eqb w.reference 0 && node_allowed d w.loc

unfoldable pub table_queue_form : ℕ → Requests → Bool
table_queue_form d q = requests_form q && all_below (λ k. not (ltb k q.count) || table_request_ok d (request_at q k)) 16

unfoldable pub node_queue_form : ℕ → Requests → Bool
node_queue_form d q = requests_form q && all_below (λ k. not (ltb k q.count) || node_request_ok d (request_at q k)) 16

unfoldable pub queues_form : ℕ → Queues → Bool
queues_form d qs =
    table_queue_form d qs.tablereads && node_queue_form d qs.nodereads && table_queue_form d qs.tablewrites && node_queue_form d qs.nodewrites

-- a freeze rule (document 02, Q-8): 1, which is document 01's, or 2
abbrev pub is_rule : ℕ → Bool
is_rule r = eqb r 1 || eqb r 2

unfoldable pub disk_form : ℕ → DiskState → Bool
disk_form d s = made d && is_rule s.rule && (records_checked d s.records).form && (records_checked d s.records).placed && queues_form d s.queues
