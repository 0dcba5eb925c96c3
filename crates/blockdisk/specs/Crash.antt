-- A crash as documents 01 and 02 say it: which records may be offered, and what is left.
use Rattle.std.specs.Prelude.{ℕ, Bool, ◌&&◌, ◌||◌, not, List, [], ◌∷◌, get_or}
use Rattle.base.specs.Refusals.{Row, ◌when◌}
use Rattle.base.specs.Scan.{all_below}
use Rattle.blockdisk.specs.Form.{disk_form, records_checked}
use Rattle.blockdisk.specs.Ops.{outcome, with_queues, with_records}
use Rattle.blockdisk.specs.Records.{default_node_record, default_table_record}
use Rattle.blockdisk.specs.declared.DiskState.{DiskState}
use Rattle.blockdisk.specs.declared.DiskOutcome.{DiskOutcome}
use Rattle.blockdisk.specs.declared.Record.{Record}
use Rattle.sectortype.specs.declared.Node.{Node}
use Rattle.sectortype.specs.declared.Table.{Table}
use Rattle.blockdisk.specs.declared.Queues.{Queues}
use Rattle.blockdisk.specs.declared.Records.{Records}
use Rattle.queue.specs.Queue.{has_addr, empty_requests}
use Rattle.queue.specs.declared.Requests.{Requests}
use Rattle.disklayout.specs.Layout.{same_loc}
use Rattle.sectortype.specs.Same.{same_node, same_table}

-- b has a record at a's place, and it is told whether the two hold the same
abbrev pub same_record : {T : Type 0} → Record T → Record T → Bool → Bool
same_record a b same = b.present && same_loc a.loc b.loc && same

-- a stored record, whose address is its area's or block's, is there unchanged unless a write is outstanding there
abbrev pub kept : {T : Type 0} → Requests → Record T → Record T → Bool → Bool
kept q a b same = not a.present || has_addr q a.loc.addr || same_record a b same

abbrev pub kept_table : Requests → Record Table → Record Table → Bool
kept_table q a b = kept q a b (same_table a.held b.held)

abbrev pub kept_node : Requests → Record Node → Record Node → Bool
kept_node q a b = kept q a b (same_node a.held b.held)

unfoldable pub tables_kept : Requests → List (Record Table) → List (Record Table) → Bool
tables_kept q old new =
    kept_table q (get_or old 0 default_table_record) (get_or new 0 default_table_record) && kept_table q
    (get_or old 1 default_table_record) (get_or new 1 default_table_record)

unfoldable pub nodes_kept : Requests → List (Record Node) → List (Record Node) → Bool
nodes_kept q old new = all_below (λ k. kept_node q (get_or old k default_node_record) (get_or new k default_node_record)) 128

unfoldable pub records_kept : Queues → Records → Records → Bool
records_kept qs old new = tables_kept qs.tablewrites old.tables new.tables && nodes_kept qs.nodewrites old.nodes new.nodes

abbrev pub empty_queues : Queues
empty_queues = record { tablereads = empty_requests; nodereads = empty_requests; tablewrites = empty_requests; nodewrites = empty_requests }

-- an offered record's place is judged by 19 alone, its node or table, and an absent one that isn't zeros, by 1
abbrev pub crash_rows : ℕ → DiskState → Records → List Row
crash_rows d s o =
    (1 when not (disk_form d s && (records_checked d o).form)) ∷
    (19 when not ((records_checked d o).placed && records_kept s.queues s.records o)) ∷
    []

-- the records offered, and nothing outstanding; the rule stays, as records don't carry one
abbrev pub crashed : DiskState → Records → DiskState
crashed s o = with_queues (with_records s o) empty_queues

unfoldable pub disk_crash : ℕ → DiskState → Records → DiskOutcome
disk_crash d s o = outcome (crash_rows d s o) (crashed s o) s
