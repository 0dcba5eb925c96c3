-- What a step's refusals ask of the whole cache.
use Rattle.std.specs.Prelude.{ℕ, Bool, ◌&&◌, ◌||◌, not, true, eqb, ltb}
use Rattle.base.specs.Scan.{some_below}
use Rattle.blockcache.specs.declared.Tables.{Tables}
use Rattle.blockdisk.specs.declared.Brought.{Brought}
use Rattle.blockdisk.specs.declared.Brought.TheVariants.{Nothing, Something}
use Rattle.disklayout.specs.declared.Location.{Location}
use Rattle.queue.specs.Queue.{has_addr, request_at}
use Rattle.queue.specs.declared.Requests.{Requests}
use Rattle.sectortype.specs.Form.{entry_at, succ_at}
use Rattle.sectortype.specs.Graph.{distinct_addrs, wf_complete_indirection_table, holds_addr, same_set}
use Rattle.disklayout.specs.Layout.{same_loc}
use Rattle.sectortype.specs.declared.Entry.{Entry}
use Rattle.sectortype.specs.declared.Node.{Node}
use Rattle.sectortype.specs.declared.Table.{Table}

-- a read of the reference is outstanding
unfoldable pub reads : Requests → ℕ → Bool
reads q r = some_below (λ k. ltb k q.count && eqb (request_at q k).reference r) 16

-- a write of the reference to this very location is outstanding
unfoldable pub writes_to : Requests → ℕ → Location → Bool
writes_to q r l = some_below (λ k. ltb k q.count && eqb (request_at q k).reference r && same_loc (request_at q k).loc l) 16

-- place j of a list of n, which holds s, is in use and names r
abbrev pub names_at : ℕ → ℕ → ℕ → ℕ → Bool
names_at n j s r = ltb j n && eqb s r

abbrev pub list_names : Entry → ℕ → Bool
list_names e r = some_below (λ j. e.allocated && names_at e.succs.count j (succ_at e.succs j) r) 8

-- some list in the graph names r, its own included
unfoldable pub has_predecessor : Table → ℕ → Bool
has_predecessor t r = some_below (λ i. list_names (entry_at t i) r) 64

-- 7: the address is held by the persistent, ephemeral or frozen table or an outstanding write
unfoldable pub held_in : Tables → Requests → ℕ → Bool
held_in ts q a = holds_addr ts.persistent a || holds_addr ts.ephemeral a || (ts.isfrozen && holds_addr ts.frozen a) || has_addr q a

-- FZ: the frozen table has the reference in its graph without a location
abbrev pub needs_cached : Tables → ℕ → Bool
needs_cached ts r = ts.isfrozen && (entry_at ts.frozen r).allocated && not (entry_at ts.frozen r).located

-- 9 of a node's page-in: nothing brought, or its successors differ from the graph's as sets
abbrev pub node_rejected : Brought → Bool → Entry → Node → Bool
node_rejected Something known e n = known && e.allocated && not (same_set e.succs n.succs)
node_rejected Nothing known e n = true

-- 9 of a table's page-in: nothing brought, not WFCompleteIndirectionTable, or two references at one address
abbrev pub table_rejected : Brought → ℕ → Table → Bool
table_rejected Something d t = not (wf_complete_indirection_table d t) || not (distinct_addrs t)
table_rejected Nothing d t = true
