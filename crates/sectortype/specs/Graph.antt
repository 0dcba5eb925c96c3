-- Upstream's questions about a table and its graph.
use Rattle.std.specs.Prelude.{ℕ, Bool, ◌&&◌, ◌||◌, not, eqb, ltb}
use Rattle.base.specs.Scan.{all_below, some_below}
use Rattle.disklayout.specs.Calls.{holds_on}
use Rattle.disklayout.specs.Device.{device_of}
use Rattle.disklayout.specs.Layout.{valid_node_location}
use Rattle.sectortype.specs.Form.{entry_at, succ_at}
use Rattle.sectortype.specs.declared.Entry.{Entry}
use Rattle.sectortype.specs.declared.Succs.{Succs}
use Rattle.sectortype.specs.declared.Table.{Table}

-- r is in the list
unfoldable pub has_succ : Succs → ℕ → Bool
has_succ s r = some_below (λ k. ltb k s.count && eqb (succ_at s k) r) 8

unfoldable pub subset : Succs → Succs → Bool
subset a b = all_below (λ k. not (ltb k a.count) || has_succ b (succ_at a k)) 8

-- (iset r | r in a) == (iset r | r in b)
abbrev pub same_set : Succs → Succs → Bool
same_set a b = subset a b && subset b a

-- ref in graph
abbrev pub allocated_in : Table → ℕ → Bool
allocated_in t r = (entry_at t r).allocated

-- ref in locs
abbrev pub located_in : Table → ℕ → Bool
located_in t r = (entry_at t r).located

-- BlockPointsToValidReferences
unfoldable pub within : Table → Succs → Bool
within t s = all_below (λ k. not (ltb k s.count) || allocated_in t (succ_at s k)) 8

abbrev pub closed_at : Table → ℕ → Bool
closed_at t r = not (allocated_in t r) || within t (entry_at t r).succs

unfoldable pub graph_closed : Table → Bool
graph_closed t = all_below (closed_at t) 64

-- a location of the table has the address
unfoldable pub holds_addr : Table → ℕ → Bool
holds_addr t a = some_below (λ r. located_in t r && eqb (entry_at t r).loc.addr a) 64

abbrev pub apart_at : ℕ → ℕ → Entry → Entry → Bool
apart_at r q e f = eqb r q || not (e.located && f.located && eqb e.loc.addr f.loc.addr)

unfoldable pub apart_from : Table → ℕ → Entry → Bool
apart_from t r e = all_below (λ q. apart_at r q e (entry_at t q)) 64

-- AllLocationsForDifferentRefsDontOverlap
unfoldable pub distinct_addrs : Table → Bool
distinct_addrs t = all_below (λ r. apart_from t r (entry_at t r)) 64

abbrev pub loc_ok : ℕ → Entry → Bool
loc_ok d e = not e.located || holds_on d (valid_node_location (device_of d) e.loc)

-- forall loc in locs.Values: ValidNodeLocation(loc); on a device that is not made no place is valid
unfoldable pub locs_valid : ℕ → Table → Bool
locs_valid d t = all_below (λ r. loc_ok d (entry_at t r)) 64

-- locs.Keys <= graph.Keys
unfoldable pub locs_in_graph : Table → Bool
locs_in_graph t = all_below (λ r. not (located_in t r) || allocated_in t r) 64

-- graph.Keys <= locs.Keys
unfoldable pub locs_complete : Table → Bool
locs_complete t = all_below (λ r. not (allocated_in t r) || located_in t r) 64

-- a table that may lack locations
unfoldable pub wf_indirection_table : ℕ → Table → Bool
wf_indirection_table d t = locs_valid d t && locs_in_graph t && allocated_in t 0 && graph_closed t

-- a table that has all its locations
unfoldable pub wf_complete_indirection_table : ℕ → Table → Bool
wf_complete_indirection_table d t = wf_indirection_table d t && locs_complete t
