-- Reading through a named place, and the references lost, added and altered.
use Rattle.std.specs.Prelude.{ℕ, Bool, ◌&&◌, ◌||◌, cond, not}
use Rattle.base.specs.Scan.{bit, count_below}
use Rattle.blockdisk.specs.Records.{read_node, read_table, zero_node_record}
use Rattle.blockdisk.specs.declared.Record.{Record}
use Rattle.sectortype.specs.declared.Node.{Node}
use Rattle.sectortype.specs.declared.Table.{Table}
use Rattle.blockdisk.specs.declared.Records.{Records}
use Rattle.disklayout.specs.declared.Location.{Location}
use Rattle.sectortype.specs.Form.{entry_at, slot_at}
use Rattle.sectortype.specs.Same.{same_node}
use Rattle.sectortype.specs.declared.Entry.{Entry}
use Rattle.sectortype.specs.declared.Slot.{Slot}
use Rattle.blocksystem.specs.declared.Counts.{Counts}
use Rattle.blocksystem.specs.declared.Named.{Named}

-- the node on the disk by a table's entry: what is stored at exactly its location; nothing where it has none
abbrev pub at_entry : ℕ → Records → Entry → Record Node
at_entry d r e = cond e.located (read_node d r e.loc) zero_node_record

-- through the table read at a place; nothing where none is stored there
abbrev pub through_table : ℕ → Records → Record Table → Entry → Record Node
through_table d r x e = cond x.present (at_entry d r e) zero_node_record

-- reference k read through the table stored at exactly the place l
abbrev pub on_disk : ℕ → Records → Location → ℕ → Record Node
on_disk d r l k = through_table d r (read_table d r l) (entry_at (read_table d r l).held k)

-- only the picture has it
abbrev pub is_lost : Record Node → Slot → Bool
is_lost x s = s.present && not x.present

-- only the disk has it
abbrev pub is_added : Record Node → Slot → Bool
is_added x s = x.present && not s.present

-- both have it, with different nodes
abbrev pub is_altered : Record Node → Slot → Bool
is_altered x s = x.present && s.present && not (same_node x.held s.node)

-- reading and picture agree about a reference: neither has a node, or both have one and the two are equal
abbrev pub agrees : Record Node → Slot → Bool
agrees x s = (not x.present && not s.present) || (x.present && s.present && same_node x.held s.node)

-- what one reference adds to a count
unfoldable pub tally : Bool → ℕ
tally b = bit b

-- the counts over the 64 references of a named place
unfoldable pub counted : ℕ → Records → Named → Counts
counted d r m =
    record {
      lost = count_below (λ k. is_lost (on_disk d r m.place k) (slot_at m.picture k)) 64;
      added = count_below (λ k. is_added (on_disk d r m.place k) (slot_at m.picture k)) 64;
      altered = count_below (λ k. is_altered (on_disk d r m.place k) (slot_at m.picture k)) 64;
    }

abbrev pub none_counted : Counts
none_counted = record { lost = 0; added = 0; altered = 0 }
