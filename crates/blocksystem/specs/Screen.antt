-- What a member sees on the screen (document 02, Q-9), along the run that demand 3 speaks of: the accepted reads, and the cache in Ready, against the
-- working picture.
use Rattle.std.specs.Prelude.{◌+◌, ℕ, Bool, ◌&&◌, ◌||◌, false, not, true, List, [], ◌∷◌, ◌≡◌}
use Rattle.base.specs.Scan.{bit}
use Rattle.blockcache.specs.Steps.{is_read}
use Rattle.blockcache.specs.declared.Call.{Call}
use Rattle.blockdisk.specs.declared.Record.{Record}
use Rattle.blockdisk.specs.declared.Records.{Records}
use Rattle.sectortype.specs.Form.{entry_at, slot_at}
use Rattle.sectortype.specs.Same.{same_node}
use Rattle.sectortype.specs.declared.Entry.{Entry}
use Rattle.sectortype.specs.declared.Node.{Node}
use Rattle.sectortype.specs.declared.Nodes.{Nodes}
use Rattle.sectortype.specs.declared.Slot.{Slot}
use Rattle.blocksystem.specs.Audit.{at_entry}
use Rattle.blocksystem.specs.Run.{JoinedCall, State, accepts_step, asked, choose, moved, operations, step}

-- the node is the one that the picture has of this reference, high, low and list; never where the picture has none
abbrev pub is_pictured : Nodes → ℕ → Node → Bool
is_pictured picture ref n = (slot_at picture ref).present && same_node n (slot_at picture ref).node

-- THE READS

module _ (d : ℕ) where
  -- an accepted read hands out another node than the working picture's of its reference
  abbrev pub step_differs : State → ℕ → Call → Records → Bool
  step_differs s n q o = accepts_step d s n q o && is_read n && not (is_pictured s.pictures.working q.reference (asked d s n q o).node)

  abbrev pub differs : State → JoinedCall → Bool
  differs s (step n q o) = step_differs s n q o
  differs s choose = false
  differs s (operations q l) = false

  -- how many of a list do
  unfoldable pub reads_differing : State → List JoinedCall → ℕ
  reads_differing s [] = 0
  reads_differing s (k ∷ ks) = bit (differs s k) + reads_differing (moved d s k) ks

-- THE CACHE IN READY

-- what the ephemeral table and the cache have of a reference
module _ (s : State) (ref : ℕ) where
  abbrev pub ephemeral_entry : Entry
  ephemeral_entry = entry_at s.cache.tables.ephemeral ref

  abbrev pub cache_slot : Slot
  cache_slot = slot_at s.cache.nodes ref

module _ (d : ℕ) (s : State) (ref : ℕ) where
  -- what the disk has at exactly its ephemeral location; an older node in another block is not meant
  abbrev pub stored_record : Record Node
  stored_record = at_entry d s.disk.records (ephemeral_entry s ref)

  pub record Shown : Type 0 where
    -- it is cached, or stored on the disk at its ephemeral location
    pub found : ((cache_slot s ref).present || stored_record.present) ≡ true
    -- if it is cached, the cache has the picture's node
    pub cached : (cache_slot s ref).present ≡ true → is_pictured s.pictures.working ref (cache_slot s ref).node ≡ true
    -- if it has an ephemeral location, the disk has the picture's node there
    pub located : (ephemeral_entry s ref).located ≡ true →
        (stored_record.present && is_pictured s.pictures.working ref stored_record.held) ≡ true

-- the working picture has exactly the allocated references, and what is said above holds of each of them
pub record ReadyShown (d : ℕ) (s : State) : Type 0 where
  pub allocated : (ref : ℕ) → (slot_at s.pictures.working ref).present ≡ (ephemeral_entry s ref).allocated
  pub shown : (ref : ℕ) → (ephemeral_entry s ref).allocated ≡ true → Shown d s ref
