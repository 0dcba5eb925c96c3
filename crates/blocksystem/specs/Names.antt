-- Named places and pictures, settled by accepted calls and their arguments alone. Both are document 01's terms; a picture is nodes by reference.
use Rattle.std.specs.Prelude.{ℕ, Bool, ◌&&◌, ◌||◌, cond, false, true}
use Rattle.std.proofs.Math.Option.{Option, none, some}
use Rattle.blockcache.specs.Next.{cached_slot}
use Rattle.blockcache.specs.Ops.{vop_loc}
use Rattle.blockcache.specs.Steps.{Step, alloc_step, clean_up_step, crash_step, dirty_step, evict_step, freeze_step, let_go_step}
use Rattle.blockcache.specs.Steps.{no_op_step, page_in_indirection_table_req_step, page_in_indirection_table_resp_step}
use Rattle.blockcache.specs.Steps.{page_in_node_req_step, page_in_node_resp_step, read_step, receive_loc_step, step_of, transaction_step}
use Rattle.blockcache.specs.Steps.{unalloc_step, write_back_indirection_table_req_step, write_back_indirection_table_resp_step}
use Rattle.blockcache.specs.Steps.{write_back_node_req_step, write_back_node_resp_step}
use Rattle.blockcache.specs.declared.Call.{Call}
use Rattle.disklayout.specs.Calls.{zero_loc}
use Rattle.disklayout.specs.declared.Location.{Location}
use Rattle.sectortype.specs.Form.{empty_nodes, with_slot, zero_slot}
use Rattle.disklayout.specs.Layout.{same_loc}
use Rattle.sectortype.specs.declared.Contents.{Contents}
use Rattle.sectortype.specs.declared.Nodes.{Nodes}
use Rattle.blocksystem.specs.Format.{root_node, table_place_of}
use Rattle.blocksystem.specs.declared.Named.{Named}
use Rattle.blocksystem.specs.declared.Pictures.{Pictures}

abbrev pub zero_named : Named
zero_named = record { present = false; place = zero_loc; picture = empty_nodes }

abbrev pub naming : Location → Nodes → Named
naming l p = record { present = true; place = l; picture = p }

abbrev pub with_root : Contents → Nodes
with_root x = with_slot empty_nodes 0 (record { present = true; node = root_node x })

-- at first the formatted table's place is named; its picture and the working one hold the root
unfoldable pub first_pictures : ℕ → Contents → Pictures
first_pictures d x = record { first = naming (table_place_of d) (with_root x); second = zero_named; working = with_root x; frozen = empty_nodes }

-- the name is of this place
abbrev pub names : Named → Location → Bool
names m l = m.present && same_loc m.place l

-- some name is of this place
abbrev pub is_named : Pictures → Location → Bool
is_named t l = names t.first l || names t.second l

-- the picture that belongs to a place; the empty one where it is not named
abbrev pub picture_of : Pictures → Location → Nodes
picture_of t l = cond (names t.first l) t.first.picture (cond (names t.second l) t.second.picture empty_nodes)

abbrev pub with_working : Pictures → Nodes → Pictures
with_working t w = record { first = t.first; second = t.second; working = w; frozen = t.frozen }

-- WHAT AN ACCEPTED CALL DOES

-- step 4 names V's location, as the frozen place, with a copy of the frozen picture
abbrev pub frozen_named : Pictures → Location → Pictures
frozen_named t l = record { first = t.first; second = naming l t.frozen; working = t.working; frozen = t.frozen }

-- a start leaves only its own place named and copies that place's picture to the working one
abbrev pub started_at : Pictures → Location → Pictures
started_at t l = record { first = naming l (picture_of t l); second = zero_named; working = picture_of t l; frozen = t.frozen }

-- Freeze copies the working picture to the frozen one and un-names the frozen place, if any
abbrev pub froze : Pictures → Pictures
froze t = record { first = t.first; second = zero_named; working = t.working; frozen = t.working }

-- CleanUp leaves only the frozen place named
abbrev pub cleaned : Pictures → Pictures
cleaned t = record { first = t.second; second = zero_named; working = t.working; frozen = t.frozen }

-- Dirty and Alloc set a reference's node in the working picture; Unalloc removes it; crash and the other steps change nothing
module _ (q : Call) (t : Pictures) where
  abbrev pub node_pictured : Pictures
  node_pictured = with_working t (with_slot t.working q.reference (cached_slot q.node))

  abbrev pub step_pictures : Step → Pictures
  step_pictures write_back_node_req_step = t
  step_pictures write_back_node_resp_step = t
  step_pictures write_back_indirection_table_req_step = t
  step_pictures write_back_indirection_table_resp_step = frozen_named t (vop_loc q.vop)
  step_pictures unalloc_step = with_working t (with_slot t.working q.reference zero_slot)
  step_pictures page_in_node_req_step = t
  step_pictures page_in_node_resp_step = t
  step_pictures page_in_indirection_table_req_step = t
  step_pictures page_in_indirection_table_resp_step = t
  step_pictures receive_loc_step = started_at t (vop_loc q.vop)
  step_pictures evict_step = t
  step_pictures freeze_step = froze t
  step_pictures clean_up_step = cleaned t
  step_pictures no_op_step = t
  step_pictures dirty_step = node_pictured
  step_pictures alloc_step = node_pictured
  step_pictures read_step = t
  step_pictures crash_step = t
  step_pictures let_go_step = t
  -- an empty list; Operations.antt has the others
  step_pictures transaction_step = t

  abbrev pub pictures_of : Option Step → Pictures
  pictures_of none = t
  pictures_of (some step) = step_pictures step

-- by the number of the call
unfoldable pub pictures_after : ℕ → Call → Pictures → Pictures
pictures_after n q t = pictures_of q t (step_of n)
