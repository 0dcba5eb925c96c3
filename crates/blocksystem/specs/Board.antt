-- The lounge board (document 02, Q-12): a second kind of store, for a screen that must never write. It has only some of the steps; each
-- answers as the full store's does, and every other step is refused with 29, after 1.
use Rattle.std.specs.Prelude.{ℕ, Bool, ◌||◌, cond, not, List, [], ◌∷◌, eqb}
use Rattle.base.specs.Refusals.{Row, ◌when◌, answer}
use Rattle.blockcache.specs.Steps.{crash_step, evict_step, let_go_step, no_op_step, number_of, page_in_indirection_table_req_step}
use Rattle.blockcache.specs.Steps.{page_in_indirection_table_resp_step, page_in_node_req_step, page_in_node_resp_step, read_step}
use Rattle.blockcache.specs.Steps.{receive_loc_step}
use Rattle.blockcache.specs.declared.CacheState.{CacheState}
use Rattle.blockcache.specs.declared.Call.{Call}
use Rattle.blockdisk.specs.declared.DiskState.{DiskState}
use Rattle.blockdisk.specs.declared.Records.{Records}
use Rattle.sectortype.specs.Form.{zero_node}
use Rattle.blocksystem.specs.Joined.{joined}
use Rattle.blocksystem.specs.declared.Outcome.{Outcome}

-- the steps that the board has: place received, both page-ins with their answers, let go, evict, no-op, read and crash
unfoldable pub board_step : ℕ → Bool
board_step n =
    eqb n (number_of receive_loc_step)
    || eqb n (number_of page_in_node_req_step)
    || eqb n (number_of page_in_node_resp_step)
    || eqb n (number_of page_in_indirection_table_req_step)
    || eqb n (number_of page_in_indirection_table_resp_step)
    || eqb n (number_of let_go_step)
    || eqb n (number_of evict_step)
    || eqb n (number_of no_op_step)
    || eqb n (number_of read_step)
    || eqb n (number_of crash_step)

-- refused: cache and disk as they were, and a node of zeros
abbrev pub refused_outcome : ℕ → CacheState → DiskState → Outcome
refused_outcome k c s = record { answer = k; node = zero_node; cache = c; disk = s }

module _ (d n : ℕ) (q : Call) (o : Records) (c : CacheState) (s : DiskState) where
  -- what comes before a step's own refusals: 1 where the full store gives 1 (the state, the arguments, a number that is no step), then 29
  abbrev pub board_rows : List Row
  board_rows =
      (1 when eqb (joined d n q o c s).answer 1) ∷
      (29 when not (board_step n)) ∷
      []

  -- past them it is the full store's call
  unfoldable pub board_outcome : Outcome
  board_outcome = cond (eqb (answer board_rows) 0) (joined d n q o c s) (refused_outcome (answer board_rows) c s)
