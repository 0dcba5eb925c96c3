-- The steps: a constructor for each of document 01's, under upstream's names in snake case, and of document 02's, and the one function
-- from a number to its step. The reference and the node that upstream's constructors carry are those of the call.
use Rattle.std.specs.Prelude.{suc, zero, ℕ, Bool, ◌||◌, List, [], ◌∷◌, eqb}
use Rattle.std.proofs.Math.Option.{Option, none}
use Rattle.base.specs.Lists.{nth}

pub data Step : Type 0 where
  write_back_node_req_step : Step
  write_back_node_resp_step : Step
  write_back_indirection_table_req_step : Step
  write_back_indirection_table_resp_step : Step
  unalloc_step : Step
  page_in_node_req_step : Step
  page_in_node_resp_step : Step
  page_in_indirection_table_req_step : Step
  page_in_indirection_table_resp_step : Step
  receive_loc_step : Step
  evict_step : Step
  freeze_step : Step
  clean_up_step : Step
  no_op_step : Step
  -- OpTransaction isn't in the text: its two operations are steps of their own, with Transaction's V and D
  dirty_step : Step
  alloc_step : Step
  -- not among upstream's: ReadStep takes no V and no D, and a crash is BlockSystem's step, of which this is the cache's half
  read_step : Step
  crash_step : Step
  -- document 02's, Q-2: the end of a wait for a read
  let_go_step : Step
  -- document 02's, Q-7: upstream's TransactionStep. Its list stands beside the call (Operations.antt); a call without one is that of an
  -- empty list
  transaction_step : Step

-- by their numbers, from 1
unfoldable pub steps : List Step
steps =
    write_back_node_req_step ∷
    write_back_node_resp_step ∷
    write_back_indirection_table_req_step ∷
    write_back_indirection_table_resp_step ∷
    unalloc_step ∷
    page_in_node_req_step ∷
    page_in_node_resp_step ∷
    page_in_indirection_table_req_step ∷
    page_in_indirection_table_resp_step ∷
    receive_loc_step ∷
    evict_step ∷
    freeze_step ∷
    clean_up_step ∷
    no_op_step ∷
    dirty_step ∷
    alloc_step ∷
    read_step ∷
    crash_step ∷
    let_go_step ∷
    transaction_step ∷
    []

-- the step of a number; none: refused with 1
unfoldable pub step_of : ℕ → Option Step
step_of zero = none
step_of (suc k) = nth steps k

-- the number of a step
abbrev pub number_of : Step → ℕ
number_of write_back_node_req_step = 1
number_of write_back_node_resp_step = 2
number_of write_back_indirection_table_req_step = 3
number_of write_back_indirection_table_resp_step = 4
number_of unalloc_step = 5
number_of page_in_node_req_step = 6
number_of page_in_node_resp_step = 7
number_of page_in_indirection_table_req_step = 8
number_of page_in_indirection_table_resp_step = 9
number_of receive_loc_step = 10
number_of evict_step = 11
number_of freeze_step = 12
number_of clean_up_step = 13
number_of no_op_step = 14
number_of dirty_step = 15
number_of alloc_step = 16
number_of read_step = 17
number_of crash_step = 18
number_of let_go_step = 19
number_of transaction_step = 20

-- the three that a joined call asks for by themselves: a start, a read, a crash
abbrev pub is_start : ℕ → Bool
is_start n = eqb n (number_of receive_loc_step)

abbrev pub is_read : ℕ → Bool
is_read n = eqb n (number_of read_step)

abbrev pub is_crash : ℕ → Bool
is_crash n = eqb n (number_of crash_step)

-- a table's load, after which the chooser begins anew
abbrev pub is_load : ℕ → Bool
is_load n = eqb n (number_of page_in_indirection_table_resp_step)

-- a clean-up, which ends a frozen name as a start does
abbrev pub is_clean_up : ℕ → Bool
is_clean_up n = eqb n (number_of clean_up_step)

-- document 02's step that upstream doesn't have; its step 20 is upstream's TransactionStep
abbrev pub is_new : ℕ → Bool
is_new n = eqb n (number_of let_go_step)

-- the steps after which the code makes the marks anew: they may move a location of a table or an outstanding write. Every other step
-- (20 without its list) moves none, or leaves no location, no outstanding write and no mark: receive_loc_step and crash_step
-- (`marks_stay`, proofs/MarkSteps.antt)
abbrev pub relocates : ℕ → Bool
relocates n =
    eqb n (number_of write_back_node_req_step)
    || eqb n (number_of write_back_node_resp_step)
    || eqb n (number_of unalloc_step)
    || eqb n (number_of page_in_indirection_table_resp_step)
    || eqb n (number_of freeze_step)
    || eqb n (number_of clean_up_step)
    || eqb n (number_of dirty_step)
