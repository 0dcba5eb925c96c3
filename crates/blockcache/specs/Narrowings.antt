-- The narrowings of the cache, document 01's and, for NoOp and Freeze, document 02's: what is refused although upstream would allow it.
use Rattle.std.specs.Prelude.{ℕ, Bool, ◌||◌, cond, false, eqb, leb}
use Rattle.std.proofs.Math.Option.{Option, none, some}
use Rattle.blockcache.specs.Ops.{dop_id, dop_loc}
use Rattle.blockcache.specs.Rows.{awaits_read, frozen_held}
use Rattle.blockcache.specs.Step.{outside_limits}
use Rattle.blockcache.specs.Steps.{Step, freeze_step, no_op_step, number_of, page_in_node_req_step, step_of, write_back_node_req_step}
use Rattle.blockcache.specs.declared.CacheState.{CacheState}
use Rattle.blockcache.specs.declared.Call.{Call}
use Rattle.blockcache.specs.declared.Settings.{Settings}
use Rattle.queue.specs.Queue.{has_of}

abbrev is_step : Step → Step → Bool
is_step k step = eqb (number_of step) (number_of k)

module _ (c : CacheState) (q : Call) where
  -- WriteBackNodeReq: an id already outstanding, a node of length 0, 16 writes outstanding
  abbrev pub write_narrowed : Bool
  write_narrowed = has_of c.outstanding.writes (dop_id q.dop) || eqb (dop_loc q.dop).len 0 || leb 16 c.outstanding.writes.count

  -- PageInNodeReq: an id already outstanding, 16 reads outstanding
  abbrev pub read_narrowed : Bool
  read_narrowed = has_of c.outstanding.reads (dop_id q.dop) || leb 16 c.outstanding.reads.count

  -- NoOp: it brings the answer of a read that the cache awaits (22)
  abbrev pub idle_narrowed : Bool
  idle_narrowed = awaits_read c q.dop

module _ (g : Settings) (c : CacheState) (q : Call) where
  -- of Freeze it is frozen_held: under rule 2, a frozen place is set (25); no other step has one, beside 1
  abbrev pub step_narrowed : Step → Bool
  step_narrowed step =
      cond (is_step write_back_node_req_step step) (write_narrowed c q)
      (cond (is_step page_in_node_req_step step) (read_narrowed c q)
      (cond (is_step no_op_step step) (idle_narrowed c q)
      (cond (is_step freeze_step step) (frozen_held g c)
      false)))

  abbrev pub narrowed_of : Option Step → Bool
  narrowed_of none = false
  narrowed_of (some step) = step_narrowed step

-- 1, which well_formed_iff (proofs/Forms.antt) and step_number (proofs/Numbers.antt) say part by part, and those of the step
unfoldable pub narrowed : Settings → CacheState → ℕ → Call → Bool
narrowed g c n q = outside_limits g c n q || narrowed_of g c q (step_of n)
