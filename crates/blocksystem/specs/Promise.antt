-- All that is promised of a list of joined calls, a line for each promise. The theorem, `nothing_lost` (proofs/Demand3.antt), says it of every list from a
-- newly formatted device whose accepted starts are given places then named.
use Rattle.std.specs.Prelude.{ℕ, true, List, ◌≡◌}
use Rattle.blockcache.specs.Form.{cache_form, is_ready}
use Rattle.blockcache.specs.Ops.{vop_loc}
use Rattle.blockcache.specs.declared.Call.{Call}
use Rattle.blockdisk.specs.declared.Records.{Records}
use Rattle.blocksystem.specs.Frozen.{FrozenStays}
use Rattle.blocksystem.specs.Names.{is_named}
use Rattle.blocksystem.specs.Run.{Answered, JoinedCall, State, after, asked, NothingLost}
use Rattle.blocksystem.specs.Screen.{ReadyShown, reads_differing}
use Rattle.blocksystem.specs.Fairness.{Fairness, GivenUsable, LowestAfterLoad}
use Rattle.blocksystem.specs.TwoNames.{TwoNames}
use Rattle.blocksystem.specs.Waits.{NoWaitForEver}

-- a start at a named place is never refused with 20: a whole graph is stored there
abbrev pub StartsWhole : ℕ → State → Type 0
StartsWhole d s = (q : Call) (o : Records) → is_named s.pictures (vop_loc q.vop) ≡ true → (asked d s 10 q o).answer ≡ 20 → ⊥

pub record Promised (d : ℕ) (s : State) (calls : List JoinedCall) : Type 0 where
  -- demand 3: each call is answered as documents 01 and 02 fix ..
  pub answered : Answered d s calls
  -- .. and afterwards lost, added and altered are each 0 for each named place
  pub kept : NothingLost d (after d s calls)
  -- there is a named place ..
  pub named : (after d s calls).pictures.first.present ≡ true
  -- .. 20 is never given to a start there ..
  pub starts : StartsWhole d (after d s calls)
  -- .. and step 4 has set no name over another
  pub two_names : TwoNames d s calls
  -- the screen: no accepted read handed out another node than the working picture's ..
  pub reads : reads_differing d s calls ≡ 0
  -- .. and in Ready it has exactly the allocated references; each is cached, or stored on the disk at its ephemeral location; the cache, if it has it, and that
  -- location, if it has one, have the picture's node
  pub shown : is_ready (after d s calls).cache ≡ true → ReadyShown d (after d s calls)
  -- the disk has its rule still, and under rule 2 a frozen place stays named until a clean-up or a start is accepted
  pub rule : (after d s calls).disk.rule ≡ s.disk.rule
  pub frozen : s.disk.rule ≡ 2 → FrozenStays d s calls
  -- the cache is in its written form: the marks are those of its tables and its outstanding writes
  pub form : cache_form d (after d s calls).cache ≡ true
  -- the chooser: a block that becomes free and stays so is among the next 128 given, unless a load comes between ..
  pub fair : Fairness d s calls
  -- .. right after a load the lowest free block is given ..
  pub loaded : LowestAfterLoad d (after d s calls)
  -- .. and right after a block is given, step 1 refuses its address with neither 6 nor 7
  pub usable : GivenUsable d (after d s calls)
  -- no wait is for ever
  pub waits : NoWaitForEver d (after d s calls)
