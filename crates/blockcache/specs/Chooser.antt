-- The chooser (document 02, Q-1): the first unmarked block after the one given last, going round to block 0 after block 127.
use Rattle.std.specs.Prelude.{◌%◌, ◌+◌, ℕ, Bool, ◌&&◌, cond, not, List, [], ◌∷◌, eqb, Result, Ok, Err}
use Rattle.base.specs.Refusals.{Row, ◌when◌, answer}
use Rattle.base.specs.Scan.{all_below, count_below, first_below}
use Rattle.blockcache.specs.Form.{cache_form, is_ready, settings_form}
use Rattle.blockcache.specs.Marks.{is_marked}
use Rattle.blockcache.specs.Next.{with_last}
use Rattle.blockcache.specs.Step.{refusal_number}
use Rattle.blockcache.specs.declared.CacheState.{CacheState}
use Rattle.blockcache.specs.declared.Choice.{Choice}
use Rattle.blockcache.specs.declared.Refusal.{Refusal}
use Rattle.blockcache.specs.declared.Settings.{Settings}
use Rattle.disklayout.specs.Blocks.{node_block_addr}
use Rattle.disklayout.specs.Device.{device_of}

-- of the blocks after the one given last, going round, the one that k others come before: at k = 127 it is the one given last itself
abbrev pub block_after : ℕ → ℕ → ℕ
block_after last k = (last + 1 + k) % 128

-- the first of them that passes a test
abbrev pub next_fit : (ℕ → Bool) → ℕ → ℕ
next_fit test last = block_after last (first_below (λ k. test (block_after last k)) 128)

-- refused: zeros, and the cache as it was
abbrev pub refused_choice : ℕ → CacheState → Choice
refused_choice n c = record { answer = n; block = 0; addr = 0; free = 0; cache = c }

-- accepted: a block with its address, how many are free, and the cache with that block as the one given last
abbrev pub given_choice : ℕ → ℕ → ℕ → CacheState → Choice
given_choice block addr free c = record { answer = 0; block = block; addr = addr; free = free; cache = with_last c block }

-- what the search for a block gives: the choice, or the number with the cache as it was
abbrev pub settled_choice : Result Choice Refusal → CacheState → Choice
settled_choice (Ok choice) c = choice
settled_choice (Err e) c = refused_choice (refusal_number e) c

module _ (g : Settings) (c : CacheState) where
  abbrev pub marked : ℕ → Bool
  marked b = is_marked g.device c.tables c.outstanding.writes b

  abbrev pub is_free_block : ℕ → Bool
  is_free_block b = not (marked b)

  -- 4 outside Ready, 21 where all 128 are marked
  abbrev pub block_rows : List Row
  block_rows =
      (4 when not (is_ready c)) ∷
      (21 when all_below marked 128) ∷
      []

  -- on the cache alone: 1 as in every step
  abbrev pub chooser_rows : List Row
  chooser_rows = (1 when not (settings_form g && cache_form g.device c)) ∷ block_rows

  abbrev pub chosen_block : ℕ
  chosen_block = next_fit is_free_block c.blocks.last

  -- what the rows answer, and where that is 0 the block
  unfoldable pub choice_by : List Row → Choice
  choice_by rows =
      cond (eqb (answer rows) 0)
      (given_choice chosen_block (node_block_addr (device_of g.device) chosen_block) (count_below is_free_block 128) c)
      (refused_choice (answer rows) c)

  unfoldable pub chooser : Choice
  chooser = choice_by chooser_rows
