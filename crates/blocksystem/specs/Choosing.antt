-- The chooser's call on cache and disk (document 02, Q-1): the cache is asked under the rule that the disk carries. The state of a joined
-- call is cache and disk, so number 1 asks for the disk's written form too, as in a joined read; the disk stays as it is.
use Rattle.std.specs.Prelude.{ℕ, ◌&&◌, not, List, ◌∷◌}
use Rattle.base.specs.Refusals.{Row, ◌when◌}
use Rattle.blockcache.specs.Chooser.{block_rows, choice_by}
use Rattle.blockcache.specs.Form.{cache_form, settings_form}
use Rattle.blockcache.specs.declared.CacheState.{CacheState}
use Rattle.blockcache.specs.declared.Choice.{Choice}
use Rattle.blockdisk.specs.Form.{disk_form}
use Rattle.blockdisk.specs.declared.DiskState.{DiskState}
use Rattle.blocksystem.specs.Joined.{settings_of}

module _ (d : ℕ) (c : CacheState) (s : DiskState) where
  -- 1 for the disk as for settings and cache; then 4 and 21, which are the cache's
  abbrev pub joined_choice_rows : List Row
  joined_choice_rows = (1 when not (disk_form d s && settings_form (settings_of d s) && cache_form d c)) ∷ block_rows (settings_of d s) c

  unfoldable pub joined_choice : Choice
  joined_choice = choice_by (settings_of d s) c joined_choice_rows
