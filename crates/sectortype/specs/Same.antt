-- Equality as a test: contents and list equal, order and repeats counted.
use Rattle.std.specs.Prelude.{Bool, ◌&&◌, ◌||◌, not, eqb}
use Rattle.base.specs.Scan.{all_below}
use Rattle.disklayout.specs.Layout.{same_loc}
use Rattle.sectortype.specs.HighLow.{same_contents}
use Rattle.sectortype.specs.Form.{entry_at, succ_at}
use Rattle.sectortype.specs.declared.Entry.{Entry}
use Rattle.sectortype.specs.declared.Node.{Node}
use Rattle.sectortype.specs.declared.Succs.{Succs}
use Rattle.sectortype.specs.declared.Table.{Table}

abbrev pub same_bool : Bool → Bool → Bool
same_bool a b = (a && b) || (not a && not b)

unfoldable pub same_succs : Succs → Succs → Bool
same_succs a b = eqb a.count b.count && all_below (λ k. eqb (succ_at a k) (succ_at b k)) 8

abbrev pub same_node : Node → Node → Bool
same_node a b = same_contents a.contents b.contents && same_succs a.succs b.succs

abbrev pub same_entry : Entry → Entry → Bool
same_entry a b =
    same_bool a.allocated b.allocated && same_bool a.located b.located && same_loc a.loc b.loc && same_succs a.succs b.succs

unfoldable pub same_table : Table → Table → Bool
same_table a b = eqb a.count b.count && all_below (λ r. same_entry (entry_at a r) (entry_at b r)) 64
