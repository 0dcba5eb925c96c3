-- A node as it was when its contents were one number, and the node that it is now.
use Rattle.std.specs.Prelude.{Bool, ◌&&◌, eqb}
use Rattle.sectortype.specs.HighLow.{carried_contents}
use Rattle.sectortype.specs.Form.{succs_form}
use Rattle.sectortype.specs.Same.{same_succs}
use Rattle.sectortype.specs.declared.Node.{Node}
use Rattle.sectortype.specs.declared.OlderNode.{OlderNode}

-- its written form
abbrev pub older_form : OlderNode → Bool
older_form n = succs_form n.succs

-- document 01's equality of nodes: contents and list equal
abbrev pub same_older : OlderNode → OlderNode → Bool
same_older a b = eqb a.contents b.contents && same_succs a.succs b.succs

-- high 0, low the old contents, the list as it was
unfoldable pub carried : OlderNode → Node
carried n = record { contents = carried_contents n.contents; succs = n.succs }
