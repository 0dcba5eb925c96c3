-- An older node carried over: what it holds, that no two become one, and that its form, its equality and its successors are what they were.
-- Assumes nothing.
use Prim.Native.Nat.{ℕ}
use mathlib.Core.Logic.{◌↔◌}
use mathlib.Core.Path.{◌≡◌, ap, refl, sym}
use Rattle.sectortype.specs.Form.{node_form}
use Rattle.sectortype.specs.Graph.{has_succ}
use Rattle.sectortype.specs.HighLow.{same_contents}
use Rattle.sectortype.specs.Older.{carried, older_form, same_older}
use Rattle.sectortype.specs.Same.{same_node}
use Rattle.sectortype.specs.declared.Node.{Node}
use Rattle.sectortype.specs.declared.OlderNode.{OlderNode}

-- WHAT IT HOLDS

pub carried_high : (n : OlderNode) → (carried n).contents.high ≡ 0
unfolding carried
carried_high n = refl

pub carried_low : (n : OlderNode) → (carried n).contents.low ≡ n.contents
unfolding carried
carried_low n = refl

pub carried_list : (n : OlderNode) → (carried n).succs ≡ n.succs
unfolding carried
carried_list n = refl

-- EQUAL EXACTLY WHEN THE OLDER ONES ARE

pub carried_equal : (a b : OlderNode) → (a ≡ b) ↔ (carried a ≡ carried b)
unfolding carried
carried_equal a b = (
  ap carried,
  λ e. let p = ap (λ (n : Node). n.contents.low) e in let q = ap (λ (n : Node). n.succs) e in
      λ i. record { contents = p i; succs = q i },
)

-- by the tests too, whatever the two are
pub carried_same : (a b : OlderNode) → same_node (carried a) (carried b) ≡ same_older a b
unfolding carried same_contents
carried_same a b = refl

-- FORM AND SUCCESSORS

pub carried_form : (n : OlderNode) → node_form (carried n) ≡ older_form n
unfolding carried
carried_form n = refl

pub carried_successors : (n : OlderNode) (r : ℕ) → has_succ (carried n).succs r ≡ has_succ n.succs r
unfolding carried
carried_successors n r = refl

-- the nodes whose high is 0 are the carried ones
pub carried_all : (n : Node) → n.contents.high ≡ 0 → carried (record { contents = n.contents.low; succs = n.succs }) ≡ n
unfolding carried
carried_all n e = λ i. record { contents = record { high = sym e i; low = n.contents.low }; succs = n.succs }
