-- What a list of operations does to the pictures, as the code takes it: an operation at a time, from an array of which no more than all are
-- meant. Assumes nothing.
use Prim.Native.Nat.{◌+◌, ◌<◌, ◌≤◌, ℕ}
use mathlib.Core.Bool.{cond}
use mathlib.Core.List.{List, [], ◌++◌, ◌∷◌}
use mathlib.Core.Path.{◌∙◌, ◌≡◌, ap, refl, sym}
use native.Mathlib.Numerals.{add-one}
use native.Mathlib.Omega.{arith}
use borrow.Author.Tests.{ltb-false, ltb-true}
use lib.Dec.{ltb}
use lib.ListN.{get_or, length, take}
use lib.Seq.{take_all, take-suc}
use Rattle.base.proofs.Tests.{split}
use Rattle.blockcache.specs.Operations.{operation_call, operation_number}
use Rattle.blockcache.specs.Steps.{step_of, steps}
use Rattle.blockcache.specs.declared.Operation.{Operation}
use Rattle.blocksystem.specs.Names.{node_pictured, pictures_after}
use Rattle.blocksystem.specs.Operations.{operations_pictures}
use Rattle.blocksystem.specs.declared.Pictures.{Pictures}

-- Dirty and Alloc alike set the node
pub operation_pictured : (o : Operation) (t : Pictures) →
    node_pictured (operation_call o) t ≡ pictures_after (operation_number o) (operation_call o) t
unfolding pictures_after step_of steps
operation_pictured o t = split o.alloc (λ a. rw a) (λ a. rw a)

-- one operation more, at the end
pictures_more : (os : List Operation) (o : Operation) (t : Pictures) →
    operations_pictures (os ++ (o ∷ [])) t ≡ pictures_after (operation_number o) (operation_call o) (operations_pictures os t)
unfolding operations_pictures
pictures_more [] o t = refl
pictures_more (x ∷ xs) o t = pictures_more xs o (pictures_after (operation_number x) (operation_call x) t)

-- the turns of the loop: none, and that of place i
pub pictures_none : (l : List Operation) (t : Pictures) → t ≡ operations_pictures (take 0 l) t
unfolding operations_pictures
pictures_none l t = refl

pub pictures_next : (l : List Operation) (i : ℕ) (d : Operation) (t : Pictures) → i < length l →
    pictures_after (operation_number (get_or l i d)) (operation_call (get_or l i d)) (operations_pictures (take i l) t) ≡
    operations_pictures (take (i + 1) l) t
pictures_next l i d t h =
    sym (ap (λ k. operations_pictures (take k l) t) (add-one i) ∙ ap (λ os. operations_pictures os t) (take-suc l i d h)
    ∙ pictures_more (take i l) (get_or l i d) t)
