-- The `==` that the records derive is the equality that is defined here. It is asked of records as the code has them: each list has its 8
-- places. Assumes nothing.
use mathlib.Core.Bool.{Bool, ◌&&◌, beq, false, true}
use mathlib.Core.Path.{◌∙◌, ◌≡◌, ap, refl}
use lib.Dec.{eqb}
use lib.ListN.{get_or-replicate, length, replicate}
use lib.Pointwise.{pointwise}
use Rattle.base.proofs.Chains.{pointwise_is_all}
use Rattle.base.proofs.Scan.{all_same}
use Rattle.disklayout.specs.declared.Location.{Location}
use Rattle.sectortype.specs.Form.{places_zero, succ_at}
use Rattle.sectortype.specs.HighLow.{same_contents}
use Rattle.sectortype.specs.Same.{same_bool, same_entry, same_node, same_succs}
use Rattle.sectortype.specs.declared.Contents.{Contents}
use Rattle.sectortype.specs.declared.Entry.{Entry}
use Rattle.sectortype.specs.declared.Node.{Node}
use Rattle.sectortype.specs.declared.Succs.{Succs}

-- WHAT THE DERIVED TESTS COMPUTE

abbrev pub contents_eq : Contents → Contents → Bool
contents_eq a b = eqb a.high b.high && eqb a.low b.low

abbrev pub succs_eq : Succs → Succs → Bool
succs_eq a b = eqb a.count b.count && pointwise eqb a.at b.at

abbrev pub node_eq : Node → Node → Bool
node_eq a b = contents_eq a.contents b.contents && succs_eq a.succs b.succs

abbrev pub loc_eq : Location → Location → Bool
loc_eq a b = eqb a.addr b.addr && eqb a.len b.len

abbrev pub entry_eq : Entry → Entry → Bool
entry_eq a b = beq a.allocated b.allocated && (beq a.located b.located && (loc_eq a.loc b.loc && succs_eq a.succs b.succs))

-- AND WHAT IS DEFINED

bool_is_same : (a b : Bool) → beq a b ≡ same_bool a b
bool_is_same true true = refl
bool_is_same true false = refl
bool_is_same false true = refl
bool_is_same false false = refl

and_assoc : (a b c d : Bool) → (a && (b && (c && d))) ≡ (a && b && c && d)
and_assoc true true c d = refl
and_assoc true false c d = refl
and_assoc false b c d = refl

pub contents_is_same : (a b : Contents) → contents_eq a b ≡ same_contents a b
unfolding same_contents
contents_is_same a b = refl

pub succs_is_same : (a b : Succs) → length a.at ≡ 8 → length b.at ≡ 8 → succs_eq a b ≡ same_succs a b
unfolding same_succs
succs_is_same a b l m = ap (λ t. eqb a.count b.count && t) (pointwise_is_all eqb 0 0 a.at b.at 8 l m)

pub node_is_same : (a b : Node) → length a.succs.at ≡ 8 → length b.succs.at ≡ 8 → node_eq a b ≡ same_node a b
unfolding same_contents
node_is_same a b l m = ap (λ t. same_contents a.contents b.contents && t) (succs_is_same a.succs b.succs l m)

pub entry_is_same : (a b : Entry) → length a.succs.at ≡ 8 → length b.succs.at ≡ 8 → entry_eq a b ≡ same_entry a b
entry_is_same a b l m =
    rw (bool_is_same a.allocated b.allocated, bool_is_same a.located b.located, succs_is_same a.succs b.succs l m)
    (and_assoc (same_bool a.allocated b.allocated) (same_bool a.located b.located) (loc_eq a.loc b.loc) (same_succs a.succs b.succs))

-- a list whose places are compared with zeros
pub zeros_is_zero : (s : Succs) → length s.at ≡ 8 → pointwise eqb s.at (replicate 8 0) ≡ places_zero s
unfolding places_zero
zeros_is_zero s l =
    pointwise_is_all eqb 0 0 s.at (replicate 8 0) 8 l refl
    ∙ all_same _ _ 8 (λ k b. ap (eqb (succ_at s k)) (get_or-replicate 8 k 0 0 b))
