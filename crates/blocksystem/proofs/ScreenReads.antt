-- The count of accepted reads that differ from the working picture is 0 exactly when, wherever the list is cut, an accepted read right after the first
-- part hands out the working picture's node. Assumes nothing.
use Prim.Native.Nat.{◌+◌, ◌≤◌, ℕ}
use mathlib.Core.Bool.{false, true}
use mathlib.Core.List.{List, [], ◌++◌, ◌∷◌}
use mathlib.Core.Logic.{◌↔◌}
use mathlib.Core.Option.{some}
use mathlib.Core.Path.{◌∙◌, ◌≡◌, ap, refl, sym}
use native.Mathlib.Omega.{arith}
use borrow.Author.Tests.{eq-eqb, eqb-true}
use lib.ListN.{get_or-eq_default, length}
use Rattle.base.proofs.Scan.{bit_zero_iff}
use Rattle.base.proofs.Tests.{and_iff, clash, split}
use Rattle.base.specs.Scan.{bit}
use Rattle.blockcache.proofs.Demand2.{cache_read}
use Rattle.blockcache.proofs.Numbers.{call_accepted_iff}
use Rattle.blockcache.proofs.Outcomes.{cache_node}
use Rattle.blockcache.specs.Abstract.{ready_vars}
use Rattle.blockcache.specs.Form.{is_ready}
use Rattle.blockcache.specs.Steps.{is_read}
use Rattle.blockcache.specs.Upstream.{ReadStep}
use Rattle.blockcache.specs.declared.Call.{Call}
use Rattle.blockdisk.specs.declared.Records.{Records}
use Rattle.sectortype.proofs.Equal.{node_equal_iff, same_node_iff}
use Rattle.sectortype.proofs.Maps.{nodes_at, nodes_form_at, nodes_some}
use Rattle.sectortype.specs.Abstract.{nodes_map}
use Rattle.sectortype.specs.Form.{default_slot, node_form, nodes_form, slot_at}
use Rattle.sectortype.specs.Same.{same_node}
use Rattle.sectortype.specs.declared.Contents.{Contents}
use Rattle.sectortype.specs.declared.Node.{Node}
use Rattle.sectortype.specs.declared.Nodes.{Nodes}
use Rattle.blocksystem.proofs.Accepting.{joined_node, joined_zero}
use Rattle.blocksystem.proofs.After.{every_iff}
use Rattle.blocksystem.proofs.Formatted.{first_forms}
use Rattle.blocksystem.proofs.Invariant.{PicturesForm}
use Rattle.blocksystem.proofs.PictureForms.{run_form}
use Rattle.blocksystem.specs.Joined.{joined, settings_of}
use Rattle.blocksystem.specs.Run.{Every, JoinedCall, State, accepts_step, after, asked, choose, moved, operations, start, step}
use Rattle.blocksystem.specs.Screen.{differs, is_pictured, reads_differing, step_differs}

-- WHAT IS THE PICTURE'S

-- the test is equality with the node that the picture has of the reference
pub pictured_iff : (picture : Nodes) (ref : ℕ) (n : Node) → nodes_form picture ≡ true → node_form n ≡ true →
    (is_pictured picture ref n ≡ true) ↔ (nodes_map picture ref ≡ some n)
pictured_iff picture ref n f g = (
  (λ e. let h = (and_iff (slot_at picture ref).present (same_node n (slot_at picture ref).node)).0 e in
      let there = nodes_at picture ref h.0 in
      let k = nodes_form_at picture f ref (slot_at picture ref).node there in
      there ∙ ap some (sym ((same_node_iff n (slot_at picture ref).node g k).0 h.1))),
  (λ e. let h = nodes_some picture ref e in rw (h.0, h.1) ((same_node_iff n n g g).1 refl)),
)

-- a reference past the picture's last has no node in it
pub none_past : (picture : Nodes) (ref : ℕ) (n : Node) → length picture.slots ≤ ref → is_pictured picture ref n ≡ false
none_past picture ref n e = rw (get_or-eq_default picture.slots default_slot e)

-- A READ

-- what it hands out is the node that the working picture has of its reference: high, low and list
pub record HandsOutPictured (d : ℕ) (s : State) (q : Call) (o : Records) : Type 0 where
  pub node : Node
  pub pictured : nodes_map s.pictures.working q.reference ≡ some node
  pub high : (asked d s 17 q o).node.contents.high ≡ node.contents.high
  pub low : (asked d s 17 q o).node.contents.low ≡ node.contents.low
  pub list : (asked d s 17 q o).node.succs ≡ node.succs

module _ (d : ℕ) (s : State) (q : Call) (o : Records) where
  -- an accepted read: the cache is Ready, and hands out its node of an allocated reference
  pub read_cached : (asked d s 17 q o).answer ≡ 0 → (is_ready s.cache ≡ true)
      × ReadStep (ready_vars s.cache) q.reference (asked d s 17 q o).node
  unfolding joined
  read_cached e =
      let z = (joined_zero d 17 q o s.cache s.disk).0 e in
      let r = cache_read (settings_of d s.disk) s.cache q z.0 in
      (r.0, rw (joined_node d 17 q o s.cache s.disk e, cache_node (settings_of d s.disk) s.cache q z.0) r.2)

  node_read_form : (asked d s 17 q o).answer ≡ 0 → node_form (asked d s 17 q o).node ≡ true
  unfolding joined
  node_read_form e =
      let x = (call_accepted_iff (settings_of d s.disk) s.cache 17 q).0 ((joined_zero d 17 q o s.cache s.disk).0 e).0 in
      nodes_form_at s.cache.nodes x.form.form.nodes q.reference (asked d s 17 q o).node (read_cached e).1.cached

  -- it differs from the picture, or hands out the picture's node
  same_iff : PicturesForm s.pictures → (asked d s 17 q o).answer ≡ 0 → (step_differs d s 17 q o ≡ false) ↔ HandsOutPictured d s q o
  same_iff f e =
      let t : accepts_step d s 17 q o ≡ true = eq-eqb _ _ e in
      let n = (asked d s 17 q o).node in
      let w = pictured_iff s.pictures.working q.reference n f.working (node_read_form e) in
      let test = is_pictured s.pictures.working q.reference n in (
        (λ z. let h : test ≡ true = split test (λ y. y) (λ y. clash (rw (t, y)) z) in
            record { node = n; pictured = w.0 h; high = refl; low = refl; list = refl }),
        (λ h. let same : n ≡ h.node = (node_equal_iff n h.node).1 (h.high, (h.low, h.list)) in
            let y : test ≡ true = w.1 (h.pictured ∙ ap some (sym same)) in rw (t, y)),
      )

-- A LIST

-- wherever the list is cut, a read right after the first part, if it is accepted, hands out the working picture's node
abbrev pub EveryReadPictured : ℕ → State → List JoinedCall → Type 0
EveryReadPictured d s calls =
    (front back : List JoinedCall) (q : Call) (o : Records) → calls ≡ front ++ (step 17 q o ∷ back) →
    (asked d (after d s front) 17 q o).answer ≡ 0 → HandsOutPictured d (after d s front) q o

-- a call is not counted, if it is no read or hands out the picture's node where it is accepted
pub not_counted : (d : ℕ) (s : State) (k : JoinedCall) → PicturesForm s.pictures →
    ((q : Call) (o : Records) → k ≡ step 17 q o → (asked d s 17 q o).answer ≡ 0 → HandsOutPictured d s q o) → differs d s k ≡ false
not_counted d s (step n q o) f h =
    split (is_read n)
    (λ r. let e : n ≡ 17 = eqb-true n 17 r in
    rw e (split (accepts_step d s 17 q o) (λ t. let z = eqb-true _ _ t in (same_iff d s q o f z).1 (h q o (ap (λ m. step m q o) e) z))
    (λ t. rw t)))
    (λ r. split (accepts_step d s n q o) (λ t. rw (t, r)) (λ t. rw t))
not_counted d s choose f h = refl
not_counted d s (operations q l) f h = refl

abbrev pub CallSame : ℕ → State → JoinedCall → Type 0
CallSame d s k = differs d s k ≡ false

-- the count is 0 exactly when no call is counted
pub each_same : (d : ℕ) (calls : List JoinedCall) (s : State) → (reads_differing d s calls ≡ 0) ↔ Every d (CallSame d) s calls
unfolding reads_differing
each_same d [] s = ((λ h. tt), (λ h. refl))
each_same d (k ∷ ks) s =
    let one = bit_zero_iff (differs d s k) in
    let rest = each_same d ks (moved d s k) in (
      (λ h. (one.0 (omega (arith, h)), rest.0 (omega (arith, h)))),
      (λ h. let a = one.1 h.0 in let b = rest.1 h.1 in omega arith),
    )

-- what it is for the count to be 0, from any state whose pictures are in their form ..
pub reads_iff : (d : ℕ) (s : State) (calls : List JoinedCall) → PicturesForm s.pictures →
    (reads_differing d s calls ≡ 0) ↔ EveryReadPictured d s calls
reads_iff d s calls f =
    let each = each_same d calls s in
    let cuts = every_iff d (CallSame d) calls s in (
      (λ z front back q o e t. (same_iff d (after d s front) q o (run_form d front s f) t).0
          (cuts.0 (each.0 z) front back (step 17 q o) e)),
      (λ h. each.1 (cuts.1 (λ front back k e. not_counted d (after d s front) k (run_form d front s f)
          (λ q o i. h front back q o (e ∙ ap (λ j. front ++ (j ∷ back)) i))))),
    )

-- .. so from a newly formatted device, along any list, whatever place its starts are given
pub run_reads_iff : (d : ℕ) (x : Contents) (r : ℕ) (calls : List JoinedCall) →
    (reads_differing d (start d x r) calls ≡ 0) ↔ EveryReadPictured d (start d x r) calls
run_reads_iff d x r calls = reads_iff d (start d x r) calls (first_forms d x)

-- of one call it is 1 or 0, and of a list cut in two the sum
pub count_one : (d : ℕ) (s : State) (k : JoinedCall) → reads_differing d s (k ∷ []) ≡ bit (differs d s k)
unfolding reads_differing
count_one d s k = omega arith

pub count_cut : (d : ℕ) (front back : List JoinedCall) (s : State) →
    reads_differing d s (front ++ back) ≡ reads_differing d s front + reads_differing d (after d s front) back
unfolding after reads_differing
count_cut d [] back s = let n = reads_differing d s back in omega arith
count_cut d (k ∷ ks) back s = let h = count_cut d ks back (moved d s k) in omega arith
