-- A newly formatted device: its root is read at its place through the table stored at the place that is named, and the invariant holds. And which
-- formattings are accepted. Assumes nothing.
use Prim.Native.Nat.{◌≤◌, suc, zero, ℕ}
use mathlib.Core.Bool.{Bool, ◌&&◌, cond, false, true}
use mathlib.Core.Logic.{◌↔◌, ◌⊎◌, ⊎_elim}
use mathlib.Core.Option.{some}
use mathlib.Core.Path.{◌∙◌, ◌≡◌, ap, refl, sym}
use native.Mathlib.Omega.{arith}
use lib.ListN.{set}
use lib.Dec.{eqb, ltb}
use borrow.Author.Tests.{le-ltb, leb-true}
use Rattle.base.proofs.Scan.{some_of_none}
use Rattle.blockcache.specs.Form.{empty_cache}
use Rattle.blockcache.specs.Upstream.{AllLocationsForDifferentRefsDontOverlap, WFCompleteIndirectionTable}
use Rattle.sectortype.specs.Graph.{has_succ}
use Rattle.sectortype.specs.declared.Succs.{Succs}
use Rattle.base.proofs.Maps.{in_put_same, put_none, put_other, put_same, put_some}
use Rattle.base.proofs.Tests.{and_iff, clash, leb_iff, never, split}
use Rattle.base.specs.Maps.{empty, put}
use Rattle.blockcache.proofs.MarkLaws.{empty_form}
use Rattle.blockdisk.proofs.Crashing.{crashed_form, empty_records_form, empty_records_placed}
use Rattle.blockdisk.proofs.Kept.{with_node_form, with_node_placed, with_table_form, with_table_placed}
use Rattle.blockdisk.proofs.Rules.{rule_iff}
use Rattle.blockdisk.proofs.Reading.{node_written_lem, table_leaves_nodes, table_written_lem, upstream_of, with_node_is, with_table_is}
use Rattle.blockdisk.specs.Crash.{empty_queues}
use Rattle.blockdisk.specs.Form.{disk_form, is_rule, records_checked}
use Rattle.blockdisk.specs.Records.{empty_records, present_record, with_node, with_table}
use Rattle.blockdisk.specs.Upstream.{disk_vars, nodes_stored, upstream_tables}
use Rattle.blockdisk.specs.declared.Records.{Records}
use Rattle.disklayout.specs.Blocks.{node_block_of, node_place, table_area_of}
use Rattle.disklayout.specs.Device.{device_of, devices, made}
use Rattle.disklayout.specs.Layout.{valid_indirection_table_addr, valid_indirection_table_location, valid_node_addr, valid_node_location}
use Rattle.disklayout.specs.declared.Location.{Location}
use Rattle.sectortype.proofs.Forms.{empty_nodes_form, empty_table_form, with_entry_form, with_slot_form, zero_succs_form}
use Rattle.sectortype.proofs.Maps.{empty_graph, empty_locs, empty_nodes_lem, graph_put, locs_put, nodes_put}
use Rattle.sectortype.specs.Abstract.{graph_of, indirection_table, locs_of, nodes_map}
use Rattle.sectortype.specs.Form.{empty_nodes, empty_table, nodes_form, succ_at, table_form, zero_node, zero_succs}
use Rattle.sectortype.specs.declared.Contents.{Contents}
use Rattle.blocksystem.proofs.Accepting.{none_queued}
use Rattle.blocksystem.proofs.Invariant.{Invariant, KeptOn, ListsAgree, PicturesForm}
use Rattle.blocksystem.proofs.Laws.{same_put}
use Rattle.blocksystem.specs.Format.{empty_disk, formatted, formatted_disk, formatted_records, root_node, root_place, root_table}
use Rattle.blocksystem.specs.Format.{table_place_of}
use Rattle.blocksystem.specs.Names.{first_pictures, with_root}
use Rattle.blocksystem.specs.Run.{start}
use Rattle.blocksystem.specs.declared.Outcome.{Outcome}

-- THE TWO PLACES, DEVICE BY DEVICE

each_device : (P : ℕ → Type 0) → P 0 → P 1 → P 2 → (d : ℕ) → made d ≡ true → P d
each_device P a b c zero e = a
each_device P a b c (suc zero) e = b
each_device P a b c (suc (suc zero)) e = c
each_device P a b c (suc (suc (suc d))) e = absurd (omega (arith, leb-true (suc (suc (suc d))) 2 e))

pub root_place_lem : (d : ℕ) → made d ≡ true → node_place (device_of d) (root_place d) ≡ true
unfolding device_of devices node_place node_block_of valid_node_location valid_node_addr
root_place_lem = each_device (λ d. node_place (device_of d) (root_place d) ≡ true) refl refl refl

pub table_place : (d : ℕ) → made d ≡ true → valid_indirection_table_location (device_of d) (table_place_of d) ≡ true
unfolding device_of devices valid_indirection_table_location valid_indirection_table_addr
table_place = each_device (λ d. valid_indirection_table_location (device_of d) (table_place_of d) ≡ true) refl refl refl

root_block : (d : ℕ) → made d ≡ true → node_block_of (device_of d) (root_place d).addr ≡ some 0
unfolding device_of devices node_block_of valid_node_addr
root_block = each_device (λ d. node_block_of (device_of d) (root_place d).addr ≡ some 0) refl refl refl

table_area : (d : ℕ) → made d ≡ true → table_area_of (device_of d) (table_place_of d).addr ≡ some 0
unfolding device_of devices table_area_of
table_area = each_device (λ d. table_area_of (device_of d) (table_place_of d).addr ≡ some 0) refl refl refl

-- THE ROOT'S TABLE AND PICTURE

module _ (l : Location) where
  pub root_locs : locs_of (root_table l) ≡ put empty 0 l
  unfolding root_table
  root_locs =
      locs_put empty_table 0 (record { allocated = true; located = true; loc = l; succs = zero_succs }) empty_table_form
      (omega arith) refl ∙ ap (λ m. put m 0 l) empty_locs

  pub root_graph : graph_of (root_table l) ≡ put empty 0 zero_succs
  unfolding root_table
  root_graph =
      graph_put empty_table 0 (record { allocated = true; located = true; loc = l; succs = zero_succs }) empty_table_form
      (omega arith) refl ∙ ap (λ m. put m 0 zero_succs) empty_graph

  pub root_table_form : table_form (root_table l) ≡ true
  unfolding root_table
  root_table_form =
      with_entry_form empty_table 0 (record { allocated = true; located = true; loc = l; succs = zero_succs }) empty_table_form
      (omega arith) (rw zero_succs_form)

module _ (x : Contents) where
  pub root_picture : nodes_map (with_root x) ≡ put empty 0 (root_node x)
  root_picture =
      nodes_put empty_nodes 0 (record { present = true; node = root_node x }) empty_nodes_form (omega arith) refl
      ∙ ap (λ m. put m 0 (root_node x)) empty_nodes_lem

  pub root_picture_form : nodes_form (with_root x) ≡ true
  root_picture_form =
      with_slot_form empty_nodes 0 (record { present = true; node = root_node x }) empty_nodes_form (omega arith) (rw zero_succs_form)

-- an empty list names nothing
pub no_successor : (r : ℕ) → has_succ zero_succs r ≡ false
unfolding has_succ
no_successor r = some_of_none (λ k. ltb k 0 && eqb (succ_at zero_succs k) r) 8 (λ k b. rw (le-ltb k 0 (omega arith)))

-- the root's contents are those that were chosen, both numbers, and it has no successors
pub root_chosen : (x : Contents) → ((root_node x).contents ≡ x) × ((r : ℕ) → has_succ (root_node x).succs r ≡ false)
root_chosen x = (refl, no_successor)

-- at first the table's place is named and no other; its picture and the working one hold the root and nothing else, the frozen one nothing
module _ (d : ℕ) (x : Contents) where
  pub first_place : ((first_pictures d x).first.present ≡ true) × ((first_pictures d x).first.place ≡ table_place_of d)
      × ((first_pictures d x).second.present ≡ false)
  unfolding first_pictures
  first_place = (refl, refl, refl)

  pub first_picture : nodes_map (first_pictures d x).first.picture ≡ put empty 0 (root_node x)
  unfolding first_pictures
  first_picture = root_picture x

  pub first_working : nodes_map (first_pictures d x).working ≡ put empty 0 (root_node x)
  unfolding first_pictures
  first_working = root_picture x

  pub first_frozen : nodes_map (first_pictures d x).frozen ≡ empty
  unfolding first_pictures
  first_frozen = empty_nodes_lem

  pub first_forms : PicturesForm (first_pictures d x)
  unfolding first_pictures
  first_forms = record { first = root_picture_form x; second = empty_nodes_form; working = root_picture_form x; frozen = empty_nodes_form }

-- a valid node place
node_place_valid : (d : ℕ) (l : Location) → node_place (device_of d) l ≡ true → valid_node_location (device_of d) l ≡ true
unfolding node_place
node_place_valid d l e = let h = simp and_iff at e in h.0.1

-- WHAT IS STORED

module _ (d : ℕ) (x : Contents) (on : made d ≡ true) where
  abbrev k : Location
  k = table_place_of d

  abbrev l : Location
  l = root_place d

  abbrev rooted : Records
  rooted = with_node d empty_records l (root_node x)

  -- formatting is a write of the root and a write of its table
  records_are : formatted_records k l x ≡ with_table d rooted k (root_table l)
  unfolding formatted_records
  records_are =
      let node_is = with_node_is d empty_records l (root_node x) 0 on (root_block d on) in
      sym
      (with_table_is d rooted k (root_table l) 0 on (table_area d on)
      ∙ ap (λ (r : Records). record { tables = set r.tables 0 (present_record k (root_table l)); nodes = r.nodes }) node_is)

  rooted_form : (records_checked d rooted).form ≡ true
  rooted_form =
      with_node_form d empty_records on (empty_records_form d) (empty_records_placed d) l (root_node x)
      (root_place_lem d on) zero_succs_form

  rooted_placed : (records_checked d rooted).placed ≡ true
  rooted_placed = with_node_placed d empty_records on (empty_records_form d) (empty_records_placed d) l (root_node x) (root_place_lem d on)

  pub formatted_form : (r : ℕ) → is_rule r ≡ true → disk_form d (formatted_disk d x r) ≡ true
  formatted_form r rule =
      rw records_are
      (crashed_form d (formatted_disk d x r) (with_table d rooted k (root_table l)) on rule
      (with_table_form d rooted on rooted_form rooted_placed k (root_table l) (table_place d on) (root_table_form l))
      (with_table_placed d rooted on rooted_form rooted_placed k (root_table l) (table_place d on)))

  pub formatted_table : upstream_tables d (formatted_records k l x) k ≡ some (indirection_table (root_table l))
  formatted_table =
      rw records_are (upstream_of d (with_table d rooted k (root_table l)) k (root_table l)
      (table_written_lem d rooted on rooted_form k (root_table l) (table_place d on)))

  pub formatted_node : nodes_stored d (formatted_records k l x) l ≡ some (root_node x)
  formatted_node =
      rw (records_are, table_leaves_nodes d rooted k (root_table l))
      (node_written_lem d empty_records on (empty_records_form d) l (root_node x) (root_place_lem d on))

  pub root_complete : WFCompleteIndirectionTable d (indirection_table (root_table (root_place d)))
  root_complete =
      record {
        valid = λ ref loc e.
            ⊎_elim (λ (z : (ref ≡ 0) × (l ≡ loc)). rw (← z.1) (node_place_valid d l (root_place_lem d on))) (λ z. never z.1)
            (put_some empty 0 l ref (rw (root_locs l) at e));
        keys = λ ref. rw (root_locs l, root_graph l) (same_put {A = Succs} {B = Location} empty empty (λ k. refl) 0 zero_succs l ref);
        root = rw (root_graph l) (in_put_same {A = Succs} empty 0 zero_succs);
        graph_closed = λ ref list e succ h.
            ⊎_elim (λ (z : (ref ≡ 0) × (zero_succs ≡ list)). clash (rw (← z.1) at h) (no_successor succ)) (λ z. never z.1)
            (put_some empty 0 zero_succs ref (rw (root_graph l) at e));
      }

  root_distinct : AllLocationsForDifferentRefsDontOverlap (indirection_table (root_table (root_place d)))
  root_distinct r1 r2 l1 l2 a b e = only (rw (root_locs l) at a) ∙ sym (only (rw (root_locs l) at b))
    where
      only : {r : ℕ} {m : Location} → put empty 0 l r ≡ some m → r ≡ 0
      only {r} h = ⊎_elim (λ z. z.0) (λ z. never z.1) (put_some empty 0 l r h)

  root_lists : ListsAgree (graph_of (root_table (root_place d))) (nodes_map (with_root x))
  root_lists ref list n a b =
      ⊎_elim
      (λ (z : (ref ≡ 0) × (zero_succs ≡ list)).
      ⊎_elim (λ (y : (ref ≡ 0) × (root_node x ≡ n)). rw (← z.1, ← y.1) (λ r. refl)) (λ y. never y.1)
      (put_some empty 0 (root_node x) ref (rw (root_picture x) at b)))
      (λ z. never z.1)
      (put_some empty 0 zero_succs ref (rw (root_graph l) at a))

  pub formatted_kept : (r : ℕ) → KeptOn d (disk_vars d (formatted_disk d x r)) k (nodes_map (with_root x))
  formatted_kept r =
      record {
        table = indirection_table (root_table l);
        stored = formatted_table;
        complete = root_complete;
        distinct = root_distinct;
        lists = root_lists;
        located = λ ref m e.
            ⊎_elim
            (λ (z : (ref ≡ 0) × (l ≡ m)). rw (← z.1, z.0)
            (record { node = root_node x; stored = formatted_node; pictured = rw (root_picture x) (put_same empty 0 (root_node x)) }))
            (λ z. never z.1)
            (put_some empty 0 l ref (rw (root_locs l) at e));
        no_more = λ ref e. let z = put_none empty 0 l ref (rw (root_locs l) at e) in
            rw (root_picture x) (put_other empty 0 (root_node x) ref z.0);
        none_at_place = λ id m h a. none_queued id m h;
        none_at_nodes = λ ref m e id n h a. none_queued id n h;
      }

  -- what formatting returns
  module _ (r : ℕ) (rule : is_rule r ≡ true) where
    pub formatted_is : formatted d x r ≡ record { answer = 0; node = zero_node; cache = empty_cache; disk = formatted_disk d x r }
    unfolding formatted
    formatted_is = rw (on, rule)

    -- a list begins on a disk that carries the rule named
    pub start_rule : (start d x r).disk.rule ≡ r
    start_rule = ap (λ o. o.disk.rule) formatted_is

    pub formatted_holds : Invariant d (start d x r)
    unfolding first_pictures
    formatted_holds =
        rw formatted_is
        (record {
          made_device = on;
          cache_form_lem = empty_form d;
          disk_form_lem = formatted_form r rule;
          pictures_form = first_forms d x;
          first_named = refl;
          whole = record {
            inv = tt;
            first = formatted_kept r;
            second = λ m h. never h;
            apart = λ m h. never h;
            phase = record { no_table_reads = none_queued; no_node_reads = none_queued; no_table_writes = none_queued; no_node_writes = none_queued };
          };
        })

-- WHICH FORMATTINGS ARE ACCEPTED

module _ (d : ℕ) (x : Contents) (r : ℕ) where
  -- those of the three devices under one of the two rules
  pub formatted_iff : ((formatted d x r).answer ≡ 0) ↔ ((d ≤ 2) × ((r ≡ 1) ⊎ (r ≡ 2)))
  unfolding formatted
  formatted_iff = (
    (λ e. let h = (and_iff (made d) (is_rule r)).0 (taken (made d && is_rule r) e) in ((leb_iff d 2).0 h.0, (rule_iff r).0 h.1)),
    (λ (on, rule). ap (λ o. o.answer) (formatted_is d x ((leb_iff d 2).1 on) r ((rule_iff r).1 rule))),
  )
    where
      accepted : Outcome
      accepted = record { answer = 0; node = zero_node; cache = empty_cache; disk = formatted_disk d x r }

      refused : Outcome
      refused = record { answer = 1; node = zero_node; cache = empty_cache; disk = empty_disk }

      taken : (b : Bool) → (cond b accepted refused).answer ≡ 0 → b ≡ true
      taken true e = refl
      taken false e = absurd (let w : ◌≡◌ {A = ℕ} 1 0 = e in omega arith)

  -- the disk then carries the rule that was named
  pub formatted_rule : (formatted d x r).answer ≡ 0 → (formatted d x r).disk.rule ≡ r
  formatted_rule e =
      let (on, rule) = formatted_iff.0 e in
      ap (λ o. o.disk.rule) (formatted_is d x ((leb_iff d 2).1 on) r ((rule_iff r).1 rule))

  refused_is : (made d && is_rule r) ≡ false →
      formatted d x r ≡ record { answer = 1; node = zero_node; cache = empty_cache; disk = empty_disk }
  unfolding formatted
  refused_is e = rw e

  -- else it is 1 and zeros, the rule too
  pub formatted_refused : ((formatted d x r).answer ≡ 0 → ⊥) →
      formatted d x r ≡ record {
        answer = 1;
        node = zero_node;
        cache = empty_cache;
        disk = record
            { rule = 0; records = empty_records; queues = empty_queues };
      }
  formatted_refused ne =
      split (made d && is_rule r)
      (λ t. let h = (and_iff (made d) (is_rule r)).0 t in absurd (ne (ap (λ o. o.answer) (formatted_is d x h.0 r h.1))))
      refused_is
