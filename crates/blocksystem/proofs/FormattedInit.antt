-- A newly formatted device meets BlockSystem's Init at its table's place. Assumes nothing.
use Prim.Native.Nat.{ℕ}
use mathlib.Core.Bool.{false, false≢true, true}
use mathlib.Core.Logic.{⊎_elim}
use mathlib.Core.Option.{Option}
use mathlib.Core.Path.{◌≡◌, ap, fun_ext, refl}
use lib.Dec.{eqb}
use borrow.Author.Tests.{eqb-true}
use Rattle.base.proofs.Maps.{in_put_same, put_same, put_some}
use Rattle.base.proofs.Tests.{clash, never, split}
use Rattle.base.specs.Maps.{empty, is_some, put}
use Rattle.blockcache.specs.Upstream.{In}
use Rattle.blockdisk.proofs.Demand2.{disk_init}
use Rattle.blockdisk.specs.Form.{is_rule}
use Rattle.blockdisk.specs.Upstream.{nodes_stored}
use Rattle.disklayout.specs.Device.{made}
use Rattle.disklayout.specs.declared.Location.{Location}
use Rattle.sectortype.specs.Abstract.{IndirectionTable, indirection_table}
use Rattle.sectortype.specs.Form.{zero_succs}
use Rattle.sectortype.specs.declared.Node.{Node}
use Rattle.sectortype.specs.declared.Succs.{Succs}
use Rattle.sectortype.specs.declared.Contents.{Contents}
use Rattle.blocksystem.proofs.Formatted.{formatted_is, formatted_node, no_successor, root_complete, formatted_table, root_graph, root_locs}
use Rattle.blocksystem.proofs.Formatted.{table_place}
use Rattle.blocksystem.specs.Format.{formatted, formatted_disk, formatted_records, root_node, root_place, root_table, table_place_of}
use Rattle.blocksystem.specs.Upstream.{disk_graph, Init, NoDanglingPointers, SuccessorsAgree, system_vars}

-- a map with the key 0 alone
only_zero : {A : Type 0} (a : A) (k : ℕ) → In k (put empty 0 a) → k ≡ 0
unfolding put
only_zero a k i = split (eqb k 0) (λ t. eqb-true k 0 t) (λ t. absurd (let z : false ≡ true = rw t at i in false≢true z))

module _ (d : ℕ) (x : Contents) (on : made d ≡ true) where
  abbrev l : Location
  l = root_place d

  abbrev nodes : Location → Option Node
  nodes = nodes_stored d (formatted_records (table_place_of d) (root_place d) x)

  abbrev t : IndirectionTable
  t = indirection_table (root_table (root_place d))

  -- the root alone
  graph_is : disk_graph (indirection_table (root_table (root_place d))) nodes ≡ put empty 0 (root_node x)
  unfolding disk_graph put
  graph_is =
      rw (root_graph l, root_locs l)
      (fun_ext (λ k. split (eqb k 0) (λ e. rw e (formatted_node d x on)) (λ e. rw e)))

  agree : SuccessorsAgree (put empty 0 zero_succs) (put empty 0 (root_node x))
  agree =
      record {
        there = λ k i. let e : k ≡ 0 = only_zero zero_succs k i in rw e (in_put_same {A = Node} empty 0 (root_node x));
        back = λ k i. let e : k ≡ 0 = only_zero (root_node x) k i in rw e (in_put_same {A = Succs} empty 0 zero_succs);
        same = λ ref list n a b r.
            ⊎_elim
            (λ (z : (ref ≡ 0) × (zero_succs ≡ list)).
            ⊎_elim (λ (y : (ref ≡ 0) × (root_node x ≡ n)). rw (← z.1, ← y.1) refl) (λ y. never y.1) (put_some empty 0 (root_node x) ref b))
            (λ z. never z.1)
            (put_some empty 0 zero_succs ref a);
      }

  closed : NoDanglingPointers (put empty 0 (root_node x))
  closed r1 r2 n e h =
      ⊎_elim (λ (y : (r1 ≡ 0) × (root_node x ≡ n)). clash (rw (← y.1) at h) (no_successor r2)) (λ y. never y.1)
      (put_some empty 0 (root_node x) r1 e)

  pub formatted_init : (r : ℕ) → is_rule r ≡ true → Init d (system_vars d (formatted d x r).cache (formatted d x r).disk) (table_place_of d)
  formatted_init r rule =
      rw (formatted_is d x on r rule)
      (record {
        machine = refl;
        disk = disk_init d (formatted_disk d x r) refl;
        whole = record {
          valid = table_place d on;
          table = indirection_table (root_table (root_place d));
          there = formatted_table d x on;
          complete = root_complete d x on;
          stored = λ ref loc e.
              ⊎_elim (λ (z : (ref ≡ 0) × (l ≡ loc)). rw (← z.1) (ap is_some (formatted_node d x on))) (λ z. never z.1)
              (put_some empty 0 l ref (rw (root_locs l) at e));
        };
        agree = rw (formatted_table d x on, graph_is, root_graph l) agree;
        closed = rw (formatted_table d x on, graph_is) closed;
        root = root_node x;
        root_there = rw (formatted_table d x on, graph_is) (put_same empty 0 (root_node x));
        only_root = rw (formatted_table d x on, graph_is) (only_zero (root_node x));
        no_successors = no_successor;
      })
