-- What is said of the cache in Ready, in upstream's variables: the working picture has the references of the ephemeral graph, and what is said of each. Assumes nothing.
use Prim.Native.Nat.{ℕ}
use mathlib.Core.Bool.{true}
use mathlib.Core.Logic.{◌↔◌, ◌⊎◌, inl, inr, ⊎_elim}
use mathlib.Core.Option.{Option, some}
use mathlib.Core.Path.{◌∙◌, ◌≡◌, ap, refl, sym}
use Rattle.base.proofs.Tests.{and_both, and_iff, or_cases, or_inl, or_inr, some_iff}
use Rattle.base.specs.Maps.{Map, is_some}
use Rattle.blockcache.proofs.Forms.{cache_form_iff}
use Rattle.blockcache.specs.Abstract.{ready_vars}
use Rattle.blockcache.specs.Form.{cache_form}
use Rattle.blockcache.specs.Upstream.{In, Ready}
use Rattle.blockdisk.proofs.Forms.{disk_form_iff}
use Rattle.blockdisk.proofs.Reading.{stored_node_form}
use Rattle.blockdisk.specs.Form.{disk_form}
use Rattle.blockdisk.specs.Upstream.{Imap, disk_vars}
use Rattle.disklayout.specs.declared.Location.{Location}
use Rattle.sectortype.proofs.Maps.{in_graph, in_nodes, locs_at, locs_some, nodes_at, nodes_form_at, nodes_some}
use Rattle.sectortype.specs.Abstract.{locs_of, nodes_map}
use Rattle.sectortype.specs.Form.{nodes_form}
use Rattle.sectortype.specs.declared.Node.{Node}
use Rattle.blocksystem.proofs.Counting.{entry_read_iff}
use Rattle.blocksystem.proofs.Invariant.{SameKeys, StoredPictured}
use Rattle.blocksystem.proofs.ScreenReads.{pictured_iff}
use Rattle.blocksystem.specs.Run.{State}
use Rattle.blocksystem.specs.Screen.{ReadyShown, Shown, cache_slot, ephemeral_entry, is_pictured, stored_record}
use Rattle.blocksystem.specs.Upstream.{at}

-- a reference of the ephemeral graph: its cached node, its ephemeral location, what the disk has, and its node of the picture
pub record ShownOf (cached : Option Node) (loc : Option Location) (nodes : Imap Node) (pictured : Option Node) : Type 0 where
  -- in the cache, or on the disk at its ephemeral location
  pub found : (is_some cached ≡ true) ⊎ (is_some (at nodes loc) ≡ true)
  pub in_cache : (n : Node) → cached ≡ some n → pictured ≡ some n
  pub on_disk_lem : (l : Location) → loc ≡ some l → StoredPictured nodes l pictured

pub record ReadyShownOf (x : Ready) (nodes : Imap Node) (pic : Map Node) : Type 0 where
  pub keys : SameKeys pic x.ephemeral_indirection_table.graph
  pub shown : (ref : ℕ) → In ref x.ephemeral_indirection_table.graph →
      ShownOf (x.cache ref) (x.ephemeral_indirection_table.locs ref) nodes (pic ref)

module _ (d : ℕ) (s : State) (cache_form_lem : cache_form d s.cache ≡ true) (disk_form_lem : disk_form d s.disk ≡ true)
    (form : nodes_form s.pictures.working ≡ true) (ref : ℕ) where
  abbrev nodes : Imap Node
  nodes = (disk_vars d s.disk).nodes

  abbrev locs : Map Location
  locs = locs_of s.cache.tables.ephemeral

  -- the cached node, if there is one
  cached_iff : (n : Node) → nodes_map s.cache.nodes ref ≡ some n →
      (is_pictured s.pictures.working ref n ≡ true) ↔ (nodes_map s.pictures.working ref ≡ some n)
  cached_iff n e =
      pictured_iff s.pictures.working ref n form (nodes_form_at s.cache.nodes ((cache_form_iff d s.cache).0 cache_form_lem).0.nodes ref n e)

  -- what is stored at a location, if there is something
  stored_iff : (l : Location) (n : Node) → nodes l ≡ some n →
      (is_pictured s.pictures.working ref n ≡ true) ↔ (nodes_map s.pictures.working ref ≡ some n)
  stored_iff l n e =
      let f = (disk_form_iff d s.disk).0 disk_form_lem in
      pictured_iff s.pictures.working ref n form (stored_node_form d s.disk.records f.on f.form l n e)

  -- the record looked at is what the disk has at the ephemeral location
  record_iff : (n : Node) → (((stored_record d s ref).present ≡ true) × ((stored_record d s ref).held ≡ n)) ↔ (at nodes (locs ref) ≡ some n)
  record_iff n = entry_read_iff d s.disk.records s.cache.tables.ephemeral ref n

  shown_there : Shown d s ref → ShownOf (nodes_map s.cache.nodes ref) (locs ref) nodes (nodes_map s.pictures.working ref)
  shown_there h =
      record {
        found =
            ⊎_elim (λ t. inl (in_nodes s.cache.nodes ref ∙ t))
            (λ t. inr (ap is_some ((record_iff (stored_record d s ref).held).0 (t, refl))))
            (or_cases (cache_slot s ref).present (stored_record d s ref).present h.found);
        in_cache = λ n e. let c = nodes_some s.cache.nodes ref e in (cached_iff n e).0 (rw c.1 at (h.cached c.0));
        on_disk_lem = λ l e.
            let c = locs_some s.cache.tables.ephemeral ref e in
            let y = (and_iff (stored_record d s ref).present (is_pictured s.pictures.working ref (stored_record d s ref).held)).0
            (h.located c.0) in
            let there : nodes l ≡ some (stored_record d s ref).held = rw e at ((record_iff (stored_record d s ref).held).0 (y.0, refl)) in
            record {
              node = (stored_record d s ref).held;
              stored = there;
              pictured = (stored_iff l
                  (stored_record d s ref).held there).0 y.1;
            };
      }

  shown_back : ShownOf (nodes_map s.cache.nodes ref) (locs ref) nodes (nodes_map s.pictures.working ref) → Shown d s ref
  shown_back h =
      record {
        found = ⊎_elim (λ t. or_inl (stored_record d s ref).present (sym (in_nodes s.cache.nodes ref) ∙ t))
            (λ t. let x = (some_iff (at nodes (locs ref))).0 t in or_inr (cache_slot s ref).present ((record_iff x.0).1 x.1).0)
            h.found;
        cached = λ t. let e = nodes_at s.cache.nodes ref t in
            (cached_iff (cache_slot s ref).node e).1 (h.in_cache (cache_slot s ref).node e);
        located = λ t.
            let l = (ephemeral_entry s ref).loc in
            let e = locs_at s.cache.tables.ephemeral ref t in
            let y = h.on_disk_lem l e in
            let there : at nodes (locs ref) ≡ some y.node = rw e y.stored in
            let r = (record_iff y.node).1 there in
            and_both r.0 (rw r.1 ((stored_iff l y.node y.stored).1 y.pictured));
      }

-- what is said of the cache in Ready is said of upstream's variables
pub ready_shown_iff : (d : ℕ) (s : State) → cache_form d s.cache ≡ true → disk_form d s.disk ≡ true → nodes_form s.pictures.working ≡ true →
    ReadyShown d s ↔ ReadyShownOf (ready_vars s.cache) (disk_vars d s.disk).nodes (nodes_map s.pictures.working)
ready_shown_iff d s c k f =
    let t = s.cache.tables.ephemeral in
    let pic = s.pictures.working in (
      (λ h. record {
        keys = λ ref. in_nodes pic ref ∙ h.allocated ref ∙ sym (in_graph t ref);
        shown = λ ref i. shown_there d s c k f ref (h.shown ref (sym (in_graph t ref) ∙ i));
      }),
      (λ h. record {
        allocated = λ ref. sym (in_nodes pic ref) ∙ h.keys ref ∙ in_graph t ref;
        shown = λ ref a. shown_back d s c k f ref (h.shown ref (in_graph t ref ∙ a));
      }),
    )
