-- Laws of the invariant's parts: maps of the same keys with a key more or less, a named place under a write, an answer and a crash. Assumes nothing.
use Prim.Native.Nat.{ℕ}
use mathlib.Core.Bool.{true}
use mathlib.Core.Logic.{⊎_elim}
use mathlib.Core.Option.{Option, none, some}
use mathlib.Core.Path.{◌∙◌, ◌≡◌, ap, refl, sym}
use lib.Dec.{eqb}
use Rattle.base.proofs.Maps.{del_in, del_other, del_some, in_del, put_some, some_of}
use Rattle.base.proofs.Tests.{none_iff, split}
use Rattle.base.specs.Maps.{Map, del, is_some, put}
use Rattle.blockcache.specs.Upstream.{NoAddr}
use Rattle.blockdisk.proofs.Reading.{replacing, replacing_other}
use Rattle.blockdisk.specs.Upstream.{Imap}
use Rattle.disklayout.specs.declared.Location.{Location}
use Rattle.sectortype.specs.Abstract.{IndirectionTable}
use Rattle.sectortype.specs.declared.Node.{Node}
use Rattle.blocksystem.specs.Upstream.{unless_writing}
use Rattle.blocksystem.proofs.Invariant.{Kept, Located, NodeReadsAwaited, NoneAt, NoneQueued, ReadsQueued, SameKeys, StoredPictured}

-- TWO MAPS OF THE SAME KEYS

module _ {A B : Type 0} (a : Map A) (b : Map B) (same : SameKeys a b) (k : ℕ) where
  pub same_put : (v : A) (w : B) → SameKeys (put a k v) (put b k w)
  unfolding put
  same_put v w j = split (eqb j k) (λ e. rw e) (λ e. rw e (same j))

  pub same_del : SameKeys (del a k) (del b k)
  unfolding del
  same_del j = split (eqb j k) (λ e. rw e) (λ e. rw e (same j))

  pub same_none : b k ≡ none → a k ≡ none
  same_none e = (none_iff (a k)).0 (same k ∙ ap is_some e)

-- a key of one map that is one of another, after both get a key
pub in_put_both : {A B : Type 0} (a : Map A) (b : Map B) (k : ℕ) (v : A) (w : B) (j : ℕ) → (is_some (a j) ≡ true → is_some (b j) ≡ true) →
    is_some (put a k v j) ≡ true → is_some (put b k w j) ≡ true
unfolding put
in_put_both a b k v w j h i = split (eqb j k) (λ e. rw e) (λ e. rw e (h (rw e at i)))

pub frozen_none : (w : Option ℕ) → unless_writing w none ≡ none
frozen_none none = refl
frozen_none (some id) = refl

-- A READ ANSWERED: neither queued nor awaited any longer

module _ (queue : Map Location) (reading : Map ℕ) (id : ℕ) where
  pub answered_awaited : (locs : Map Location) → NodeReadsAwaited queue reading locs → NodeReadsAwaited (del queue id) (del reading id) locs
  answered_awaited locs h j k q =
      let e = del_some queue id j q in
      let w = h j k e.1 in
      (w.0, del_other reading id j e.0 ∙ w.1, w.2)

  pub answered_queued : ReadsQueued reading queue → ReadsQueued (del reading id) (del queue id)
  answered_queued h j i = let e = del_in reading id j i in in_del queue id j e.0 (h j e.1)

-- QUEUES WITH FEWER REQUESTS

abbrev pub Fewer : Map Location → Map Location → Type 0
Fewer a b = (id : ℕ) (k : Location) → a id ≡ some k → b id ≡ some k

pub fewer_del : (m : Map Location) (id : ℕ) → Fewer (del m id) m
fewer_del m id j k e = (del_some m id j e).1

pub none_fewer : (a b : Map Location) → Fewer a b → NoneQueued b → NoneQueued a
none_fewer a b f n id k e = n id k (f id k e)

-- WHAT IS STORED ON THE DISK

-- a write to another address
pub stored_elsewhere : {nodes : Imap Node} {l : Location} {p : Option Node} (k : Location) (n : Node) → StoredPictured nodes l p →
    (l.addr ≡ k.addr → ⊥) →
    StoredPictured (replacing nodes k n) l p
stored_elsewhere {nodes} {l} k n s ne = record { node = s.node; stored = replacing_other nodes k n l ne ∙ s.stored; pictured = s.pictured }

-- a write to an address that no location has
pub located_write : (nodes : Imap Node) (k : Location) (n : Node) (locs : Map Location) (pic : Map Node) → Located nodes locs pic →
    NoAddr locs k.addr → Located (replacing nodes k n) locs pic
located_write nodes k n locs pic h free ref l e = stored_elsewhere k n (h ref l e) (free ref l e)

-- A NAMED PLACE

module _ {d : ℕ} {tables : Imap IndirectionTable} {nodes : Imap Node} {tw nw : Map Location} {l : Location} {pic : Map Node}
    (h : Kept d tables nodes tw nw l pic) where
  pub kept_keys : SameKeys pic h.table.locs
  kept_keys ref =
      split (is_some (h.table.locs ref))
      (λ e. let d = some_of h.table.locs ref e in e' (h.located ref d.0 d.1) e)
      (λ e. rw (e, h.no_more ref ((none_iff (h.table.locs ref)).0 e)))
    where
      e' : {k : Location} → StoredPictured nodes k (pic ref) → is_some (h.table.locs ref) ≡ true →
          is_some (pic ref) ≡ is_some (h.table.locs ref)
      e' s e = rw (e, s.pictured)

  -- a node written to an address that no location of its table has
  pub kept_node_write : (id : ℕ) (k : Location) (n : Node) → NoAddr h.table.locs k.addr →
      Kept d tables (replacing nodes k n) tw (put nw id k) l pic
  kept_node_write id k n free =
      record {
        table = h.table;
        stored = h.stored;
        located = located_write nodes k n h.table.locs pic h.located free;
        no_more = h.no_more;
        complete = h.complete;
        distinct = h.distinct;
        lists = h.lists;
        none_at_place = h.none_at_place;
        none_at_nodes = λ ref m e j q p a.
            ⊎_elim (λ (x : (j ≡ id) × (k ≡ q)). free ref m e (sym (ap (λ y. y.addr) x.1 ∙ a))) (λ x. h.none_at_nodes ref m e j q x.1 a)
            (put_some nw id k j p);
      }

  -- a table written in another area
  pub kept_table_write : (id : ℕ) (k : Location) (t : IndirectionTable) → (k.addr ≡ l.addr → ⊥) →
      Kept d (replacing tables k t) nodes (put tw id k) nw l pic
  kept_table_write id k t apart =
      record {
        table = h.table;
        stored = replacing_other tables k t l (λ e. apart (sym e)) ∙ h.stored;
        located = h.located;
        no_more = h.no_more;
        complete = h.complete;
        distinct = h.distinct;
        lists = h.lists;
        none_at_place = λ j q p a. ⊎_elim (λ (x : (j ≡ id) × (k ≡ q)). apart (ap (λ y. y.addr) x.1 ∙ a)) (λ x. h.none_at_place j q x.1 a)
            (put_some tw id k j p);
        none_at_nodes = h.none_at_nodes;
      }

  -- requests answered
  pub kept_fewer : {tw' nw' : Map Location} → Fewer tw' tw → Fewer nw' nw → Kept d tables nodes tw' nw' l pic
  kept_fewer f g =
      record {
        table = h.table;
        stored = h.stored;
        located = h.located;
        no_more = h.no_more;
        complete = h.complete;
        distinct = h.distinct;
        lists = h.lists;
        none_at_place = λ j q p. h.none_at_place j q (f j q p);
        none_at_nodes = λ ref m e j q p. h.none_at_nodes ref m e j q (g j q p);
      }

  -- a crash leaves what no write is queued for, and nothing queued
  pub kept_crash : {tables' : Imap IndirectionTable} {nodes' : Imap Node} {tw' nw' : Map Location} → NoneQueued tw' → NoneQueued nw' →
      ((k : Location) (t : IndirectionTable) → tables k ≡ some t → NoneAt tw k.addr → tables' k ≡ some t) →
      ((k : Location) (n : Node) → nodes k ≡ some n → NoneAt nw k.addr → nodes' k ≡ some n) → Kept d tables' nodes' tw' nw' l pic
  kept_crash none_t none_n still_t still_n =
      record {
        table = h.table;
        stored = still_t l h.table h.stored h.none_at_place;
        located = λ ref k e. let s = h.located ref k e in
            record { node = s.node; stored = still_n k s.node s.stored (h.none_at_nodes ref k e); pictured = s.pictured };
        no_more = h.no_more;
        complete = h.complete;
        distinct = h.distinct;
        lists = h.lists;
        none_at_place = λ j q p a. none_t j q p;
        none_at_nodes = λ ref k e j q p a. none_n j q p;
      }
