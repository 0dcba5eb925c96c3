-- Which blocks are marked (document 02, Q-1): those whose address a location of the persistent, ephemeral or frozen table has, or an
-- outstanding write, and no others. Assumes nothing.
use Prim.Native.Nat.{◌<◌, ℕ}
use mathlib.Core.Bool.{Bool, ◌&&◌, ◌||◌, true}
use mathlib.Core.Logic.{◌↔◌, ⊎_elim}
use mathlib.Core.Path.{◌≡◌}
use lib.Dec.{eqb, ltb}
use Rattle.base.proofs.Scan.{first_found, first_passes, some_at}
use Rattle.base.proofs.Tests.{and_both, and_iff, bool_ext, eqb_iff, ltb_iff, or_cases, or_inl, or_inr}
use Rattle.base.specs.Scan.{first_below, some_below}
use Rattle.blockcache.specs.Marks.{is_marked}
use Rattle.blockcache.specs.Scan.{held_in}
use Rattle.blockcache.specs.declared.Tables.{Tables}
use Rattle.disklayout.specs.Blocks.{node_block_addr}
use Rattle.disklayout.specs.Device.{device_of}
use Rattle.queue.specs.Queue.{has_addr, request_at}
use Rattle.queue.specs.declared.Requests.{Requests}
use Rattle.sectortype.specs.Form.{entry_at}
use Rattle.sectortype.specs.Graph.{holds_addr, located_in}
use Rattle.sectortype.specs.declared.Table.{Table}

-- AN ADDRESS

-- one of the table's 64 references has a location there
abbrev pub LocatedAt : Table → ℕ → Type 0
LocatedAt t a = (r : ℕ) × (r < 64) × ((entry_at t r).located ≡ true) × ((entry_at t r).loc.addr ≡ a)

-- one of the queue's 16 places is in use and has it
abbrev pub RequestedAt : Requests → ℕ → Type 0
RequestedAt q a = (k : ℕ) × (k < 16) × (k < q.count) × ((request_at q k).loc.addr ≡ a)

-- it is in one of the three tables, the frozen one if it is there, or under an outstanding write
pub data Held (ts : Tables) (writes : Requests) (a : ℕ) : Type 0 where
  in_persistent : LocatedAt ts.persistent a → Held ts writes a
  in_ephemeral : LocatedAt ts.ephemeral a → Held ts writes a
  in_frozen : ts.isfrozen ≡ true → LocatedAt ts.frozen a → Held ts writes a
  in_write : RequestedAt writes a → Held ts writes a

some_below_iff : (g : ℕ → Bool) (n : ℕ) → (some_below g n ≡ true) ↔ ((k : ℕ) × (k < n) × (g k ≡ true))
some_below_iff g n = ((λ e. let l = first_found g n e in (first_below g n, l, first_passes g n l)), (λ (k, l, e). some_at g n k l e))

pub located_iff : (t : Table) (a : ℕ) → (holds_addr t a ≡ true) ↔ LocatedAt t a
unfolding holds_addr
located_iff t a =
    let some = some_below_iff (λ r. located_in t r && eqb (entry_at t r).loc.addr a) 64 in (
      (λ e. let (r, l, h) = some.0 e in
          let k = (and_iff (located_in t r) (eqb (entry_at t r).loc.addr a)).0 h in
          (r, l, k.0, (eqb_iff (entry_at t r).loc.addr a).0 k.1)),
      (λ (r, l, h, e). some.1 (r, l, and_both h ((eqb_iff (entry_at t r).loc.addr a).1 e))),
    )

pub requested_iff : (q : Requests) (a : ℕ) → (has_addr q a ≡ true) ↔ RequestedAt q a
unfolding has_addr
requested_iff q a =
    let some = some_below_iff (λ k. ltb k q.count && eqb (request_at q k).loc.addr a) 16 in (
      (λ e. let (k, l, h) = some.0 e in
          let i = (and_iff (ltb k q.count) (eqb (request_at q k).loc.addr a)).0 h in
          (k, l, (ltb_iff k q.count).0 i.0, (eqb_iff (request_at q k).loc.addr a).0 i.1)),
      (λ (k, l, h, e). some.1 (k, l, and_both ((ltb_iff k q.count).1 h) ((eqb_iff (request_at q k).loc.addr a).1 e))),
    )

pub held_at_iff : (ts : Tables) (writes : Requests) (a : ℕ) → (held_in ts writes a ≡ true) ↔ Held ts writes a
unfolding held_in
held_at_iff ts writes a = (
  (λ e. ⊎_elim
      (λ h. ⊎_elim
      (λ h. ⊎_elim (λ h. in_persistent (by_table ts.persistent h)) (λ h. in_ephemeral (by_table ts.ephemeral h)) (or_cases p x h))
      (λ h. let k = (and_iff ts.isfrozen (holds_addr ts.frozen a)).0 h in in_frozen k.0 (by_table ts.frozen k.1))
      (or_cases (p || x) f h))
      (λ h. in_write ((requested_iff writes a).0 h))
      (or_cases ((p || x) || f) w e)),
  from,
)
  where
    p : Bool
    p = holds_addr ts.persistent a

    x : Bool
    x = holds_addr ts.ephemeral a

    f : Bool
    f = ts.isfrozen && holds_addr ts.frozen a

    w : Bool
    w = has_addr writes a

    by_table : (t : Table) → holds_addr t a ≡ true → LocatedAt t a
    by_table t = (located_iff t a).0

    from : Held ts writes a → held_in ts writes a ≡ true
    from (in_persistent h) = or_inl w (or_inl f (or_inl x ((located_iff ts.persistent a).1 h)))
    from (in_ephemeral h) = or_inl w (or_inl f (or_inr p ((located_iff ts.ephemeral a).1 h)))
    from (in_frozen i h) = or_inl w (or_inr (p || x) (and_both i ((located_iff ts.frozen a).1 h)))
    from (in_write h) = or_inr ((p || x) || f) ((requested_iff writes a).1 h)

-- A BLOCK

module _ (d : ℕ) (ts : Tables) (writes : Requests) (b : ℕ) where
  abbrev a : ℕ
  a = node_block_addr (device_of d) b

  -- it is marked exactly when its address is held so
  pub marked_iff : (is_marked d ts writes b ≡ true) ↔ Held ts writes (node_block_addr (device_of d) b)
  unfolding is_marked
  marked_iff = held_at_iff ts writes a

  -- which is what step 1 asks of an address
  pub marked_held : is_marked d ts writes b ≡ held_in ts writes (node_block_addr (device_of d) b)
  marked_held =
      bool_ext (is_marked d ts writes b) (held_in ts writes a)
      (λ e. (held_at_iff ts writes a).1 (marked_iff.0 e))
      (λ e. marked_iff.1 ((held_at_iff ts writes a).0 e))
