-- The marks of the node blocks: upstream's variables don't see them, the marks of a cache are right once they are made anew, and where they are right
-- making them anew changes nothing. Assumes nothing.
use Prim.Native.Nat.{◌+◌, ◌-◌, ◌<◌, ◌≤◌, ℕ}
use mathlib.Core.Bool.{Bool, ◌&&◌, false, true}
use mathlib.Core.Path.{◌∙◌, ◌≡◌, ap, refl, sym}
use native.Mathlib.Omega.{arith}
use borrow.Author.Tests.{eqb-true, ltb-false, ltb-true}
use lib.Dec.{eqb, ltb}
use Rattle.base.proofs.Bits.{word_read}
use Rattle.base.proofs.Scan.{some_same}
use Rattle.base.proofs.Tests.{clash, split}
use Rattle.blockcache.proofs.FormLaws.{empty_cache_form}
use Rattle.blockcache.proofs.Forms.{LastForm, PartsForm, cache_form_iff, idle_iff, idle_marks, marks_same}
use Rattle.blockcache.proofs.MarkedBlocks.{marked_held}
use Rattle.blockcache.specs.Abstract.{cache_vars, vars_in}
use Rattle.blockcache.specs.Form.{cache_form, empty_cache, form_in, idle, is_ready, loading_at, phase_form}
use Rattle.blockcache.specs.Marks.{is_marked, mark_at, marks_of, marks_where}
use Rattle.blockcache.specs.Next.{marks_renewed, with_blocks, with_last, with_marks}
use Rattle.blockcache.specs.Scan.{held_in}
use Rattle.blockcache.specs.declared.Blocks.{Blocks}
use Rattle.blockcache.specs.declared.CacheState.{CacheState}
use Rattle.blockcache.specs.declared.Phase.{Phase}
use Rattle.blockcache.specs.declared.Phase.TheVariants.{Loading as PhaseLoading, Ready as PhaseReady, Unready as PhaseUnready}
use Rattle.blockcache.specs.declared.Tables.{Tables}
use Rattle.disklayout.specs.Blocks.{node_block_addr}
use Rattle.disklayout.specs.Device.{device_of}
use Rattle.disklayout.specs.declared.Location.{Location}
use Rattle.queue.specs.declared.Requests.{Requests}
use Rattle.sectortype.proofs.Forms.{entry_with_lem}
use Rattle.sectortype.specs.Form.{entry_at, table_form, with_entry}
use Rattle.sectortype.specs.Graph.{holds_addr}
use Rattle.sectortype.specs.declared.Entry.{Entry}
use Rattle.sectortype.specs.declared.Table.{Table}

-- NOTHING ELSE SEES THE BLOCKS

-- upstream's variables forget them
pub blocks_forgotten : (c : CacheState) (b : Blocks) → cache_vars (with_blocks c b) ≡ cache_vars c
blocks_forgotten c b = go c.phase
  where
    go : (p : Phase) → vars_in p (with_blocks c b) ≡ vars_in p c
    go PhaseUnready = refl
    go PhaseLoading = refl
    go PhaseReady = refl

pub marks_forgotten : (d : ℕ) (c : CacheState) → cache_vars (marks_renewed d c) ≡ cache_vars c
marks_forgotten d c = blocks_forgotten c (marks_renewed d c).blocks

-- the form of the other parts doesn't ask for them
phase_unmoved : (c : CacheState) (b : Blocks) → phase_form (with_blocks c b) ≡ phase_form c
unfolding phase_form idle
phase_unmoved c b = go c.phase
  where
    go : (p : Phase) → form_in p (with_blocks c b) ≡ form_in p c
    go PhaseUnready = refl
    go PhaseLoading = refl
    go PhaseReady = refl

parts_unmoved : (c : CacheState) (b : Blocks) → PartsForm c → PartsForm (with_blocks c b)
parts_unmoved c b f =
    record {
      tables = f.tables;
      places = f.places;
      awaited = f.awaited;
      outstanding = f.outstanding;
      nodes = f.nodes;
      phase = phase_unmoved c b ∙ f.phase;
    }

-- THE WRITTEN FORM

-- another block given last, in Ready
pub given_form : (d b : ℕ) (c : CacheState) → cache_form d c ≡ true → is_ready c ≡ true → b < 128 →
    cache_form d (with_last c b) ≡ true
given_form d b c f ready small =
    let (parts, blocks) = (cache_form_iff d c).0 f in
    (cache_form_iff d (with_last c b)).1 (
      parts_unmoved c (with_last c b).blocks parts,
      record { marks = blocks.marks; last = record { small = omega arith; zero = λ n. clash ready n } },
    )

-- made anew they are right
pub renewed_form : (d : ℕ) (c : CacheState) → PartsForm c → LastForm c.phase c.blocks.last → cache_form d (marks_renewed d c) ≡ true
renewed_form d c f l =
    (cache_form_iff d (marks_renewed d c)).1
    (parts_unmoved c (marks_renewed d c).blocks f, record { marks = refl; last = l })

-- and where they are right, nothing changes
pub right_marks : (d : ℕ) (c : CacheState) → c.blocks.marks ≡ marks_of d c.tables c.outstanding.writes → marks_renewed d c ≡ c
right_marks d c e = λ i. with_marks c (sym e i)

-- before Ready there are none
pub none_marked : (d : ℕ) {p : Phase} {l : Location} → PartsForm (loading_at p l) → marks_renewed d (loading_at p l) ≡ loading_at p l
unfolding idle
none_marked d {p} {l} f = right_marks d (loading_at p l) (sym (idle_marks d (loading_at p l) f ((idle_iff (loading_at p l)).0 refl)))

pub empty_form : (d : ℕ) → cache_form d empty_cache ≡ true
unfolding idle
empty_form d =
    let none = idle_marks d empty_cache empty_cache_form ((idle_iff empty_cache).0 refl) in
    (cache_form_iff d empty_cache).1
    (empty_cache_form, record { marks = sym none; last = record { small = omega arith; zero = λ n. refl } })

-- THE MARKS READ

-- block by block the words say what they were made of
pub mark_read : (g : ℕ → Bool) (b : ℕ) → b < 128 → mark_at (marks_where g) b ≡ g b
mark_read g b h =
    split (ltb b 64)
    (λ t. rw t (word_read g 64 b (ltb-true b 64 t)))
    (λ t. let l : 64 ≤ b = ltb-false b 64 t in
    let e : 64 + (b - 64) ≡ b = omega arith in
    rw t (word_read (λ k. g (64 + k)) 64 (b - 64) (omega arith) ∙ ap g e))

-- a block is marked exactly when a location of a table or an outstanding write has its address
pub marks_read : (d : ℕ) (c : CacheState) → cache_form d c ≡ true → (b : ℕ) → b < 128 →
    mark_at c.blocks.marks b ≡ is_marked d c.tables c.outstanding.writes b
unfolding marks_of
marks_read d c f b h = rw ((cache_form_iff d c).0 f).1.marks (mark_read (is_marked d c.tables c.outstanding.writes) b h)

-- WHAT DECIDES THEM

-- which addresses the tables and the writes hold
pub marks_of_held : (d : ℕ) (ts us : Tables) (w v : Requests) → ((a : ℕ) → held_in ts w a ≡ held_in us v a) →
    marks_of d ts w ≡ marks_of d us v
unfolding marks_of
marks_of_held d ts us w v e =
    marks_same (is_marked d ts w) (is_marked d us v)
    (λ b l. marked_held d ts w b ∙ e (node_block_addr (device_of d) b) ∙ sym (marked_held d us v b))

-- a reference without a location holds none
pub unlocated_holds : (t : Table) (r : ℕ) (e : Entry) (a : ℕ) → table_form t ≡ true → r < 64 → e.located ≡ false →
    (entry_at t r).located ≡ false →
    holds_addr (with_entry t r e) a ≡ holds_addr t a
unfolding holds_addr
unlocated_holds t r e a f b new old =
    some_same (λ k. has (entry_at (with_entry t r e) k)) (λ k. has (entry_at t k)) 64
    (λ k l. ap has (entry_with_lem t r e k f b) ∙ split (eqb k r) (λ u. rw (u, new, eqb-true k r u, old)) (λ u. rw u))
  where
    has : Entry → Bool
    has x = x.located && eqb x.loc.addr a
