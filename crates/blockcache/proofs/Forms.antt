-- What the cache's written form says, part by part, and what it is for a call to be in its written form. Assumes nothing.
use Prim.Native.Nat.{◌+◌, ◌<◌, ◌≤◌, ℕ}
use mathlib.Core.Bool.{Bool, ◌&&◌, ◌||◌, false, false≢true, not, true}
use mathlib.Core.Logic.{◌↔◌}
use mathlib.Core.Option.{some}
use mathlib.Core.Path.{◌∙◌, ◌≡◌, ap, fun_ext, refl, sym}
use native.Mathlib.Omega.{arith}
use borrow.Author.Tests.{eqb-true, le-leb, le-ltb, leb-true}
use lib.Dec.{eqb, leb, ltb}
use Rattle.base.proofs.Bits.{word_same, word_zero_iff}
use Rattle.base.proofs.Scan.{count_zero_at, some_of_none}
use Rattle.base.proofs.Tests.{and_both, and_iff, and_left, clash, eqb_iff, never, not_true_iff, or_true_iff, split}
use Rattle.base.specs.Maps.{empty}
use Rattle.base.specs.Scan.{some_below}
use Rattle.blockcache.proofs.MarkedBlocks.{marked_held}
use Rattle.blockcache.specs.Form.{awaited_form, blocks_form, blocks_in, cache_form, form_in, idle, is_ready, loading_phase}
use Rattle.blockcache.specs.Form.{parts_form, phase_form, places_form, read_ok, reads_form, ready_phase, write_ok, writes_form}
use Rattle.blockcache.specs.Marks.{blocks_zero, is_marked, marks_of, marks_where, no_marks, same_marks}
use Rattle.blockcache.specs.Scan.{held_in}
use Rattle.blockcache.specs.Step.{well_formed}
use Rattle.blockdisk.specs.Form.{is_rule}
use Rattle.blockcache.specs.declared.Blocks.{Blocks}
use Rattle.blockcache.specs.declared.CacheState.{CacheState}
use Rattle.blockcache.specs.declared.Call.{Call}
use Rattle.blockcache.specs.declared.Marks.{Marks}
use Rattle.blockcache.specs.declared.Settings.{Settings}
use Rattle.blockcache.specs.declared.Outstanding.{Outstanding}
use Rattle.blockcache.specs.declared.Phase.{Phase}
use Rattle.blockcache.specs.declared.Phase.TheVariants.{Loading as PhaseLoading, Ready as PhaseReady, Unready as PhaseUnready}
use Rattle.blockcache.specs.declared.Tables.{Tables}
use Rattle.blockdisk.proofs.Outstanding.{queue_iff, queue_insert, queue_remove}
use Rattle.disklayout.specs.Blocks.{node_block_addr}
use Rattle.disklayout.specs.Device.{device_of, made}
use Rattle.queue.proofs.Laws.{entry_map, none_form, none_map}
use Rattle.queue.specs.Queue.{entry_of, has_addr, has_of, insert_of, empty_requests, request_at, remove_of, requests_form, requests_map}
use Rattle.queue.specs.declared.Request.{Request}
use Rattle.queue.specs.declared.Requests.{Requests}
use Rattle.sectortype.proofs.Equal.{table_zero_is}
use Rattle.sectortype.proofs.Forms.{nodes_iff}
use Rattle.sectortype.proofs.Maps.{nodes_at, nodes_bounded}
use Rattle.sectortype.specs.Abstract.{nodes_map}
use Rattle.sectortype.specs.Form.{empty_table, loc_zero, node_form, nodes_form, present_at, slot_at, table_form}
use Rattle.sectortype.specs.Graph.{holds_addr}
use Rattle.sectortype.specs.declared.Nodes.{Nodes}

-- THE GROUPS OF THE WRITTEN FORM

pub record TablesForm (ts : Tables) : Type 0 where
  pub persistent : table_form ts.persistent ≡ true
  pub ephemeral : table_form ts.ephemeral ≡ true
  pub frozen : table_form ts.frozen ≡ true
  pub frozen_absent : (ts.isfrozen || eqb ts.frozen.count 0) ≡ true

pub record OutstandingForm (o : Outstanding) : Type 0 where
  pub writes : writes_form o.writes ≡ true
  pub reading : reads_form o.reads ≡ true

pub record PartsForm (c : CacheState) : Type 0 where
  pub tables : TablesForm c.tables
  pub places : places_form c.places ≡ true
  pub awaited : awaited_form c.awaited ≡ true
  pub outstanding : OutstandingForm c.outstanding
  pub nodes : nodes_form c.nodes ≡ true
  pub phase : phase_form c ≡ true

pub parts_form_iff : (c : CacheState) → (parts_form c ≡ true) ↔ PartsForm c
unfolding parts_form
parts_form_iff c = (
  (λ e. let h = simp and_iff at e in
      let ts = h.0.0.0.0.0 in
      record {
        tables = record { persistent = ts.0.0.0; ephemeral = ts.0.0.1; frozen = ts.0.1; frozen_absent = ts.1 };
        places = h.0.0.0.0.1;
        awaited = h.0.0.0.1;
        outstanding = record { writes = h.0.0.1.0; reading = h.0.0.1.1 };
        nodes = h.0.1;
        phase = h.1;
      }),
  (λ f. let ts = f.tables in let o = f.outstanding in
      simp and_iff (
        (
          ((((((ts.persistent, ts.ephemeral), ts.frozen), ts.frozen_absent), f.places), f.awaited), (o.writes, o.reading)),
          f.nodes,
        ),
        f.phase,
      )),
)

-- THE QUEUES

pub writes_form_iff : (q : Requests) →
    (writes_form q ≡ true) ↔ ((requests_form q ≡ true) × ((id : ℕ) (w : Request) → requests_map q id ≡ some w → write_ok w ≡ true))
unfolding writes_form
writes_form_iff q = queue_iff write_ok q

pub reads_form_iff : (q : Requests) →
    (reads_form q ≡ true) ↔ ((requests_form q ≡ true) × ((id : ℕ) (w : Request) → requests_map q id ≡ some w → read_ok w ≡ true))
unfolding reads_form
reads_form_iff q = queue_iff read_ok q

pub writes_insert_form : (q : Requests) (w : Request) → writes_form q ≡ true → q.count < 16 → has_of q w.id ≡ false → write_ok w ≡ true →
    writes_form (insert_of q w) ≡ true
unfolding writes_form
writes_insert_form q w = queue_insert write_ok q w

pub reads_insert_form : (q : Requests) (w : Request) → reads_form q ≡ true → q.count < 16 → has_of q w.id ≡ false → read_ok w ≡ true →
    reads_form (insert_of q w) ≡ true
unfolding reads_form
reads_insert_form q w = queue_insert read_ok q w

pub writes_remove_form : (q : Requests) (id : ℕ) → writes_form q ≡ true → has_of q id ≡ true → writes_form (remove_of q id) ≡ true
unfolding writes_form
writes_remove_form q id = queue_remove write_ok q id

pub reads_remove_form : (q : Requests) (id : ℕ) → reads_form q ≡ true → has_of q id ≡ true → reads_form (remove_of q id) ≡ true
unfolding reads_form
reads_remove_form q id = queue_remove read_ok q id

pub empty_writes_form : writes_form empty_requests ≡ true
unfolding writes_form
empty_writes_form = (queue_iff write_ok empty_requests).1 (none_form, λ id w m. never (sym (ap (λ f. f id) none_map) ∙ m))

pub empty_reads_form : reads_form empty_requests ≡ true
unfolding reads_form
empty_reads_form = (queue_iff read_ok empty_requests).1 (none_form, λ id w m. never (sym (ap (λ f. f id) none_map) ∙ m))

-- an awaited read is of one of the 64 references
pub read_ref_bounded : (q : Requests) (id : ℕ) → reads_form q ≡ true → has_of q id ≡ true → (entry_of q id).reference < 64
read_ref_bounded q id f h =
    let e : requests_map q id ≡ some (entry_of q id) = entry_map q id ∙ rw h in
    let k = and_left (leb (entry_of q id).reference 63) (loc_zero (entry_of q id).loc) (((reads_form_iff q).0 f).1 id (entry_of q id) e) in
    omega (arith, leb-true (entry_of q id).reference 63 k)

module _ (c : CacheState) (f : PartsForm c) where
  pub writes_requests : requests_form c.outstanding.writes ≡ true
  writes_requests = ((writes_form_iff c.outstanding.writes).0 f.outstanding.writes).0

  pub reads_requests : requests_form c.outstanding.reads ≡ true
  reads_requests = ((reads_form_iff c.outstanding.reads).0 f.outstanding.reading).0

  pub frozen_empty : c.tables.isfrozen ≡ false → c.tables.frozen.count ≡ 0
  frozen_empty e = eqb-true _ _ ((or_true_iff c.tables.isfrozen (eqb c.tables.frozen.count 0)).0 f.tables.frozen_absent e)

-- BEFORE READY

-- no table, no frozen place, nothing outstanding, nothing cached
pub record Idle (c : CacheState) : Type 0 where
  pub no_persistent : c.tables.persistent.count ≡ 0
  pub no_ephemeral : c.tables.ephemeral.count ≡ 0
  pub no_frozen : c.tables.isfrozen ≡ false
  pub no_place : c.places.isfrozen ≡ false
  pub no_writes : c.outstanding.writes.count ≡ 0
  pub no_reads : c.outstanding.reads.count ≡ 0
  pub no_nodes : c.nodes.count ≡ 0

pub idle_iff : (c : CacheState) → (idle c ≡ true) ↔ Idle c
unfolding idle
idle_iff c = (
  (λ e. let h = simp (and_iff, not_true_iff, eqb_iff) at e in
      record {
        no_persistent = h.0.0.0.0.0.0;
        no_ephemeral = h.0.0.0.0.0.1;
        no_frozen = h.0.0.0.0.1;
        no_place = h.0.0.0.1;
        no_writes = h.0.0.1;
        no_reads = h.0.1;
        no_nodes = h.1;
      }),
  (λ i. simp (and_iff, not_true_iff, eqb_iff)
      ((((((i.no_persistent, i.no_ephemeral), i.no_frozen), i.no_place), i.no_writes), i.no_reads), i.no_nodes)),
)

pub loading_idle : (c : CacheState) → phase_form c ≡ true → loading_phase c.phase ≡ true → Idle c
unfolding phase_form
loading_idle c f l = (idle_iff c).0 (go c.phase f l)
  where
    go : (p : Phase) → form_in p c ≡ true → loading_phase p ≡ true → idle c ≡ true
    go PhaseUnready f l = absurd (false≢true l)
    go PhaseLoading f l = f
    go PhaseReady f l = absurd (false≢true l)

pub ready_form : (c : CacheState) → is_ready c ≡ true → phase_form c ≡ true
unfolding phase_form
ready_form c r = go c.phase r
  where
    go : (p : Phase) → ready_phase p ≡ true → form_in p c ≡ true
    go PhaseUnready r = absurd (false≢true r)
    go PhaseLoading r = absurd (false≢true r)
    go PhaseReady r = refl

-- nothing is cached
pub no_nodes_map : (m : Nodes) → nodes_form m ≡ true → m.count ≡ 0 → nodes_map m ≡ empty
unfolding nodes_map
no_nodes_map m f z =
    fun_ext
    (λ r. split (slot_at m r).present
    (λ t. let u = (nodes_iff m).0 f in
    let b : r < 64 = nodes_bounded m f r (slot_at m r).node (nodes_at m r t) in
    clash {b = (slot_at m r).present} t (count_zero_at (present_at m.slots) 64 r (sym u.1.0 ∙ z) b))
    (λ t. rw t))

-- THE MARKS: in every phase they are those of the tables and the outstanding writes, of which there are none before Ready

pub marks_same : (g h : ℕ → Bool) → ((b : ℕ) → b < 128 → g b ≡ h b) → marks_where g ≡ marks_where h
marks_same g h e =
    let low = word_same g h 64 (λ k l. e k (omega arith)) in
    let high = word_same (λ k. g (64 + k)) (λ k. h (64 + k)) 64 (λ k l. e (64 + k) (omega arith)) in
    λ i. record { low = low i; high = high i }

empty_holds : (a : ℕ) → holds_addr empty_table a ≡ false
unfolding holds_addr some_below
empty_holds a = refl

pub none_addressed : (q : Requests) (a : ℕ) → q.count ≡ 0 → has_addr q a ≡ false
unfolding has_addr
none_addressed q a z = some_of_none (λ k. ltb k q.count && eqb (request_at q k).loc.addr a) 16 (λ k b. rw (z, le-ltb k 0 (omega arith)))

nothing_held : (c : CacheState) → PartsForm c → Idle c → (a : ℕ) → held_in c.tables c.outstanding.writes a ≡ false
unfolding held_in
nothing_held c f i a =
    let p = table_zero_is c.tables.persistent f.tables.persistent i.no_persistent in
    let e = table_zero_is c.tables.ephemeral f.tables.ephemeral i.no_ephemeral in
    rw (p, e, empty_holds a, i.no_frozen, none_addressed c.outstanding.writes a i.no_writes)

pub idle_marks : (d : ℕ) (c : CacheState) → PartsForm c → Idle c → marks_of d c.tables c.outstanding.writes ≡ no_marks
unfolding marks_of
idle_marks d c f i =
    marks_same (is_marked d c.tables c.outstanding.writes) (λ b. false)
    (λ b l. marked_held d c.tables c.outstanding.writes b ∙ nothing_held c f i (node_block_addr (device_of d) b))
    ∙ (let none = (word_zero_iff (λ b. false) 64).1 (some_of_none (λ b. false) 64 (λ k l. refl)) in
    λ i. record { low = none i; high = none i })

-- the block given last is one of the 128, and 0 outside Ready
pub record LastForm (p : Phase) (last : ℕ) : Type 0 where
  pub small : last ≤ 127
  pub zero : ready_phase p ≡ false → last ≡ 0

pub record BlocksForm (d : ℕ) (c : CacheState) : Type 0 where
  pub marks : c.blocks.marks ≡ marks_of d c.tables c.outstanding.writes
  pub last : LastForm c.phase c.blocks.last

same_marks_iff : (a b : Marks) → (same_marks a b ≡ true) ↔ (a ≡ b)
same_marks_iff a b = (
  (λ e. let h = simp (and_iff, eqb_iff) at e in λ i. record { low = h.0 i; high = h.1 i }),
  (λ e. simp (and_iff, eqb_iff) (ap (λ m. m.low) e, ap (λ m. m.high) e)),
)

pub blocks_form_iff : (d : ℕ) (c : CacheState) → PartsForm c → (blocks_form d c ≡ true) ↔ BlocksForm d c
unfolding blocks_form phase_form
blocks_form_iff d c f = go c.phase refl f.phase
  where
    -- before Ready
    zeros : is_ready c ≡ false → idle c ≡ true → (blocks_zero c.blocks ≡ true) ↔ BlocksForm d c
    zeros n i =
        let z = idle_marks d c f ((idle_iff c).0 i) in (
          (λ e. let h = simp (and_iff, eqb_iff) at e in
              let l : c.blocks.last ≡ 0 = h.1 in
              record {
                marks = (λ j. record { low = h.0.0 j; high = h.0.1 j })
                    ∙ sym z;
                last = record { small = omega arith; zero = λ r. l };
              }),
          (λ b. and_both ((same_marks_iff c.blocks.marks no_marks).1 (b.marks ∙ z)) ((eqb_iff c.blocks.last 0).1 (b.last.zero n))),
        )

    go : (p : Phase) → c.phase ≡ p → form_in p c ≡ true → (blocks_in p d c.blocks c.tables c.outstanding.writes ≡ true) ↔ BlocksForm d c
    go PhaseUnready e u = zeros (rw e) (and_left (idle c) (loc_zero c.places.persistent) (and_left _ (not c.awaited.waiting) u))
    go PhaseLoading e u = zeros (rw e) u
    go PhaseReady e u = (
      (λ k. let h = (and_iff (same_marks c.blocks.marks (marks_of d c.tables c.outstanding.writes)) (leb c.blocks.last 127)).0 k in
          record {
            marks = (same_marks_iff c.blocks.marks _).0 h.0;
            last = record
                { small = leb-true c.blocks.last 127 h.1; zero = λ n. clash (rw e) n };
          }),
      (λ b. and_both ((same_marks_iff c.blocks.marks _).1 b.marks) (le-leb c.blocks.last 127 b.last.small)),
    )

-- by phase, as the code asks
pub blocks_ready : (p : Phase) (d : ℕ) (b : Blocks) (ts : Tables) (w : Requests) → ready_phase p ≡ true →
    (same_marks b.marks (marks_of d ts w) && leb b.last 127) ≡ blocks_in p d b ts w
blocks_ready PhaseUnready d b ts w e = absurd (false≢true e)
blocks_ready PhaseLoading d b ts w e = absurd (false≢true e)
blocks_ready PhaseReady d b ts w e = refl

pub blocks_unready : (p : Phase) (d : ℕ) (b : Blocks) (ts : Tables) (w : Requests) → ready_phase p ≡ false →
    blocks_zero b ≡ blocks_in p d b ts w
blocks_unready PhaseUnready d b ts w e = refl
blocks_unready PhaseLoading d b ts w e = refl
blocks_unready PhaseReady d b ts w e = absurd (false≢true (sym e))

pub cache_form_iff : (d : ℕ) (c : CacheState) → (cache_form d c ≡ true) ↔ (PartsForm c × BlocksForm d c)
unfolding cache_form
cache_form_iff d c = (
  (λ e. let h = (and_iff (parts_form c) (blocks_form d c)).0 e in
      let f = (parts_form_iff c).0 h.0 in
      (f, (blocks_form_iff d c f).0 h.1)),
  (λ (f, b). (and_iff (parts_form c) (blocks_form d c)).1 ((parts_form_iff c).1 f, (blocks_form_iff d c f).1 b)),
)

-- A CALL

pub record CallForm (q : Call) : Type 0 where
  pub reference : q.reference < 64
  pub node : node_form q.node ≡ true
  pub table : table_form q.table ≡ true

pub record WellFormed (g : Settings) (c : CacheState) (q : Call) : Type 0 where
  pub on : made g.device ≡ true
  pub rule : is_rule g.rule ≡ true
  pub form : PartsForm c
  pub blocks : BlocksForm g.device c
  pub call : CallForm q

pub well_formed_iff : (g : Settings) (c : CacheState) (q : Call) → (well_formed g c q ≡ true) ↔ WellFormed g c q
well_formed_iff g c q = (
  (λ e. let h = simp (cache_form_iff, and_iff) at e in
      let b : q.reference ≤ 63 = leb-true q.reference 63 h.1.0.0 in
      record {
        on = h.0.0.0;
        rule = h.0.0.1;
        form = h.0.1.0;
        blocks = h.0.1.1;
        call = record
            { reference = omega arith; node = h.1.0.1; table = h.1.1 };
      }),
  (λ w. let b : q.reference < 64 = w.call.reference in
      simp (cache_form_iff, and_iff)
      (((w.on, w.rule), (w.form, w.blocks)), ((le-leb q.reference 63 (omega arith), w.call.node), w.call.table))),
)
