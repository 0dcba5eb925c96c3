-- One meaning, one written form: on a device, a cache in its written form is decided by its upstream variables and the block given last. Tables and
-- cached nodes by the laws of `sectortype`, queues by `queue`'s; what a phase doesn't have is zeros; the marks by tables and writes. Assumes nothing.
use Prim.Native.Nat.{ℕ}
use mathlib.Core.Bool.{◌&&◌, false, not, true}
use mathlib.Core.Option.{Option, none}
use mathlib.Core.Path.{◌∙◌, ◌≡◌, ap, refl, sym}
use native.Mathlib.Omega.{arith}
use borrow.Author.Tests.{eqb-true}
use lib.Dec.{eqb, leb}
use Rattle.base.proofs.Flagged.{flagged_ext, flagged_none_iff}
use Rattle.base.proofs.Tests.{and_iff, and_right, not_true_iff, or_true_iff}
use Rattle.base.specs.Maps.{empty}
use Rattle.blockcache.proofs.Forms.{BlocksForm, Idle, PartsForm, cache_form_iff, frozen_empty, idle_iff, no_nodes_map, reads_form_iff}
use Rattle.blockcache.proofs.Forms.{reads_requests, writes_form_iff, writes_requests}
use Rattle.blockcache.proofs.InvLaws.{ready_ext}
use Rattle.blockcache.proofs.Waiting.{reads_empty_iff, writes_empty_iff}
use Rattle.blockcache.specs.Abstract.{awaited_id, cache_vars, reads_map, ready_vars, vars_in, write_of, writes_map}
use Rattle.blockcache.specs.Form.{cache_form, form_in, idle, phase_form, read_ok, reads_form, write_ok, writes_form}
use Rattle.blockcache.specs.Marks.{marks_of}
use Rattle.blockcache.specs.Upstream.{OutstandingWrite, Ready}
use Rattle.blockcache.specs.declared.CacheState.{CacheState}
use Rattle.blockcache.specs.declared.Phase.{Phase}
use Rattle.blockcache.specs.declared.Phase.TheVariants.{Loading as PhaseLoading, Ready as PhaseReady, Unready as PhaseUnready}
use Rattle.disklayout.specs.Calls.{zero_loc}
use Rattle.disklayout.specs.declared.Location.{Location}
use Rattle.queue.proofs.Decided.{mapped_decided, request_ext}
use Rattle.queue.specs.declared.Request.{Request}
use Rattle.queue.specs.declared.Requests.{Requests}
use Rattle.sectortype.proofs.Equal.{loc_zero_is, nodes_ext, table_abstract, table_zero_is}
use Rattle.sectortype.specs.Abstract.{indirection_table}
use Rattle.sectortype.specs.Form.{empty_table, loc_zero}

-- THE QUEUES

writes_decided : (q p : Requests) → writes_form q ≡ true → writes_form p ≡ true → writes_map q ≡ writes_map p → q ≡ p
unfolding writes_map
writes_decided q p f g =
    mapped_decided write_of write_ok
    (λ v w a b i e. request_ext i (ap (λ (x : OutstandingWrite). x.ref) e) (ap (λ (x : OutstandingWrite). x.loc) e)) q p
    ((writes_form_iff q).0 f) ((writes_form_iff p).0 g)

-- a read keeps its place zero
reads_decided : (q p : Requests) → reads_form q ≡ true → reads_form p ≡ true → reads_map q ≡ reads_map p → q ≡ p
unfolding reads_map
reads_decided q p f g =
    mapped_decided (λ w. w.reference) read_ok (λ v w a b i e. request_ext i e (nowhere v a ∙ sym (nowhere w b))) q p
    ((reads_form_iff q).0 f) ((reads_form_iff p).0 g)
  where
    nowhere : (w : Request) → read_ok w ≡ true → w.loc ≡ zero_loc
    nowhere w h = loc_zero_is w.loc (and_right (leb w.reference 63) (loc_zero w.loc) h)

-- THE PARTS OF A CACHE

module _ (c e : CacheState) (f : PartsForm c) (g : PartsForm e) (phase : c.phase ≡ e.phase) (same : ready_vars c ≡ ready_vars e)
    (d : ℕ) (fb : BlocksForm d c) (gb : BlocksForm d e) (last : c.blocks.last ≡ e.blocks.last) where
  -- a frozen table, a frozen place and an awaited id that are absent are zeros
  no_table : (s : CacheState) (h : PartsForm s) → s.tables.isfrozen ≡ false →
      indirection_table s.tables.frozen ≡ indirection_table empty_table
  no_table s h t = ap indirection_table (table_zero_is s.tables.frozen h.tables.frozen (frozen_empty s h t))

  no_place : (s : CacheState) (h : PartsForm s) → s.places.isfrozen ≡ false → s.places.frozen ≡ zero_loc
  no_place s h t = loc_zero_is s.places.frozen ((or_true_iff s.places.isfrozen (loc_zero s.places.frozen)).0 h.places t)

  no_id : (s : CacheState) (h : PartsForm s) → s.awaited.waiting ≡ false → s.awaited.id ≡ 0
  no_id s h t = eqb-true _ _ ((or_true_iff s.awaited.waiting (eqb s.awaited.id 0)).0 h.awaited t)

  parts_decided : c ≡ e
  parts_decided =
      let p = (table_abstract c.tables.persistent e.tables.persistent f.tables.persistent g.tables.persistent).0
      (ap (λ x. x.persistent_indirection_table) same) in
      let t = (table_abstract c.tables.ephemeral e.tables.ephemeral f.tables.ephemeral g.tables.ephemeral).0
      (ap (λ x. x.ephemeral_indirection_table) same) in
      let z = flagged_ext _ _ _ _ (indirection_table empty_table) (no_table c f) (no_table e g)
      (ap (λ x. x.frozen_indirection_table) same) in
      let zt = (table_abstract c.tables.frozen e.tables.frozen f.tables.frozen g.tables.frozen).0 z.1 in
      let l = ap (λ x. x.persistent_indirection_table_loc) same in
      let y = flagged_ext _ _ _ _ zero_loc (no_place c f) (no_place e g) (ap (λ x. x.frozen_indirection_table_loc) same) in
      let a = flagged_ext _ _ _ _ 0 (no_id c f) (no_id e g) (ap (λ x. x.outstanding_indirection_table_write) same) in
      let w = writes_decided c.outstanding.writes e.outstanding.writes f.outstanding.writes g.outstanding.writes
      (ap (λ x. x.outstanding_block_writes) same) in
      let r = reads_decided c.outstanding.reads e.outstanding.reads f.outstanding.reading g.outstanding.reading
      (ap (λ x. x.outstanding_block_reads) same) in
      let n = nodes_ext c.nodes e.nodes f.nodes g.nodes (ap (λ x. x.cache) same) in
      let marks : c.blocks.marks ≡ e.blocks.marks =
      fb.marks ∙ (λ i. marks_of d (record { persistent = p i; ephemeral = t i; isfrozen = z.0 i; frozen = zt i }) (w i)) ∙ sym gb.marks in
      let b : c.blocks ≡ e.blocks = λ i. record { marks = marks i; last = last i } in
      λ i. record {
        phase = phase i;
        tables = record { persistent = p i; ephemeral = t i; isfrozen = z.0 i; frozen = zt i };
        places = record { persistent = l i; isfrozen = y.0 i; frozen = y.1 i };
        awaited = record { waiting = a.0 i; id = a.1 i };
        outstanding = record { writes = w i; reads = r i };
        nodes = n i;
        blocks = b i;
      }

-- BEFORE READY: all but the place and the awaited id is empty

abbrev idle_vars : Location → Option ℕ → Ready
idle_vars l a =
    record {
      persistent_indirection_table = indirection_table empty_table;
      frozen_indirection_table = none;
      ephemeral_indirection_table = indirection_table empty_table;
      persistent_indirection_table_loc = l;
      frozen_indirection_table_loc = none;
      outstanding_indirection_table_write = a;
      outstanding_block_writes = empty;
      outstanding_block_reads = empty;
      cache = empty;
    }

idle_vars_lem : (c : CacheState) → PartsForm c → Idle c → ready_vars c ≡ idle_vars c.places.persistent (awaited_id c.awaited)
idle_vars_lem c f i =
    ready_ext (ap indirection_table (table_zero_is c.tables.persistent f.tables.persistent i.no_persistent))
    ((flagged_none_iff c.tables.isfrozen (indirection_table c.tables.frozen)).0 i.no_frozen)
    (ap indirection_table (table_zero_is c.tables.ephemeral f.tables.ephemeral i.no_ephemeral)) refl
    ((flagged_none_iff c.places.isfrozen c.places.frozen).0 i.no_place) refl
    ((writes_empty_iff c.outstanding.writes (writes_requests c f)).0 i.no_writes)
    ((reads_empty_iff c.outstanding.reads (reads_requests c f)).0 i.no_reads)
    (no_nodes_map c.nodes f.nodes i.no_nodes)

-- Unready: no place, nothing awaited
unready_vars : (c : CacheState) → PartsForm c → form_in PhaseUnready c ≡ true → ready_vars c ≡ idle_vars zero_loc none
unready_vars c f u =
    let h = (and_iff (idle c && loc_zero c.places.persistent) (not c.awaited.waiting)).0 u in
    let k = (and_iff (idle c) (loc_zero c.places.persistent)).0 h.0 in
    let l = loc_zero_is c.places.persistent k.1 in
    let a = (flagged_none_iff c.awaited.waiting c.awaited.id).0 ((not_true_iff c.awaited.waiting).0 h.1) in
    idle_vars_lem c f ((idle_iff c).0 k.0) ∙ (λ i. idle_vars (l i) (a i))

module _ (c e : CacheState) (f : PartsForm c) (g : PartsForm e) where
  by_phase : (p k : Phase) → form_in p c ≡ true → form_in k e ≡ true → vars_in p c ≡ vars_in k e → (p ≡ k) × (ready_vars c ≡ ready_vars e)
  by_phase PhaseUnready PhaseUnready u v s = (refl, unready_vars c f u ∙ sym (unready_vars e g v))
  by_phase PhaseLoading PhaseLoading u v s =
      let l : c.places.persistent ≡ e.places.persistent = cc in
      let a : awaited_id c.awaited ≡ awaited_id e.awaited = cc in
      (refl, idle_vars_lem c f ((idle_iff c).0 u) ∙ (λ i. idle_vars (l i) (a i)) ∙ sym (idle_vars_lem e g ((idle_iff e).0 v)))
  by_phase PhaseReady PhaseReady u v s = (refl, cc)
  by_phase PhaseUnready PhaseLoading u v s = absurd (let z : ◌≡◌ {A = ℕ} 0 1 = cc in omega arith)
  by_phase PhaseUnready PhaseReady u v s = absurd (let z : ◌≡◌ {A = ℕ} 0 1 = cc in omega arith)
  by_phase PhaseLoading PhaseUnready u v s = absurd (let z : ◌≡◌ {A = ℕ} 0 1 = cc in omega arith)
  by_phase PhaseLoading PhaseReady u v s = absurd (let z : ◌≡◌ {A = ℕ} 0 1 = cc in omega arith)
  by_phase PhaseReady PhaseUnready u v s = absurd (let z : ◌≡◌ {A = ℕ} 0 1 = cc in omega arith)
  by_phase PhaseReady PhaseLoading u v s = absurd (let z : ◌≡◌ {A = ℕ} 0 1 = cc in omega arith)

pub cache_decided : (d : ℕ) (c e : CacheState) → cache_form d c ≡ true → cache_form d e ≡ true → cache_vars c ≡ cache_vars e →
    c.blocks.last ≡ e.blocks.last → c ≡ e
unfolding phase_form
cache_decided d c e f g s last =
    let (x, a) = (cache_form_iff d c).0 f in
    let (y, b) = (cache_form_iff d e).0 g in
    let h = by_phase c e x y c.phase e.phase x.phase y.phase s in
    parts_decided c e x y h.0 h.1 d a b last
