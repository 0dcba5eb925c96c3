-- A Loading cache that awaits the read accepts every small table, and is Ready with it: the cache alone. Assumes nothing.
use Prim.Native.Nat.{◌<◌, ℕ}
use mathlib.Core.Bool.{false≢true, true}
use mathlib.Core.Logic.{◌↔◌}
use mathlib.Core.Path.{◌≡◌, ap, refl}
use borrow.Author.Tests.{eq-eqb}
use Rattle.base.proofs.Refusals.{accepted_iff as zero_iff}
use Rattle.base.proofs.Tests.{and_both, and_iff, eqb_iff, not_iff, or_iff}
use Rattle.base.specs.Refusals.{answer}
use Rattle.blockcache.proofs.Decided.{cache_decided}
use Rattle.blockcache.proofs.FormLaws.{loading_form, received_form}
use Rattle.blockcache.proofs.Forms.{cache_form_iff, parts_form_iff}
use Rattle.blockcache.proofs.Numbers.{rows_ascending}
use Rattle.blockcache.specs.Form.{blocks_form, cache_form, idle, loading_at, loading_phase}
use Rattle.blockcache.specs.Next.{loaded, marks_renewed, waiting_for, with_awaited}
use Rattle.blockcache.specs.Step.{cache_next, cache_rows, cache_step}
use Rattle.blockcache.specs.Steps.{step_of, steps}
use Rattle.blockcache.specs.declared.CacheState.{CacheState}
use Rattle.blockcache.specs.declared.Call.{Call}
use Rattle.blockcache.specs.declared.Phase.{Phase}
use Rattle.blockcache.specs.declared.Phase.TheVariants.{Loading, Ready, Unready}
use Rattle.blockcache.specs.declared.Settings.{Settings}
use Rattle.blockdisk.specs.Form.{is_rule}
use Rattle.disklayout.specs.Device.{made}
use Rattle.disklayout.specs.declared.Location.{Location}
use Rattle.sectortype.specs.Form.{zero_node}
use Rattle.sectortype.specs.declared.Node.{Node}
use Rattle.sectortype.specs.declared.Table.{Table}
use Rattle.smalltable.proofs.Complete.{small_complete, small_distinct}
use Rattle.smalltable.proofs.Numbering.{number_small}
use Rattle.smalltable.specs.Loading.{Awaits, brings, ready_with}
use Rattle.smalltable.specs.Numbers.{small_tables}
use Rattle.smalltable.specs.SmallTable.{SmallTable}
use Rattle.smalltable.specs.Tables.{numbered_table}

-- the test passes for Loading alone
pub is_loading : (p : Phase) → loading_phase p ≡ true → p ≡ Loading
is_loading Unready e = absurd (false≢true e)
is_loading Loading e = refl
is_loading Ready e = absurd (false≢true e)

module _ (g : Settings) (c : CacheState) (i r : ℕ) (n : Node) (t : Table) (m : SmallTable g.device t) where
  abbrev q : Call
  q = brings i r n t

  -- step 9 accepts a small table exactly where the cache awaits it
  pub accepted_iff : (answer (cache_rows g c 9 q) ≡ 0) ↔ Awaits g c i r n
  unfolding step_of steps
  accepted_iff =
      let a = zero_iff (cache_rows g c 9 q) (rows_ascending g c 9 q) in (
        (λ e. let k = simp (not_iff, and_iff, or_iff, eqb_iff) at (a.0 e) in
            let f = k.0.0 in
            let w = k.1.1.1.1.0 in
            record {
              settings = and_both f.0.0.0 f.0.0.1;
              cache = f.0.1;
              loading = is_loading c.phase k.1.1.1.0;
              waiting = w.0;
              id = w.1;
              reference = f.1.0.0;
              node = f.1.0.1;
            }),
        (λ w. let on = ((and_iff (made g.device) (is_rule g.rule)).0 w.settings).0 in
            a.1 (
              rw (w.settings, w.cache, w.reference, w.node, m.form),
              (
                refl,
                (
                  refl,
                  (
                    rw w.loading,
                    (
                      rw (w.waiting, eq-eqb _ _ w.id),
                      (rw (small_complete g.device on t m, small_distinct g.device on t m), tt),
                    ),
                  ),
                ),
              ),
            )),
      )

-- WHAT IT LEAVES

-- a Loading cache that awaits id i: all but its place and this is zeros
abbrev pub awaiting : Location → ℕ → CacheState
awaiting l i = with_awaited (loading_at Loading l) (waiting_for i)

pub awaiting_form : (d : ℕ) (l : Location) (i : ℕ) → cache_form d (awaiting l i) ≡ true
unfolding cache_form blocks_form idle
awaiting_form d l i =
    let p = received_form l in
    and_both
    ((parts_form_iff (awaiting l i)).1
    (record {
      tables = p.tables;
      places = p.places;
      awaited = refl;
      outstanding = p.outstanding;
      nodes = p.nodes;
      phase = loading_form (awaiting l i) refl refl;
    }))
    refl

module _ (g : Settings) (c : CacheState) (i r : ℕ) (n : Node) (w : Awaits g c i r n) where
  abbrev at : Location
  at = c.places.persistent

  pub awaiting_is : c ≡ awaiting at i
  awaiting_is =
      cache_decided g.device c (awaiting at i) w.cache (awaiting_form g.device at i) (rw (w.loading, w.waiting, w.id))
      (((cache_form_iff g.device c).0 w.cache).1.last.zero (rw w.loading))

  pub loaded_is : (t : Table) → cache_next g.device c 9 (brings i r n t) ≡ ready_with g.device at t
  unfolding step_of steps
  loaded_is t = ap (λ x. marks_renewed g.device (loaded x t)) awaiting_is

  pub small_loads : (t : Table) → SmallTable g.device t →
      cache_step g c 9 (brings i r n t) ≡ record { answer = 0; node = zero_node; cache = ready_with g.device at t }
  unfolding cache_step
  small_loads t m = rw ((accepted_iff g c i r n t m).1 w) (ap (λ x. record { answer = 0; node = zero_node; cache = x }) (loaded_is t))

  -- so it accepts the table of every number, on every device and under either rule
  pub every_small_loads : (k : ℕ) → k < small_tables →
      cache_step g c 9 (brings i r n (numbered_table g.device k))
      ≡ record { answer = 0; node = zero_node; cache = ready_with g.device at (numbered_table g.device k) }
  every_small_loads k h =
      let on = ((and_iff (made g.device) (is_rule g.rule)).0 w.settings).0 in
      small_loads (numbered_table g.device k) (number_small g.device on k h)
