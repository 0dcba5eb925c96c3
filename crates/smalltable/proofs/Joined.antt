-- And with the disk: the joined step 9, where exactly the small table is stored at the place that was asked for. Assumes nothing.
use Prim.Native.Nat.{◌<◌, ℕ}
use mathlib.Core.Bool.{true}
use mathlib.Core.Logic.{◌↔◌}
use mathlib.Core.Option.{some}
use mathlib.Core.Path.{◌∙◌, ◌≡◌, ap, refl, sym}
use Rattle.base.proofs.Tests.{and_iff, not_iff}
use Rattle.base.specs.Maps.{is_some}
use Rattle.base.specs.Refusals.{answer}
use Rattle.blockcache.specs.declared.CacheState.{CacheState}
use Rattle.blockdisk.proofs.Accepting.{answer_ok_iff, disk_accepted_iff}
use Rattle.blockdisk.proofs.Forms.{disk_form_iff}
use Rattle.blockdisk.proofs.Outstanding.{places_at, places_has}
use Rattle.blockdisk.proofs.Reading.{table_is_iff}
use Rattle.blockdisk.specs.Form.{is_rule}
use Rattle.blockdisk.specs.Ops.{disk_rows, table_not_stored}
use Rattle.blockdisk.specs.declared.Brought.TheVariants.{Something}
use Rattle.blockdisk.specs.declared.DiskState.{DiskState}
use Rattle.blockdisk.specs.declared.Records.{Records}
use Rattle.blocksystem.proofs.Accepting.{disk_answer, disk_next, joined_cache, joined_disk, joined_node, joined_zero}
use Rattle.blocksystem.specs.Joined.{disk_call, joined, joined_answer, settings_of}
use Rattle.disklayout.specs.Device.{made}
use Rattle.disklayout.specs.declared.Location.{Location}
use Rattle.queue.specs.Queue.{entry_of, has_of}
use Rattle.queue.specs.declared.Requests.{Requests}
use Rattle.sectortype.specs.Form.{node_form, zero_node}
use Rattle.sectortype.specs.declared.Node.{Node}
use Rattle.sectortype.specs.declared.Table.{Table}
use Rattle.smalltable.proofs.Loading.{accepted_iff, loaded_is, small_loads}
use Rattle.smalltable.proofs.Numbering.{number_small}
use Rattle.smalltable.specs.Loading.{Awaits, StoredUnder, answered_under, brings, ready_with}
use Rattle.smalltable.specs.Numbers.{small_tables}
use Rattle.smalltable.specs.SmallTable.{SmallTable}
use Rattle.smalltable.specs.Tables.{numbered_table}

module _ (d : ℕ) (s : DiskState) (i r : ℕ) (n : Node) (t : Table) (m : SmallTable d t) where
  abbrev reading : Requests
  reading = s.queues.tablereads

  abbrev asked : Location
  asked = (entry_of reading i).loc

  -- the disk accepts the answer exactly where the node is in its form and the table is stored
  disk_iff : (answer (disk_rows d s (disk_call 9 (brings i r n t))) ≡ 0) ↔ ((node_form n ≡ true) × StoredUnder d s i t)
  unfolding table_not_stored
  disk_iff =
      let a = disk_accepted_iff d s (disk_call 9 (brings i r n t)) in
      let b = answer_ok_iff reading i (table_not_stored d s i Something t) in (
        (λ e. let k = a.0 e in
            let h = b.0 k.rows in
            let x = (table_is_iff d s.records k.disk.on k.disk.form asked t m.form).0 ((not_iff _).0 h.right) in
            let u : StoredUnder d s i t =
            record { form = (disk_form_iff d s).1 k.disk; place = asked; queued = places_at reading i h.there; stored = x } in
            (k.node, u)),
        (λ (f, u). let g = (disk_form_iff d s).0 u.form in
            let there : has_of reading i ≡ true = sym (places_has reading i) ∙ ap is_some u.queued in
            let e : some asked ≡ some u.place = sym (places_at reading i there) ∙ u.queued in
            let same : asked ≡ u.place = cc in
            let x = (table_is_iff d s.records g.on g.form asked t m.form).1 (rw same u.stored) in
            a.1 (record { disk = g; node = f; table = m.form; rows = b.1 (record { there = there; right = (not_iff _).1 x }) })),
      )

module _ (d : ℕ) (c : CacheState) (s : DiskState) (i r : ℕ) (n : Node) (o : Records) where
  module _ (t : Table) (m : SmallTable d t) where
    -- the joined step 9 accepts a small table exactly where the cache awaits it and the disk has it stored
    pub joined_iff : (joined_answer d 9 (brings i r n t) o c s ≡ 0) ↔ (Awaits (settings_of d s) c i r n × StoredUnder d s i t)
    unfolding answer
    joined_iff =
        let j = joined_zero d 9 (brings i r n t) o c s in
        let a = disk_answer d 9 (brings i r n t) o s refl in (
          (λ e. let h = j.0 e in ((accepted_iff (settings_of d s) c i r n t m).0 h.0, ((disk_iff d s i r n t m).0 (sym a ∙ h.1)).1)),
          (λ (w, u). j.1 ((accepted_iff (settings_of d s) c i r n t m).1 w, a ∙ (disk_iff d s i r n t m).1 (w.node, u), refl)),
        )

    module _ (w : Awaits (settings_of d s) c i r n) (u : StoredUnder d s i t) where
      accepted : joined_answer d 9 (brings i r n t) o c s ≡ 0
      accepted = joined_iff.1 (w, u)

      pub small_loads_joined : joined d 9 (brings i r n t) o c s
          ≡ record { answer = 0; node = zero_node; cache = ready_with d c.places.persistent t; disk = answered_under s i }
      unfolding joined
      small_loads_joined =
          let q = brings i r n t in
          let right = (disk_iff d s i r n t m).1 (w.node, u) in
          let node = joined_node d 9 q o c s accepted ∙ ap (λ x. x.node) (small_loads (settings_of d s) c i r n w t m) in
          let cache = joined_cache d 9 q o c s accepted ∙ loaded_is (settings_of d s) c i r n w t in
          let disk = joined_disk d 9 q o c s accepted ∙ disk_next d 9 q o s refl right in
          λ j. record { answer = accepted j; node = node j; cache = cache j; disk = disk j }

  -- so it accepts the table of every number, on every device and under either rule
  pub every_small_loads_joined : (k : ℕ) → k < small_tables → Awaits (settings_of d s) c i r n → StoredUnder d s i (numbered_table d k) →
      joined d 9 (brings i r n (numbered_table d k)) o c s
      ≡ record {
        answer = 0;
        node = zero_node;
        cache = ready_with d c.places.persistent (numbered_table d k);
        disk = answered_under s i;
      }
  every_small_loads_joined k h w u =
      let on = ((and_iff (made d) (is_rule s.rule)).0 w.settings).0 in
      small_loads_joined (numbered_table d k) (number_small d on k h) w u
