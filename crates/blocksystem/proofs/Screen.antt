-- THE SCREEN, from the invariant: no accepted read differs from the working picture, and in Ready each allocated reference is cached, or stored at its ephemeral
-- location, with the picture's node. Assumes nothing.
use Prim.Native.Nat.{ℕ}
use mathlib.Core.Bool.{false, true}
use mathlib.Core.List.{List}
use mathlib.Core.Logic.{inl, inr, ⊎_elim}
use mathlib.Core.Path.{◌≡◌, ap, refl, subst}
use Rattle.base.proofs.Maps.{some_of}
use Rattle.base.specs.Maps.{is_some}
use Rattle.blockcache.proofs.OpKinds.{ready_is}
use Rattle.blockcache.specs.Abstract.{ready_vars}
use Rattle.blockcache.specs.Form.{is_ready}
use Rattle.blockcache.specs.UpstreamInv.{Inv, InvReady}
use Rattle.blockcache.specs.declared.Call.{Call}
use Rattle.blockdisk.specs.Upstream.{disk_vars}
use Rattle.blockdisk.specs.declared.Records.{Records}
use Rattle.sectortype.specs.Abstract.{locs_of}
use Rattle.blocksystem.proofs.Invariant.{InPhase, Invariant, ReadyOk, picture_maps}
use Rattle.blocksystem.proofs.Keep.{run_every}
use Rattle.blocksystem.proofs.ScreenReads.{CallSame, HandsOutPictured, each_same, not_counted, read_cached}
use Rattle.blocksystem.proofs.ScreenReady.{ready_shown_iff}
use Rattle.blocksystem.specs.Run.{JoinedCall, State, asked, starts_named}
use Rattle.blocksystem.specs.Screen.{ReadyShown, differs, reads_differing}

module _ (d : ℕ) (s : State) (v : Invariant d s) where
  -- what the invariant says of a Ready cache
  in_ready : is_ready s.cache ≡ true → InvReady d (ready_vars s.cache)
      × ReadyOk (ready_vars s.cache) (disk_vars d s.disk) (picture_maps s.pictures)
  in_ready t =
      let e = ready_is s.cache t in
      (subst (Inv d) e v.whole.inv, subst (λ m. InPhase m (disk_vars d s.disk) (picture_maps s.pictures)) e v.whole.phase)

  -- an accepted read hands out the working picture's node
  pub read_pictured : (q : Call) (o : Records) → (asked d s 17 q o).answer ≡ 0 → HandsOutPictured d s q o
  read_pictured q o e =
      let r = read_cached d s q o e in
      let w = (in_ready r.0).1.working in
      let n = (asked d s 17 q o).node in
      record { node = n; pictured = w.cached q.reference n r.1.allocated r.1.cached; high = refl; low = refl; list = refl }

  call_same : (k : JoinedCall) → differs d s k ≡ false
  call_same k = not_counted d s k v.pictures_form (λ q o e. read_pictured q o)

  -- the working picture has exactly the allocated references; each is cached, or stored on the disk at its ephemeral location; the cache, if it has it, and
  -- that location, if it has one, have the picture's node
  pub ready_shown : is_ready s.cache ≡ true → ReadyShown d s
  ready_shown t =
      let (inv, ok) = in_ready t in
      let on_disk_lem = ok.working.pictured.located in
      (ready_shown_iff d s v.cache_form_lem v.disk_form_lem v.pictures_form.working).1
      (record {
        keys = ok.working.pictured.refs;
        shown = λ ref a.
            record {
              found = ⊎_elim inl (λ at. let l = some_of (locs_of s.cache.tables.ephemeral) ref at in
                  inr (rw l.1 (ap is_some (on_disk_lem ref l.0 l.1).stored)))
                  (inv.ephemeral.consistent ref a);
              in_cache = λ n. ok.working.cached ref n a;
              on_disk_lem = on_disk_lem ref;
            };
      })

-- along a list
pub none_differ : (d : ℕ) (calls : List JoinedCall) (s : State) → Invariant d s → starts_named d s calls ≡ true →
    reads_differing d s calls ≡ 0
none_differ d calls s v n = (each_same d calls s).1 (run_every d (CallSame d) (λ s k v. call_same d s v k) calls s v n)
