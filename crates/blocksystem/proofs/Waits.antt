-- NO WAIT IS FOR EVER, from the invariant: each read that the cache awaits is queued, let go is accepted under its id, and then its page-in
-- is accepted again. Assumes nothing.
use Prim.Native.Nat.{◌<◌, ℕ}
use mathlib.Core.Bool.{true}
use mathlib.Core.Path.{◌≡◌, refl}
use native.Mathlib.Omega.{arith}
use borrow.Author.Tests.{le-leb}
use Rattle.base.proofs.Tests.{and_both}
use Rattle.blockcache.proofs.Bounds.{read_reference}
use Rattle.blockcache.specs.Rows.{awaits_read}
use Rattle.blockcache.specs.declared.Call.{Call}
use Rattle.blockcache.specs.declared.VersionOp.TheVariants.{StatesInternalOp}
use Rattle.blockdisk.specs.declared.Brought.TheVariants.{Nothing}
use Rattle.blockdisk.specs.declared.DiskOp.{DiskOp}
use Rattle.blockdisk.specs.declared.DiskOp.TheVariants.{ReqReadIndirectionTableOp, ReqReadNodeOp, RespReadIndirectionTableOp}
use Rattle.blockdisk.specs.declared.DiskOp.TheVariants.{RespReadNodeOp}
use Rattle.blockdisk.specs.declared.Records.{Records}
use Rattle.sectortype.proofs.Forms.{empty_table_form, zero_node_form}
use Rattle.sectortype.specs.Form.{empty_table, zero_node}
use Rattle.blocksystem.proofs.Invariant.{Invariant}
use Rattle.blocksystem.proofs.NodeWait.{let_go_node, node_freed, node_place_lem, page_in_node}
use Rattle.blocksystem.proofs.TableWait.{let_go_table, load_place, page_in_table, table_freed}
use Rattle.blocksystem.proofs.WaitLaws.{accepts_of, node_reads_exact, table_reads_exact}
use Rattle.blocksystem.specs.Joined.{settings_of}
use Rattle.blocksystem.specs.Run.{State, accepts_step, after_step}
use Rattle.blocksystem.specs.Waits.{Asks, NoWaitForEver, loc_read, place_read, ref_read}

pub waits_end : (d : ℕ) (s : State) → Invariant d s → NoWaitForEver d s
waits_end d s v =
    record {
      node_reads = node_reads_exact d s v;
      table_reads = table_reads_exact d s v;
      node = λ id e.
          record {
            place = node_place_lem d s v id e;
            let_go = λ q o a. accepts_of d s 19 q o refl refl (let_go_node d s v id e q o a);
            freed = node_freed d s v id e;
            again = λ q o a new fresh p u b r. accepts_of d (after_step d s 19 q o) 6 p u refl refl
                (page_in_node d s v id e q o a new fresh p u b r);
          };
      table = λ id e.
          record {
            place = load_place d s v id e;
            let_go = λ q o a. accepts_of d s 19 q o refl refl (let_go_table d s v id e q o a);
            freed = table_freed d s v id e;
            again = λ q o a new fresh p u b. accepts_of d (after_step d s 19 q o) 8 p u refl refl
                (page_in_table d s v id e q o a new fresh p u b);
          };
    }

-- CALLS OF THIS KIND: with neither node nor table, the page-in under the id that was let go

abbrev pub plain : ℕ → DiskOp → Call
plain r op = record { reference = r; vop = StatesInternalOp; dop = op; node = zero_node; table = empty_table }

pub plain_asks : (r : ℕ) (op : DiskOp) → r < 64 → Asks (plain r op) op
plain_asks r op small =
    record {
      internal = refl;
      disk = refl;
      limits = and_both
          (and_both (le-leb r 63 (let b = small in omega arith)) zero_node_form) empty_table_form;
    }

module _ (d : ℕ) (s : State) (v : Invariant d s) (id : ℕ) (o u : Records) where
  pub read_again : awaits_read s.cache (RespReadNodeOp id Nothing) ≡ true →
      accepts_step d (after_step d s 19 (plain 0 (RespReadNodeOp id Nothing)) o) 6
      (plain (ref_read s id) (ReqReadNodeOp id (loc_read s id))) u ≡ true
  read_again e =
      let w = (waits_end d s v).node id e in
      let q = plain 0 (RespReadNodeOp id Nothing) in
      let a = plain_asks 0 (RespReadNodeOp id Nothing) (omega arith) in
      w.again q o a id (w.freed q o a) (plain (ref_read s id) (ReqReadNodeOp id (loc_read s id))) u
      (plain_asks (ref_read s id) (ReqReadNodeOp id (loc_read s id))
      (read_reference (settings_of d s.disk) s.cache q v.cache_form_lem)) refl

  pub load_again : awaits_read s.cache (RespReadIndirectionTableOp id Nothing) ≡ true →
      accepts_step d (after_step d s 19 (plain 0 (RespReadIndirectionTableOp id Nothing)) o) 8
      (plain 0 (ReqReadIndirectionTableOp id (place_read s))) u ≡ true
  load_again e =
      let w = (waits_end d s v).table id e in
      let q = plain 0 (RespReadIndirectionTableOp id Nothing) in
      let a = plain_asks 0 (RespReadIndirectionTableOp id Nothing) (omega arith) in
      w.again q o a id (w.freed q o a) (plain 0 (ReqReadIndirectionTableOp id (place_read s))) u
      (plain_asks 0 (ReqReadIndirectionTableOp id (place_read s)) (omega arith))
