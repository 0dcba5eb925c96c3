-- The written form of a cache after one of its groups is set. Assumes nothing.
use Prim.Native.Nat.{◌<◌, ℕ}
use mathlib.Core.Bool.{false, false≢true, true}
use mathlib.Core.Path.{◌∙◌, ◌≡◌, refl, sym}
use Rattle.base.proofs.Scan.{count_zero_at}
use Rattle.blockcache.proofs.Forms.{PartsForm, empty_reads_form, empty_writes_form, OutstandingForm, ready_form, TablesForm}
use Rattle.blockcache.specs.Form.{awaited_form, empty_cache, form_in, idle, is_ready, loading_at, loading_phase, phase_form, places_form}
use Rattle.blockcache.specs.Form.{reads_form, writes_form}
use Rattle.blockcache.specs.Next.{assigned, cached_slot, unlocated, with_awaited, with_ephemeral, with_nodes, with_outstanding, with_places}
use Rattle.blockcache.specs.Next.{with_reads, with_tables, with_writes}
use Rattle.blockcache.specs.declared.Awaited.{Awaited}
use Rattle.blockcache.specs.declared.CacheState.{CacheState}
use Rattle.blockcache.specs.declared.Outstanding.{Outstanding}
use Rattle.blockcache.specs.declared.Phase.{Phase}
use Rattle.blockcache.specs.declared.Phase.TheVariants.{Loading as PhaseLoading, Ready as PhaseReady, Unready as PhaseUnready}
use Rattle.blockcache.specs.declared.Places.{Places}
use Rattle.blockcache.specs.declared.Tables.{Tables}
use Rattle.disklayout.specs.Calls.{zero_loc}
use Rattle.disklayout.specs.declared.Location.{Location}
use Rattle.queue.specs.declared.Requests.{Requests}
use Rattle.sectortype.proofs.Forms.{empty_nodes_form, empty_table_form, table_iff}
use Rattle.sectortype.specs.Form.{allocated_at, entry_at, entry_form, node_form, nodes_form, slot_form, table_form}
use Rattle.sectortype.specs.declared.Node.{Node}
use Rattle.sectortype.specs.declared.Nodes.{Nodes}
use Rattle.sectortype.specs.declared.Table.{Table}

-- A PLACE SET

pub unlocated_form : (n : Node) → node_form n ≡ true → entry_form (unlocated n.succs) ≡ true
unlocated_form n g = rw g

pub cached_slot_form : (n : Node) → node_form n ≡ true → slot_form (cached_slot n) ≡ true
cached_slot_form n g = rw g

-- where nothing is allocated no location is given
pub assigned_absent : (t : Table) (r : ℕ) (l : Location) → table_form t ≡ true → r < 64 → t.count ≡ 0 → assigned t r l ≡ t
unfolding assigned
assigned_absent t r l f b z =
    let a : (entry_at t r).allocated ≡ false = count_zero_at (allocated_at t.entries) 64 r (sym ((table_iff t).0 f).1.0 ∙ z) b in rw a

-- BEFORE READY

pub loading_form : (c : CacheState) → loading_phase c.phase ≡ true → idle c ≡ true → phase_form c ≡ true
unfolding phase_form
loading_form c l i = go c.phase l
  where
    go : (p : Phase) → loading_phase p ≡ true → form_in p c ≡ true
    go PhaseUnready l = absurd (false≢true l)
    go PhaseLoading l = i
    go PhaseReady l = absurd (false≢true l)

-- a cache before Ready, with a place at the most
loading_at_form : (p : Phase) (l : Location) → phase_form (loading_at p l) ≡ true → PartsForm (loading_at p l)
loading_at_form p l e =
    record {
      tables = record { persistent = empty_table_form; ephemeral = empty_table_form; frozen = empty_table_form; frozen_absent = refl };
      places = refl;
      awaited = refl;
      outstanding = record { writes = empty_writes_form; reading = empty_reads_form };
      nodes = empty_nodes_form;
      phase = e;
    }

pub empty_cache_form : PartsForm empty_cache
unfolding phase_form idle
empty_cache_form = loading_at_form PhaseUnready zero_loc refl

pub received_form : (l : Location) → PartsForm (loading_at PhaseLoading l)
unfolding phase_form idle
received_form l = loading_at_form PhaseLoading l refl

-- A GROUP SET, IN READY: what the other groups say stays

module _ (c : CacheState) (f : PartsForm c) (ok : is_ready c ≡ true) where
  pub with_tables_form : (ts : Tables) → TablesForm ts → PartsForm (with_tables c ts)
  with_tables_form ts h =
      record {
        tables = h;
        places = f.places;
        awaited = f.awaited;
        outstanding = f.outstanding;
        nodes = f.nodes;
        phase = ready_form
            (with_tables c ts) ok;
      }

  pub with_places_form : (ps : Places) → places_form ps ≡ true → PartsForm (with_places c ps)
  with_places_form ps h =
      record {
        tables = f.tables;
        places = h;
        awaited = f.awaited;
        outstanding = f.outstanding;
        nodes = f.nodes;
        phase = ready_form
            (with_places c ps) ok;
      }

  pub with_awaited_form : (a : Awaited) → awaited_form a ≡ true → PartsForm (with_awaited c a)
  with_awaited_form a h =
      record {
        tables = f.tables;
        places = f.places;
        awaited = h;
        outstanding = f.outstanding;
        nodes = f.nodes;
        phase = ready_form
            (with_awaited c a) ok;
      }

  pub with_outstanding_form : (o : Outstanding) → OutstandingForm o → PartsForm (with_outstanding c o)
  with_outstanding_form o h =
      record {
        tables = f.tables;
        places = f.places;
        awaited = f.awaited;
        outstanding = h;
        nodes = f.nodes;
        phase = ready_form
            (with_outstanding c o) ok;
      }

  pub with_nodes_form : (m : Nodes) → nodes_form m ≡ true → PartsForm (with_nodes c m)
  with_nodes_form m h =
      record {
        tables = f.tables;
        places = f.places;
        awaited = f.awaited;
        outstanding = f.outstanding;
        nodes = h;
        phase = ready_form
            (with_nodes c m) ok;
      }

  pub with_ephemeral_form : (t : Table) → table_form t ≡ true → PartsForm (with_ephemeral c t)
  with_ephemeral_form t h =
      let ts = f.tables in
      with_tables_form (record { persistent = c.tables.persistent; ephemeral = t; isfrozen = c.tables.isfrozen; frozen = c.tables.frozen })
      (record { persistent = ts.persistent; ephemeral = h; frozen = ts.frozen; frozen_absent = ts.frozen_absent })

  pub with_writes_form : (w : Requests) → writes_form w ≡ true → PartsForm (with_writes c w)
  with_writes_form w h =
      with_outstanding_form (record { writes = w; reads = c.outstanding.reads }) (record { writes = h; reading = f.outstanding.reading })

  pub with_reads_form : (r : Requests) → reads_form r ≡ true → PartsForm (with_reads c r)
  with_reads_form r h =
      with_outstanding_form (record { writes = c.outstanding.writes; reads = r }) (record { writes = f.outstanding.writes; reading = h })
