-- Document 02's step 19 in upstream's manner: upstream has no such step. It ends the wait for the read whose answer D is, whatever D brings.
use Rattle.std.specs.Prelude.{ℕ, cond, ◌⊎◌, ◌≡◌}
use Rattle.std.proofs.Math.Option.{Option, none, some}
use Rattle.base.specs.Maps.{del}
use Rattle.blockcache.specs.NextStep.{NextStep, OnBoth, OnLoading, OnReady, OnRespReadIndirectionTable, OnRespReadNode}
use Rattle.blockcache.specs.Steps.{Step, is_new, number_of}
use Rattle.blockcache.specs.Upstream.{In, Ready, Variables, loading_indirection_table, set_reads}
use Rattle.blockcache.specs.declared.VersionOp.{VersionOp}
use Rattle.blockcache.specs.declared.VersionOp.TheVariants.{StatesInternalOp}
use Rattle.blockdisk.specs.Upstream.{Dop}
use Rattle.disklayout.specs.declared.Location.{Location}
use Rattle.sectortype.specs.declared.Node.{Node}

-- A READ ANSWER THAT THE CACHE AWAITS: which NoOp no longer takes

abbrev pub AwaitsNodeRead : Variables → ℕ → Type 0
AwaitsNodeRead s id = OnReady s (λ x. In id x.outstanding_block_reads)

abbrev pub AwaitsTableRead : Variables → ℕ → Type 0
AwaitsTableRead s id = OnLoading s (λ at read. read ≡ some id)

abbrev pub AwaitsRead : Variables → Dop → Type 0
AwaitsRead s dop = OnRespReadNode dop (λ id n. AwaitsNodeRead s id) ⊎ OnRespReadIndirectionTable dop (λ id t. AwaitsTableRead s id)

-- THE STEP

pub record LetNodeGo (s s' : Ready) (id : ℕ) : Type 0 where
  pub awaited : In id s.outstanding_block_reads
  pub next : s' ≡ set_reads s (del s.outstanding_block_reads id)

pub record LetTableGo (at : Location) (read : Option ℕ) (s' : Variables) (id : ℕ) : Type 0 where
  pub awaited : read ≡ some id
  pub next : s' ≡ loading_indirection_table at none

pub record LetGo (s s' : Variables) (dop : Dop) (vop : VersionOp) : Type 0 where
  pub op : vop ≡ StatesInternalOp
  pub answer : OnRespReadNode dop (λ id n. OnBoth s s' (λ x y. LetNodeGo x y id))
      ⊎ OnRespReadIndirectionTable dop (λ id t. OnLoading s (λ at read. LetTableGo at read s' id))

-- EVERY STEP OF THE STORE: upstream's, and let go

module _ (d : ℕ) (s s' : Variables) (dop : Dop) (vop : VersionOp) (ref : ℕ) (n : Node) where
  abbrev pub StoreStep : Step → Type 0
  StoreStep step = cond (is_new (number_of step)) (LetGo s s' dop vop) (NextStep d s s' dop vop ref n step)
