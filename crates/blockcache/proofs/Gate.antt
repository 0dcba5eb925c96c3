-- A step in the two halves that the code makes of it: what V, D and the phase refuse, and then what the step itself does. Assumes nothing.
use Prim.Native.Nat.{ℕ}
use mathlib.Core.Bool.{cond, false, not, true}
use mathlib.Core.List.{List, [], ◌∷◌}
use mathlib.Core.Option.{Option, none, some}
use mathlib.Core.Path.{◌∙◌, ◌≡◌, refl}
use borrow.Author.Tests.{eq-eqb, ne_eqb}
use lib.Dec.{eqb}
use Rattle.base.proofs.Tests.{split}
use Rattle.base.specs.Maps.{is_some}
use Rattle.base.specs.Refusals.{Row, ◌when◌, answer}
use Rattle.blockcache.specs.Rows.{Takes, gate, own_rows, step_rows, takes}
use Rattle.blockcache.specs.Step.{answered, cache_next, cache_rows, cache_step, gated, node_of, rows_of, outcome, well_formed}
use Rattle.blockcache.specs.Steps.{Step, step_of}
use Rattle.blockcache.specs.declared.CacheState.{CacheState}
use Rattle.blockcache.specs.declared.Call.{Call}
use Rattle.blockcache.specs.declared.Settings.{Settings}

-- the answer is that of the gate where it is shut, that of the rows behind it where it is open
pub gate_answer : (t : Takes) (rest : List Row) →
    answer (gate t rest) ≡ cond (eqb (answer (gate t [])) 0) (answer rest) (answer (gate t []))
unfolding answer
gate_answer t rest =
    split t.version (λ a. split t.disk (λ b. split t.phase (λ e. rw (a, b, e)) (λ e. rw (a, b, e))) (λ b. rw (a, b))) (λ a. rw a)

module _ (g : Settings) (c : CacheState) (q : Call) where
  abbrev gate_of : Option Step → ℕ
  gate_of o = gated c.phase q.vop q.dop o

  -- the rows of a call within the limits
  rows_shut : (o : Option Step) → (gate_of o ≡ 0 → ⊥) → answer ((1 when not (is_some o)) ∷ rows_of g c q o) ≡ gate_of o
  unfolding gated answer
  rows_shut none ne = refl
  rows_shut (some step) ne = gate_answer (takes c.phase q.vop q.dop step) (own_rows g c q step) ∙ rw (ne_eqb (gate_of (some step)) 0 ne)

  -- behind it the step's own rows decide
  pub rows_open : (step : Step) → gate_of (some step) ≡ 0 → answer (step_rows g c q step) ≡ answer (own_rows g c q step)
  unfolding gated
  rows_open step z = gate_answer (takes c.phase q.vop q.dop step) (own_rows g c q step) ∙ rw (eq-eqb (gate_of (some step)) 0 z)

module _ (g : Settings) (c : CacheState) (n : ℕ) (q : Call) where
  -- a step is made of the answer of its rows, the node and the next cache
  pub step_is : cache_step g c n q ≡ outcome (answer (cache_rows g c n q)) (node_of c n q) (cache_next g.device c n q) c
  unfolding cache_step
  step_is = refl

  -- not in its written form, on no such device or under no such rule
  pub step_unformed : well_formed g c q ≡ false → cache_step g c n q ≡ answered 1 c
  unfolding answer
  step_unformed w = step_is ∙ rw w

  module _ (w : well_formed g c q ≡ true) where
    -- refused by V, D or phase, or for want of such a step
    pub step_shut : (gate_of g c q (step_of n) ≡ 0 → ⊥) → cache_step g c n q ≡ answered (gate_of g c q (step_of n)) c
    step_shut ne =
        let e : answer (cache_rows g c n q) ≡ gate_of g c q (step_of n) = rw w (rows_shut g c q (step_of n) ne) in
        step_is ∙ rw (e, ne_eqb (gate_of g c q (step_of n)) 0 ne)
