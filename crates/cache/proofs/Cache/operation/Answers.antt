-- Outside the limits: 1. Else by what Alloc's and Dirty's methods ensure of the operation's call. Assumes nothing.
use mathlib.Core.Bool.{Bool, ◌&&◌, false, true}
use mathlib.Core.Path.{◌∙◌, ◌≡◌, ap, subst}
use lib.Dec.{leb}
use Rattle.base.specs.Refusals.{answer}
use Rattle.blockcache.specs.Operations.{operation_answer, operation_call, operation_form, operation_next}
use Rattle.blockcache.specs.Step.{answered, outcome, past_gate}
use Rattle.blockcache.specs.Steps.{alloc_step, dirty_step}
use Rattle.blockcache.specs.declared.CacheOutcome.{CacheOutcome}
use Rattle.blockcache.specs.declared.CacheState.{CacheState}
use Rattle.blockcache.specs.declared.Operation.{Operation}
use Rattle.blockcache.specs.declared.Settings.{Settings}
use Rattle.sectortype.specs.Form.{zero_node}
use Rattle.cache.proofs.Cache.operation.Goals as goal

module _ (g : Settings) (c : CacheState) (o : Operation) where
  abbrev said : CacheOutcome
  said = outcome (operation_answer g c o) zero_node (operation_next c o) c

  outside : operation_form o ≡ false → answered 1 c ≡ said
  unfolding operation_answer operation_next answer
  outside f = rw f

  allocated : operation_form o ≡ true → o.alloc ≡ true → past_gate g c (operation_call o) alloc_step ≡ said
  unfolding operation_answer operation_next answer past_gate
  allocated f a = rw (f, a)

  dirtied : operation_form o ≡ true → o.alloc ≡ false → past_gate g c (operation_call o) dirty_step ≡ said
  unfolding operation_answer operation_next answer past_gate
  dirtied f a = rw (f, a)

pub returns-then-not-o-formed : goal.returns-then-not-o-formed
returns-then-not-o-formed c =
    let a = c.args in
    let bad = subst (λ (b : Bool). (leb a.o.reference 63 && b) ≡ false) c.node_form-formed.ensures c.if-not-o-formed.true in
    outside a.self.settings a.self.state a.o (bad)

pub returns-then-o : goal.returns-then-o
returns-then-o c =
    let a = c.args in
    let good = subst (λ (b : Bool). (leb a.o.reference 63 && b) ≡ true) c.node_form-formed.ensures c.if-not-o-formed.false in
    c.alloc.ensures ∙ ap (λ q. past_gate a.self.settings a.self.state q alloc_step) c.operation_call.ensures
    ∙ allocated a.self.settings a.self.state a.o (good) c.if-o.true

pub returns : goal.returns
returns c =
    let a = c.args in
    let good = subst (λ (b : Bool). (leb a.o.reference 63 && b) ≡ true) c.node_form-formed.ensures c.if-not-o-formed.false in
    c.dirty.ensures ∙ ap (λ q. past_gate a.self.settings a.self.state q dirty_step) c.operation_call.ensures
    ∙ dirtied a.self.settings a.self.state a.o (good) c.if-o.false
