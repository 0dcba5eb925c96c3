-- A call, in a walk by hand, of a covered function whose parameters and result are plain data and whose contract is an equation:
-- what the callee asks is had for nothing, and what it gives is one fact, that the machine value returned is of the value that the
-- contract names.
--     gives    from nothing, what the callee asks at values a with machine values vss
--     takes    of what the callee leaves at the machine value u, that u is of x, where the clause says that the result is x
--     calls_plain      both, as one step of a walk: the context is as it was, and of the machine value u that is returned it is known
--                      that it is of x
--     calls_lent       the same of a callee that borrows as well: what it asks stands at the head of the context, and of that the
--                      tokens are left
use mathlib.Core.Path.{◌≡◌, subst}
use mathlib.Core.List.{List, [], ◌∷◌}
use seplogic.Ra.Ura.{Ura}
use mir.Syntax.{Callee, Place, Opd, Body, seq, call}
use mir.Val.{Val}
use base.Logic.{SProp, ent, emp, guard, ex_e, snd∗, via}
use prog.Wp.{Env, Calls, Loops}
use types.Logic.{Logic, sem}
use contract.Monad.{fact}
use types.Kit.{Item, Seq, Go, runs, lands, Post, ‵, raw, ◌⊛◌, given, some, later, ◌$◌, ◌∵◌, !, qed, drop, move, use0, use1, split}
use types.Kit.{join, learn, pick, await, updating, now as at_once, check, done}
use types.Run.{Opds}
use sound.WpLaws.{FmC}
use denote.RattleType.{RattleType, owns}
use denote.Laws.{Is, Ises, Are, Makess, owns_make, shows}
use denote.Signature.{type_at, types_at}
use denote.Steps.{facts, heard}
use denote.Triple.Entry.{Res, alive}
use denote.Triple.Spec.{triple_of}
use denote.Triple.Clauses.{Ended, Clauses, AtExit, at_exit, lasts, ensured, closing}
use denote.Triple.Call.{calls_at}
use denote.Triple.Statement.{Contract, Triple}

module _ {M : Type 1} {𝓤 : Ura M} (𝓛 : Logic 𝓤) (T : Ended) (c : Clauses 𝓤 T) where
  open 𝓛 use {H}

  abbrev pub Asks : Contract 𝓤
  Asks = triple_of 𝓛 T.signature (closing 𝓛 T c)

  module _ (y : Asks.Ghost) where
    pub gives : ent 𝓤 (emp 𝓤) (alive 𝓛 T.signature y.0.0 y.0.1) → ent 𝓤 (emp 𝓤) ((c y.0.0 y.0.3).requires y.1)
        → Makess 𝓛 (types_at T.signature.params y.0.0) (Ises (types_at T.signature.params y.0.0))
        → Are (types_at T.signature.params y.0.0) (Ises (types_at T.signature.params y.0.0)) y.0.3 y.0.4
        → ent 𝓤 (emp 𝓤) (Asks.pre y)
    gives free required make are =
        qed 𝓛 [] ∵ use0 𝓛 (raw ((c y.0.0 y.0.3).requires y.1)) required $
        use0 𝓛 (‵ (owns (types_at T.signature.params y.0.0) y.0.3 y.0.4)) (owns_make 𝓛 (types_at
        T.signature.params y.0.0) (Ises (types_at T.signature.params y.0.0)) make y.0.3 y.0.4 are) $
        use0 𝓛 (raw (alive 𝓛 T.signature y.0.0 y.0.1)) free $ join ! $ done !

    -- the callee's result, and that what is left of its tokens is had again
    abbrev R : RattleType
    R = type_at T.signature.result y.0.0

    abbrev Tokens : SProp 𝓤
    Tokens = alive 𝓛 T.signature y.0.0 y.0.1

    pub takes : (x : Res T.signature y.0.0) → ((r : Res T.signature y.0.0) (e : AtExit T y.0.0) →
        ent 𝓤 ((c y.0.0 y.0.3).ensures y.1 r e) (fact 𝓤 (r ≡ x)))
        → (u : Val) → ent 𝓤 (Asks.post y u) (H.⇛ (guard 𝓤 (Is R x (u ∷ [])) Tokens))
    takes x says u =
        qed 𝓛 (later (some (λ (r : Res T.signature y.0.0). (raw Tokens ⊛ ‵ (R.own_val r (u ∷ []))) ⊛ raw (ensured 𝓛 T c
        y.0.0 y.0.3 y.1 r))) ∷ []) ∵
        updating ! $ await ! tt $ pick ! (λ r. split ! $ move ! (1 ∷ []) $ use1 𝓛 (raw (fact 𝓤 (r ≡ x))) (said r) $
        heard ! (r ≡ x) (λ e. split ! $ move ! (1 ∷ []) $
        facts ! R (Is R) (shows 𝓛 R) r (u ∷ []) (λ is. at_once ! $
        check ! (subst (λ (z : Res T.signature y.0.0). Is R z (u ∷ [])) e is) $ done !)))
      where
        said : (r : Res T.signature y.0.0) → ent 𝓤 (ensured 𝓛 T c y.0.0 y.0.3 y.1 r) (fact 𝓤 (r ≡ x))
        said r = ex_e 𝓤 _ (λ ws. via 𝓤 _ (snd∗ 𝓤 (sem 𝓛 (lasts T y.0.0 y.0.3 ws)) ((c y.0.0 y.0.3).ensures y.1 r
            (at_exit T y.0.0 y.0.3 ws))) (says r (at_exit T y.0.0 y.0.3 ws)))

  module _ {Γ : List (Item 𝓤)} {E : Env 𝓤 H} {C : Calls 𝓤 H} {Λ : Loops 𝓤 H} {q : Post 𝓤 H}
      {f : Callee} {xs : List Opd} {d : Place} {rest : Body}
      (fm : FmC 𝓤 H 𝓛.laws C) (known : Triple 𝓤 (C f) Asks) (y : Asks.Ghost) where
    pub calls_lent : (x : Res T.signature y.0.0) → ((r : Res T.signature y.0.0) (e : AtExit T y.0.0) →
        ent 𝓤 ((c y.0.0 y.0.3).ensures y.1 r e) (fact 𝓤 (r ≡ x)))
        → Opds (Go {0}) 𝓛 (raw (Asks.pre y) ∷ Γ) E xs (Asks.args y) → ((u : Val) → Is (R y) x (u ∷ []) →
        Seq (Go {0}) 𝓛 (raw (Tokens y) ∷ Γ) (lands C Λ E d u rest q))
        → Seq (Go {0}) 𝓛 (raw (Asks.pre y) ∷ Γ) (runs C Λ E (seq (call f xs d) rest) q)
    calls_lent x says os k = calls_at ! fm Asks known y os
        (λ u. use1 𝓛 (later (given (Is (R y) x (u ∷ [])) (raw (Tokens y)))) (takes y x says u) $ await ! tt $ learn ! (λ is. k u is))

    pub calls_plain : ent 𝓤 (emp 𝓤) (Asks.pre y) → (x : Res T.signature y.0.0) →
        ((r : Res T.signature y.0.0) (e : AtExit T y.0.0) →
        ent 𝓤 ((c y.0.0 y.0.3).ensures y.1 r e) (fact 𝓤 (r ≡ x)))
        → Opds (Go {0}) 𝓛 (raw (Asks.pre y) ∷ Γ) E xs (Asks.args y) → ((u : Val) → Is (R y) x (u ∷ []) →
        Seq (Go {0}) 𝓛 Γ (lands C Λ E d u rest q))
        → Seq (Go {0}) 𝓛 Γ (runs C Λ E (seq (call f xs d) rest) q)
    calls_plain had x says os k = use0 𝓛 (raw (Asks.pre y)) had $ calls_lent x says os (λ u is. drop ! $ k u is)
