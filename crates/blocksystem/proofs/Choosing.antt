-- The chooser's call on cache and disk: with a disk in its written form it is the cache's own, with any other it is refused with 1, and
-- nothing moves. Assumes nothing.
use Prim.Native.Nat.{ℕ}
use mathlib.Core.Bool.{◌&&◌, false, not, true}
use mathlib.Core.List.{◌∷◌}
use mathlib.Core.Path.{◌∙◌, ◌≡◌, ap, refl, sym}
use native.Mathlib.Omega.{arith}
use borrow.Author.Tests.{eqb-false}
use lib.Dec.{eqb}
use Rattle.base.proofs.Tests.{split}
use Rattle.base.specs.Refusals.{◌when◌, answer}
use Rattle.blockcache.proofs.Chooser.{by_answer, by_refused, choice_answer, choice_form, choice_vars}
use Rattle.blockcache.specs.Abstract.{cache_vars}
use Rattle.blockcache.specs.Chooser.{block_rows, choice_by, chooser, chooser_rows, refused_choice}
use Rattle.blockcache.specs.Form.{cache_form, settings_form}
use Rattle.blockcache.specs.declared.CacheState.{CacheState}
use Rattle.blockdisk.specs.Form.{disk_form}
use Rattle.blockdisk.specs.declared.DiskState.{DiskState}
use Rattle.blocksystem.specs.Choosing.{joined_choice, joined_choice_rows}
use Rattle.blocksystem.specs.Joined.{settings_of}

module _ (d : ℕ) (c : CacheState) (s : DiskState) where
  -- a disk out of its written form
  pub choice_misformed : disk_form d s ≡ false → joined_choice d c s ≡ refused_choice 1 c
  unfolding joined_choice choice_by answer
  choice_misformed f =
      let g = settings_of d s in
      ap (λ formed. choice_by g c ((1 when not (formed && settings_form g && cache_form d c)) ∷ block_rows g c)) f

  -- a disk in it
  pub choice_formed : disk_form d s ≡ true → joined_choice d c s ≡ chooser (settings_of d s) c
  unfolding joined_choice chooser
  choice_formed f = rw f refl

  -- accepted: the disk is in its form, and the cache's own rows accept
  pub choice_zero : (joined_choice d c s).answer ≡ 0 → (disk_form d s ≡ true) × (answer (chooser_rows (settings_of d s) c) ≡ 0)
  choice_zero e =
      split (disk_form d s)
      (λ f. (f, sym (choice_answer (settings_of d s) c) ∙ sym (ap (λ x. x.answer) (choice_formed f)) ∙ e))
      (λ f. absurd (let z : ◌≡◌ {A = ℕ} 1 0 = sym (ap (λ x. x.answer) (choice_misformed f)) ∙ e in omega arith))

  -- and it is the cache's own
  pub choice_is : (joined_choice d c s).answer ≡ 0 → joined_choice d c s ≡ chooser (settings_of d s) c
  choice_is e = choice_formed (choice_zero e).0

  -- the cache's form and upstream's variables are kept, accepted or refused
  pub choice_keeps_form : cache_form d c ≡ true → cache_form d (joined_choice d c s).cache ≡ true
  choice_keeps_form h =
      split (disk_form d s) (λ f. rw (choice_formed f) (choice_form (settings_of d s) c h)) (λ f. rw (choice_misformed f) h)

  pub choice_keeps_vars : cache_vars (joined_choice d c s).cache ≡ cache_vars c
  choice_keeps_vars =
      split (disk_form d s) (λ f. rw (choice_formed f) (choice_vars (settings_of d s) c)) (λ f. rw (choice_misformed f) refl)

  -- refused: the cache as it was
  pub choice_refused : eqb (joined_choice d c s).answer 0 ≡ false → (joined_choice d c s).cache ≡ c
  unfolding joined_choice
  choice_refused t =
      let rows = joined_choice_rows d c s in
      ap (λ x. x.cache) (by_refused (settings_of d s) c rows (λ e. eqb-false _ 0 t (by_answer (settings_of d s) c rows ∙ e)))
