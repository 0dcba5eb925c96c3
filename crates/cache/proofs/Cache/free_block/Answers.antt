-- Each refusal by its law, in their order; past them all, the block read off the two words. Assumes nothing.
use mathlib.Core.Bool.{false, true}
use borrow.Author.Rules.{rules}
use mathlib.Core.Path.{◌∙◌, ◌≡◌, sym}
use borrow.Author.Tests.{lt-ltb}
use Rattle.base.proofs.Tests.{and_left}
use Rattle.bitmap.proofs.Chosen.{none_free, one_below, one_free}
use Rattle.blockcache.proofs.Chooser.{choice_unformed, choice_unnamed, choice_unready}
use Rattle.blockcache.specs.Form.{ready_phase}
use Rattle.blockdisk.specs.Form.{is_rule}
use Rattle.disklayout.specs.Device.{made}
use Rattle.cache.proofs.Cache.free_block.Goals as goal

pub returns-then-not-settings_form : goal.returns-then-not-settings_form
returns-then-not-settings_form c =
    let a = c.args in
    let unnamed = sym c.settings_form.ensures ∙ c.if-not-settings_form.true in
    sym (choice_unnamed a.self.settings a.self.state unnamed)

pub returns-then-not-cache_form : goal.returns-then-not-cache_form
returns-then-not-cache_form c =
    let a = c.args in
    let unformed = sym c.cache_form.ensures ∙ c.if-not-cache_form.true in
    sym (choice_unformed a.self.settings a.self.state unformed)

pub returns-then-ne : goal.returns-then-ne
returns-then-ne c =
    let a = c.args in
    let named = sym c.settings_form.ensures ∙ c.if-not-settings_form.false in
    let form = sym c.cache_form.ensures ∙ c.if-not-cache_form.false in
    let unready : ready_phase a.self.state.phase ≡ false = search rules in
    sym (choice_unready a.self.settings a.self.state named form unready)

pub returns-in_default : goal.returns-in_default
returns-in_default c =
    let a = c.args in
    let named = sym c.settings_form.ensures ∙ c.if-not-settings_form.false in
    let form = sym c.cache_form.ensures ∙ c.if-not-cache_form.false in
    let ready : ready_phase a.self.state.phase ≡ true = search rules in
    let none = sym c.next_free.ensures ∙ c.in_default.is in
    none_free a.self.settings a.self.state named form ready none

pub returns : goal.returns
returns c =
    let g = c.args.self.settings in
    let state = c.args.self.state in
    let named = sym c.settings_form.ensures ∙ c.if-not-settings_form.false in
    let form = sym c.cache_form.ensures ∙ c.if-not-cache_form.false in
    let ready : ready_phase state.phase ≡ true = search rules in
    let some = sym c.next_free.ensures ∙ c.in-Some.is in
    let made_device : made g.device ≡ true = and_left (made g.device) (is_rule g.rule) named in
    simp (
      c.unwrap_or-addr.ensures,
      c.node_block_addr.ensures,
      c.free_count.ensures,
      made_device,
      lt-ltb _ 128 (one_below g state named form ready some),
    )
    (one_free g state named form ready some)
