use Rattle.std.proofs.Common.{◌≡◌, ◌∙◌, ap, refl, subst, sym}
use Rattle.blink_page.specs.declared.limits.TheConstants.{MAX_FAN}
use Rattle.blink_page.specs.Page.{PlainPage, IsLawfulPage}
use Rattle.blink_page.specs.PageView.{plain}
use Rattle.blink_page.specs.Split.{lower_entries, lower_half}
use Rattle.blink_page.proofs.LawfulPages.{lawful_for_greater}
use Rattle.blink_page.proofs.HalvesOfSplit.{lower_half-of, lawful_lower}
use Rattle.blink_page.proofs.page.Page.lower_of.Goals as goal

-- the entries that stay
stays : (c : goal.After-copied) → c.copied.result.items ≡ lower_entries c.args.fan c.args.whole.now
stays c = c.copied.ensures ∙ rw (c.kept_and_separator-kept.ensures.kept) refl

pub invariant_of-result : goal.invariant_of-result
invariant_of-result c =
    let half = lawful_lower c.args.fan c.args.new c.requires.fan c.args.self.now c.args.whole.now c.requires.overfull c.requires.lawful c.requires.new_number in
    let is = lower_half-of c.args.fan (plain c.self.inside) c.args.whole.now c.copied.result.items c.kept_and_separator-kept.result.1 c.kept_and_separator-kept.ensures.separator c.args.new (stays c)
    ∙ ap (λ (p : PlainPage). lower_half c.args.fan c.args.new p c.args.whole.now) c.self.view_is in
    subst (IsLawfulPage MAX_FAN) (sym is) (lawful_for_greater c.args.fan MAX_FAN _ c.requires.fan.1 half)
