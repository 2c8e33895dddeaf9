use Rattle.std.proofs.Common.{◌≡◌, ◌∙◌, ap, subst, sym}
use Rattle.blink_page.specs.declared.limits.TheConstants.{MAX_FAN}
use Rattle.blink_page.specs.Page.{PlainPage, IsLawfulPage}
use Rattle.blink_page.specs.PageView.{plain}
use Rattle.blink_page.specs.Split.{kept_count, upper_entries, upper_half}
use Rattle.blink_page.proofs.LawfulPages.{lawful_for_greater}
use Rattle.blink_page.proofs.HalvesOfSplit.{take-drop_all, upper_half-of, lawful_upper}
use Rattle.blink_page.proofs.page.Page.upper_of.Goals as goal

-- the entries that go to the new page
goes : (c : goal.After-copied) → c.copied.result.items ≡ upper_entries c.args.fan c.args.whole.now
goes c = c.copied.ensures ∙ rw (c.kept_and_separator-kept.ensures.kept) (take-drop_all (kept_count c.args.fan) c.args.whole.now)

pub invariant_of-result : goal.invariant_of-result
invariant_of-result c =
    let half = lawful_upper c.args.fan 1 c.requires.fan c.args.self.now c.args.whole.now c.requires.overfull c.requires.lawful in
    let is = upper_half-of c.args.fan (plain c.self.inside) c.args.whole.now c.copied.result.items c.kept_and_separator-kept.result.1 c.kept_and_separator-kept.ensures.separator (goes c)
    ∙ ap (λ (p : PlainPage). upper_half c.args.fan p c.args.whole.now) c.self.view_is in
    subst (IsLawfulPage MAX_FAN) (sym is) (lawful_for_greater c.args.fan MAX_FAN _ c.requires.fan.1 half)
