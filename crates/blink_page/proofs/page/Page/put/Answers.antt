use Rattle.std.proofs.Common.{◌≡◌, ◌≤◌, ◌<◌, None, length, ap, subst, sym, ◌∙◌, arith}
use Rattle.blink_page.specs.declared.limits.TheConstants.{MAX_FAN}
use Rattle.blink_page.specs.Entries.{value_at, added}
use Rattle.blink_page.specs.Page.{PlainPage, IsLawfulPage, with_entries}
use Rattle.blink_page.specs.PageView.{plain}
use Rattle.blink_page.specs.Place.{place_of}
use Rattle.blink_page.proofs.ChangedEntries.{length-added}
use Rattle.blink_page.proofs.LawfulPages.{lawful_added, lawful_with_room}
use Rattle.blink_page.proofs.RisingKeys.{rising_rises}
use Rattle.blink_page.proofs.page.Page.put.Goals as goal

-- a page's keys rise
pub place-at-requires : goal.place-at-requires
place-at-requires c = record { rise = rw c.deref.ensures.0 (rising_rises _ c.self.inside.items.items _ c.self.invariant.keys_rise) }

pub add_at-requires : goal.add_at-requires
add_at-requires c =
    let own : c.self.inside.items.items ≡ c.args.self.now.entries = ap (λ (p : PlainPage). p.entries) c.self.view_is in
    let few : length c.args.self.now.entries < c.args.fan = omega (arith, ap length own, c.len.ensures.value, c.requires.at_most_fan) in
    let at : c.place-at.result ≡ place_of c.args.key c.self.inside.items.items = cc in
    let within : c.place-at.result ≤ length c.self.inside.items.items = omega (arith, c.place-at.ensures.within, ap length c.deref.ensures.0) in
    (omega arith, (at, (within, omega (arith, few, ap length own, c.requires.fan.1))))

pub invariant_of-self : goal.invariant_of-self
invariant_of-self c =
    let own : c.self.inside.items.items ≡ c.args.self.now.entries = ap (λ (p : PlainPage). p.entries) c.self.view_is in
    let lawful : IsLawfulPage MAX_FAN c.args.self.now = subst (IsLawfulPage MAX_FAN) c.self.view_is c.self.invariant in
    let absent : value_at c.args.key c.args.self.now.entries ≡ None = cc in
    let more = lawful_added MAX_FAN c.args.self.now lawful c.args.key c.args.value c.requires.key absent c.requires.leaf (omega arith) in
    let few : length c.args.self.now.entries < c.args.fan = omega (arith, ap length own, c.len.ensures.value, c.requires.at_most_fan) in
    let fits : length (added (c.args.key, c.args.value) c.args.self.now.entries) ≤ MAX_FAN = omega (arith, length-added c.args.key c.args.value c.args.self.now.entries, c.requires.fan.1) in
    let page = ap (with_entries (plain c.self.inside)) (c.add_at.ensures.entries ∙ ap (added (c.args.key, c.args.value)) own) ∙ ap (λ (p : PlainPage). with_entries p (added (c.args.key, c.args.value) c.args.self.now.entries)) c.self.view_is in
    subst (IsLawfulPage MAX_FAN) (sym page) (lawful_with_room _ MAX_FAN _ more fits)
