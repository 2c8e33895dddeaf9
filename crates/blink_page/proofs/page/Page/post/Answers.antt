use Rattle.std.proofs.Common.{◌≡◌, ◌≤◌, ◌<◌, length, is_some, false, ap, subst, sym, ◌∙◌, arith}
use Rattle.blink_page.specs.declared.limits.TheConstants.{MAX_FAN}
use Rattle.blink_page.specs.Entries.{value_at, posted}
use Rattle.blink_page.specs.Page.{PlainPage, IsLawfulPage, with_entries}
use Rattle.blink_page.specs.PageView.{plain}
use Rattle.blink_page.specs.Place.{place_of}
use Rattle.blink_page.proofs.ChangedEntries.{length-posted}
use Rattle.blink_page.proofs.LookUps.{none_unless_some}
use Rattle.blink_page.proofs.LawfulPages.{lawful_posted, lawful_with_room, place_inside}
use Rattle.blink_page.proofs.RisingKeys.{rising_rises}
use Rattle.blink_page.proofs.page.Page.post.Goals as goal

-- a page's keys rise
pub place-at-requires : goal.place-at-requires
place-at-requires c = record { rise = rw c.deref.ensures.0 (rising_rises _ c.self.inside.items.items _ c.self.invariant.keys_rise) }

pub post_at-requires : goal.post_at-requires
post_at-requires c =
    let own : c.self.inside.items.items ≡ c.args.self.now.entries = ap (λ (p : PlainPage). p.entries) c.self.view_is in
    let lawful : IsLawfulPage MAX_FAN c.args.self.now = subst (IsLawfulPage MAX_FAN) c.self.view_is c.self.invariant in
    let few : length c.args.self.now.entries < c.args.fan = omega (arith, ap length own, c.len.ensures.value, c.requires.at_most_fan) in
    let inside = place_inside MAX_FAN c.args.self.now lawful c.args.separator c.requires.inner c.requires.separator.1 in
    let at : c.place-at.result ≡ place_of c.args.separator c.self.inside.items.items = cc in
    (omega arith, (at, rw own (omega (arith, c.requires.fan.1), inside)))

pub invariant_of-self : goal.invariant_of-self
invariant_of-self c =
    let own : c.self.inside.items.items ≡ c.args.self.now.entries = ap (λ (p : PlainPage). p.entries) c.self.view_is in
    let lawful : IsLawfulPage MAX_FAN c.args.self.now = subst (IsLawfulPage MAX_FAN) c.self.view_is c.self.invariant in
    let missing : is_some (value_at c.args.separator c.args.self.now.entries) ≡ false = cc in
    let absent = none_unless_some _ missing in
    let more = lawful_posted MAX_FAN c.args.self.now lawful c.args.separator c.args.child c.requires.separator absent c.requires.inner c.requires.child in
    let few : length c.args.self.now.entries < c.args.fan = omega (arith, ap length own, c.len.ensures.value, c.requires.at_most_fan) in
    let has = lawful.inner c.requires.inner in
    let one_more = length-posted c.args.separator c.args.child _ c.args.self.now.entries _ has.last_is_high c.requires.separator.0 (omega (arith, c.requires.separator.1)) in
    let fits : length (posted (c.args.separator, c.args.child) c.args.self.now.entries) ≤ MAX_FAN = omega (arith, one_more, c.requires.fan.1) in
    let entries : c.post_at.new.items.items ≡ posted (c.args.separator, c.args.child) c.args.self.now.entries = cc in
    let page = ap (with_entries (plain c.self.inside)) entries ∙ ap (λ (p : PlainPage). with_entries p (posted (c.args.separator, c.args.child) c.args.self.now.entries)) c.self.view_is in
    subst (IsLawfulPage MAX_FAN) (sym page) (lawful_with_room _ MAX_FAN _ more fits)
