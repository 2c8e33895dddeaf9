use Rattle.std.proofs.Common.{◌≡◌, ap, subst, arith}
use Rattle.blink_page.specs.declared.limits.TheConstants.{MAX_FAN}
use Rattle.blink_page.specs.Page.{PlainPage, IsLawfulPage}
use Rattle.blink_page.specs.Place.{place_of}
use Rattle.blink_page.proofs.WhereSearchesEnd.{child_for-place}
use Rattle.blink_page.proofs.LawfulPages.{place_inside, child_inside}
use Rattle.blink_page.proofs.RisingKeys.{rising_rises}
use Rattle.blink_page.proofs.page.Page.child.Goals as goal

-- a page's keys rise
pub place-requires : goal.place-requires
place-requires c = record { rise = rw c.deref-2.ensures.0 (rising_rises _ c.self.inside.items.items _ c.self.invariant.keys_rise) }

pub bounds-deref-place : goal.bounds-deref-place
bounds-deref-place c =
    let own : c.self.inside.items.items ≡ c.args.self.now.entries = ap (λ (p : PlainPage). p.entries) c.self.view_is in
    let at : c.place.result ≡ place_of c.args.key c.args.self.now.entries = cc in
    let lawful : IsLawfulPage MAX_FAN c.args.self.now = subst (IsLawfulPage MAX_FAN) c.self.view_is c.self.invariant in
    let inside = place_inside MAX_FAN c.args.self.now lawful c.args.key c.requires.inner c.requires.not_right in
    rw (c.deref.ensures.0, own, at) inside

pub overflow_cast-result : goal.overflow_cast-result
overflow_cast-result c =
    let own : c.self.inside.items.items ≡ c.args.self.now.entries = ap (λ (p : PlainPage). p.entries) c.self.view_is in
    let at : c.place.result ≡ place_of c.args.key c.args.self.now.entries = cc in
    let lawful : IsLawfulPage MAX_FAN c.args.self.now = subst (IsLawfulPage MAX_FAN) c.self.view_is c.self.invariant in
    let inside = child_inside MAX_FAN c.args.self.now lawful c.args.key c.requires.inner c.requires.not_right in
    rw (c.deref.ensures.0, own, at) (omega (arith, inside))

pub returns : goal.returns
returns c =
    let own : c.self.inside.items.items ≡ c.args.self.now.entries = ap (λ (p : PlainPage). p.entries) c.self.view_is in
    let at : c.place.result ≡ place_of c.args.key c.args.self.now.entries = cc in
    let lawful : IsLawfulPage MAX_FAN c.args.self.now = subst (IsLawfulPage MAX_FAN) c.self.view_is c.self.invariant in
    let inside = place_inside MAX_FAN c.args.self.now lawful c.args.key c.requires.inner c.requires.not_right in
    let child = child_for-place c.args.key (0, 0) c.args.self.now.entries inside in
    rw (c.deref.ensures.0, own, at) child
