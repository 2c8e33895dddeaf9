use Rattle.std.proofs.Common.{◌≡◌, None, IsSome, is_some, ap, subst, sym, ◌∙◌, arith}
use Rattle.blink_page.specs.declared.limits.TheConstants.{MAX_FAN}
use Rattle.blink_page.specs.Entries.{value_at, removed}
use Rattle.blink_page.specs.Page.{PlainPage, IsLawfulPage, with_entries}
use Rattle.blink_page.specs.PageView.{plain}
use Rattle.blink_page.specs.Place.{place_of}
use Rattle.blink_page.proofs.ChangedEntries.{removed-absent}
use Rattle.blink_page.proofs.WhereSearchesEnd.{place_found, removed-place}
use Rattle.blink_page.proofs.LawfulPages.{lawful_removed}
use Rattle.blink_page.proofs.RisingKeys.{rising_rises}
use Rattle.blink_page.proofs.page.Page.take.Goals as goal

-- a page's keys rise
pub place-at-requires : goal.place-at-requires
place-at-requires c = record { rise = rw c.deref.ensures.0 (rising_rises _ c.self.inside.items.items _ c.self.invariant.keys_rise) }

pub returns-in_default-clause-entries : goal.returns-in_default-clause-entries
returns-in_default-clause-entries c =
    let absent : value_at c.args.key c.args.self.now.entries ≡ None = cc in
    ap (with_entries c.args.self.now) (sym (removed-absent c.args.key c.args.self.now.entries absent))

pub remove-requires : goal.remove-requires
remove-requires c =
    let own : c.self.inside.items.items ≡ c.args.self.now.entries = ap (λ (p : PlainPage). p.entries) c.self.view_is in
    let found : IsSome (value_at c.args.key c.args.self.now.entries) = ap is_some (sym c.in-Some.ensures) in
    let at : c.place-at.result ≡ place_of c.args.key c.args.self.now.entries = cc in
    let lawful : IsLawfulPage MAX_FAN c.args.self.now = subst (IsLawfulPage MAX_FAN) c.self.view_is c.self.invariant in
    rw (own, at) (omega arith, place_found c.args.key _ c.args.self.now.entries _ lawful.keys_rise found)

-- the entry is gone from the list
pub returns-clause-entries : goal.returns-clause-entries
returns-clause-entries c =
    let own : c.self.inside.items.items ≡ c.args.self.now.entries = ap (λ (p : PlainPage). p.entries) c.self.view_is in
    let found : IsSome (value_at c.args.key c.args.self.now.entries) = ap is_some (sym c.in-Some.ensures) in
    let at : c.place-at.result ≡ place_of c.args.key c.args.self.now.entries = cc in
    let lawful : IsLawfulPage MAX_FAN c.args.self.now = subst (IsLawfulPage MAX_FAN) c.self.view_is c.self.invariant in
    let gone = removed-place c.args.key _ c.args.self.now.entries _ lawful.keys_rise found in
    let entries : c.remove.new.self.items ≡ removed c.args.key c.args.self.now.entries = c.remove.ensures.items ∙ rw (own, at) (sym gone) in
    ap (with_entries (plain c.self.inside)) entries ∙ ap (λ (p : PlainPage). with_entries p (removed c.args.key c.args.self.now.entries)) c.self.view_is

pub invariant_of-self : goal.invariant_of-self
invariant_of-self c =
    let lawful : IsLawfulPage MAX_FAN c.args.self.now = subst (IsLawfulPage MAX_FAN) c.self.view_is c.self.invariant in
    subst (IsLawfulPage MAX_FAN) (sym (returns-clause-entries c)) (lawful_removed MAX_FAN c.args.self.now lawful c.args.key c.requires)
