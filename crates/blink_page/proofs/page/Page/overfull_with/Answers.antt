use Rattle.std.proofs.Common.{◌≡◌, ◌≤◌, ap, subst, arith}
use Rattle.std.proofs.lemmas.Grind.{common_steps}
use Rattle.blink_page.specs.declared.limits.TheConstants.{MAX_FAN, GREATEST_KEY}
use Rattle.blink_page.specs.Page.{PlainPage, IsLawfulPage, entries_with}
use Rattle.blink_page.proofs.HalvesOfSplit.{overfull_is_lawful}
use Rattle.blink_page.proofs.LawfulPages.{place_inside}
use Rattle.blink_page.proofs.RisingKeys.{rising_rises}
use Rattle.blink_page.proofs.page.Page.overfull_with.Goals as goal

pub add-requires : goal.add-requires
add-requires c =
    let copy : c.copied-whole.result.items ≡ c.args.self.now.entries = cc in
    let lawful : IsLawfulPage MAX_FAN c.args.self.now = subst (IsLawfulPage MAX_FAN) c.self.view_is c.self.invariant in
    rw copy (omega arith, (omega (arith, lawful.at_most_fan), rising_rises _ c.args.self.now.entries _ lawful.keys_rise))

pub post_among-requires : goal.post_among-requires
post_among-requires c =
    let own : c.self.inside.items.items ≡ c.args.self.now.entries = ap (λ (p : PlainPage). p.entries) c.self.view_is in
    let level : c.self.inside.level ≡ c.args.self.now.level = ap (λ (p : PlainPage). p.level) c.self.view_is in
    let copy : c.copied-whole.result.items ≡ c.args.self.now.entries = cc in
    let lawful : IsLawfulPage MAX_FAN c.args.self.now = subst (IsLawfulPage MAX_FAN) c.self.view_is c.self.invariant in
    let inside = place_inside MAX_FAN c.args.self.now lawful c.args.key (omega arith) c.requires.key.1 in
    rw copy (omega arith, (omega (arith, lawful.at_most_fan), (rising_rises _ c.args.self.now.entries _ lawful.keys_rise, inside)))

-- with the entry in its place the page is lawful, where one entry more is allowed
pub returns-then-self-eq0-clause-lawful : goal.returns-then-self-eq0-clause-lawful
returns-then-self-eq0-clause-lawful c =
    let level : c.self.inside.level ≡ c.args.self.now.level = ap (λ (p : PlainPage). p.level) c.self.view_is in
    let own : c.self.inside.items.items ≡ c.args.self.now.entries = ap (λ (p : PlainPage). p.entries) c.self.view_is in
    let lawful : IsLawfulPage MAX_FAN c.args.self.now = subst (IsLawfulPage MAX_FAN) c.self.view_is c.self.invariant in
    let same : c.add.new.items.items ≡ entries_with c.args.self.now (c.args.key, c.args.value) = grind (arith, common_steps) in
    let fits : c.args.value ≤ GREATEST_KEY = omega (arith, c.ranges.value.fits) in
    overfull_is_lawful c.args.self.now c.args.key c.args.value c.add.new.items.items lawful c.requires.key c.requires.absent fits c.requires.child same

-- and so it is with the separator posted
pub returns-else-self-eq0-clause-lawful : goal.returns-else-self-eq0-clause-lawful
returns-else-self-eq0-clause-lawful c =
    let level : c.self.inside.level ≡ c.args.self.now.level = ap (λ (p : PlainPage). p.level) c.self.view_is in
    let own : c.self.inside.items.items ≡ c.args.self.now.entries = ap (λ (p : PlainPage). p.entries) c.self.view_is in
    let lawful : IsLawfulPage MAX_FAN c.args.self.now = subst (IsLawfulPage MAX_FAN) c.self.view_is c.self.invariant in
    let same : c.post_among.new.items.items ≡ entries_with c.args.self.now (c.args.key, c.args.value) = grind (arith, common_steps) in
    let fits : c.args.value ≤ GREATEST_KEY = omega (arith, c.ranges.value.fits) in
    overfull_is_lawful c.args.self.now c.args.key c.args.value c.post_among.new.items.items lawful c.requires.key c.requires.absent fits c.requires.child same
