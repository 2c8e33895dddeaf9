use Rattle.std.proofs.Common.{◌≡◌, ℕ, ◌+◌, List, length, length-append, ◌∙◌, ap, sym}
use Rattle.blink_page.specs.Page.{PlainPage, entries_with}
use Rattle.blink_page.specs.Split.{lower_entries, upper_entries}
use Rattle.blink_page.proofs.HalvesOfSplit.{lower-append-upper}
use Rattle.blink_page.proofs.page.Page.split_with.Goals as goal

pub lower_of-lower-requires-clause-lawful : goal.lower_of-lower-requires-clause-lawful
lower_of-lower-requires-clause-lawful c = rw (c.deref.ensures.0, sym c.requires.full) c.overfull_with-whole.ensures.lawful

pub upper_of-upper-requires-clause-lawful : goal.upper_of-upper-requires-clause-lawful
upper_of-upper-requires-clause-lawful c = rw (c.deref-2.ensures.0, sym c.requires.full) c.overfull_with-whole.ensures.lawful

-- the entries of both halves
abbrev whole : goal.After-lower → List (ℕ × ℕ)
whole c = entries_with c.args.self.now (c.args.key, c.args.value)

-- those that stay
stays : (c : goal.After-lower) → c.lower_of-lower.result.entries ≡ lower_entries c.args.fan (whole c)
stays c = ap (λ (half : PlainPage). half.entries) c.lower_of-lower.ensures
    ∙ ap (lower_entries c.args.fan) (c.deref.ensures.0 ∙ c.overfull_with-whole.ensures.entries)

-- and those that go to the new page
goes : (c : goal.After-lower) → c.upper_of-upper.result.entries ≡ upper_entries c.args.fan (whole c)
goes c = ap (λ (half : PlainPage). half.entries) c.upper_of-upper.ensures
    ∙ ap (upper_entries c.args.fan) (c.deref-2.ensures.0 ∙ c.overfull_with-whole.ensures.entries)

pub returns-clause-whole : goal.returns-clause-whole
returns-clause-whole c = rw (stays c, goes c) (lower-append-upper c.args.fan (whole c))

pub returns-clause-both_counts : goal.returns-clause-both_counts
returns-clause-both_counts c =
    let one_more = c.overfull_with-whole.ensures.one_more ∙ ap (λ (n : ℕ). n + 1) c.requires.full in
    sym (length-append c.lower_of-lower.result.entries c.upper_of-upper.result.entries)
    ∙ ap length (returns-clause-whole c ∙ sym c.overfull_with-whole.ensures.entries) ∙ one_more
