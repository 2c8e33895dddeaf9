use Rattle.std.proofs.Common.{◌≡◌, ◌+◌, ◌≤◌, ◌++◌, ℕ, List, [], length, drop, eqb-true, ap, sym, subst, ◌∙◌, arith, append-nil}
use Rattle.blink_page.specs.{PlainPage, Rises, least_above, place_of}
use Rattle.blink_page.specs.declared.limits.TheConstants.{GREATEST_KEY}
use Rattle.blink_rest.specs.{entries_from}
use Rattle.blink_entries.specs.Back.{entries_within}
use Rattle.blink_entries.specs.Index.{map_of}
use Rattle.blink_entries.proofs.StretchOfScan.{rises_from}
use Rattle.blink_entries.proofs.LeavesBefore.{ends_below, part_of_leaf}
use Rattle.blink_entries.proofs.WhereLinksLead.{empty_of}
use Rattle.blink_entries.proofs.back.last_part.Goals as goal

pub returns-then-most-lo-clause-end : goal.returns-then-most-lo-clause-end
returns-then-most-lo-clause-end c =
    ends_below c.args.lo c.in-Some.most c.args.from c.leaves.hi (map_of c.args.store.now) c.leaves.invariant c.in-Some.is c.if-most-lo.true

pub returns-then-not-is_empty-clause-entries : goal.returns-then-not-is_empty-clause-entries
returns-then-not-is_empty-clause-entries c =
    let in_range : c.in-Some.most ≤ GREATEST_KEY = omega arith in
    let within : c.args.lo ≤ c.in-Some.most = omega arith in
    part_of_leaf c.args.store.now c.requires c.args.lo c.in-Some.most c.args.from c.leaves.hi c.leaf_for-leaf.result.now c.leaf.inside.floor c.deref.result.now c.not_below.result.now c.not_above-entries.result.now
    c.leaves.invariant c.in-Some.is within in_range c.leaf_for-leaf.ensures (ap (λ (p : PlainPage). p.floor) c.leaf.view_is) (c.deref.ensures.0 ∙ ap (λ (p : PlainPage). p.entries) c.leaf.view_is) c.not_below.ensures c.not_above-entries.ensures.entries

-- the leaf has no entry of the range
pub leaves-preserved : goal.leaves-preserved
leaves-preserved c =
    let in_range : c.in-Some.most ≤ GREATEST_KEY = omega arith in
    let within : c.args.lo ≤ c.in-Some.most = omega arith in
    let empty : c.not_above-entries.result.now ≡ [] = empty_of c.not_above-entries.result.now (eqb-true (length c.not_above-entries.result.now) 0 (sym c.is_empty.ensures ∙ c.if-not-is_empty.false)) in
    part_of_leaf c.args.store.now c.requires c.args.lo c.in-Some.most c.args.from c.leaves.hi c.leaf_for-leaf.result.now c.leaf.inside.floor c.deref.result.now c.not_below.result.now c.not_above-entries.result.now
    c.leaves.invariant c.in-Some.is within in_range c.leaf_for-leaf.ensures (ap (λ (p : PlainPage). p.floor) c.leaf.view_is) (c.deref.ensures.0 ∙ ap (λ (p : PlainPage). p.entries) c.leaf.view_is) c.not_below.ensures c.not_above-entries.ensures.entries
    ∙ ap (λ (es : List (ℕ × ℕ)). entries_within c.args.lo c.leaf.inside.floor (map_of c.args.store.now) ++ entries_from es) empty
    ∙ append-nil (entries_within c.args.lo c.leaf.inside.floor (map_of c.args.store.now))

pub not_above-entries-requires : goal.not_above-entries-requires
not_above-entries-requires c =
    let whole : c.deref.result.now ≡ c.leaf.inside.items.items = c.deref.ensures.0 in
    subst Rises (sym (c.not_below.ensures ∙ ap (λ (xs : List (ℕ × ℕ)). drop (place_of c.args.lo xs) xs) whole))
    (rises_from (place_of c.args.lo c.leaf.inside.items.items) (least_above c.leaf.inside.floor) c.leaf.inside.items.items (c.leaf.inside.high + 1) c.leaf.invariant.keys_rise)
