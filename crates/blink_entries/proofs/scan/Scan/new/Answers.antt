use Rattle.std.proofs.Common.{◌≡◌, ◌+◌, ◌≤◌, ◌++◌, ℕ, List, drop, ap, sym, subst, ◌∙◌, arith}
use Rattle.blink_page.specs.{PlainPage, Rises, least_above, place_of}
use Rattle.blink_entries.proofs.StretchOfScan.{rises_from}
use Rattle.blink_page.specs.declared.limits.TheConstants.{GREATEST_KEY}
use Rattle.blink_entries.specs.Scan.{IsLinkOf, at_most, entries_after, entries_to}
use Rattle.blink_entries.proofs.WhereLinksLead.{leaf_link, scan_from_leaf}
use Rattle.blink_entries.proofs.scan.Scan.new.Goals as goal

-- the leaf of `lo` has its place, and the leaves after it follow
pub returns : goal.returns
returns c =
    let in_range : c.args.lo ≤ GREATEST_KEY = omega (arith, c.ranges.lo.fits) in
    let leaf = c.leaf_for-leaf.result.now in
    let right : c.leaf.inside.right ≡ leaf.right = ap (λ (p : PlainPage). p.right) c.leaf.view_is in
    let items : c.deref.result.now ≡ leaf.entries = c.deref.ensures.0 ∙ ap (λ (p : PlainPage). p.entries) c.leaf.view_is in
    let own : c.not_below.result.now ≡ drop (place_of c.args.lo leaf.entries) leaf.entries = c.not_below.ensures ∙ ap (λ (xs : List (ℕ × ℕ)). drop (place_of c.args.lo xs) xs) items in
    let same : entries_to c.args.hi (c.not_below.result.now ++ entries_after c.args.store.now c.leaf.inside.right)
    ≡ entries_to c.args.hi (drop (place_of c.args.lo leaf.entries) leaf.entries ++ entries_after c.args.store.now leaf.right)
    = λ i. entries_to c.args.hi (own i ++ entries_after c.args.store.now (right i)) in
    ap (at_most c.args.most) (sym (c.up_to-link.ensures.entries c.args.store.now) ∙ same ∙ scan_from_leaf c.args.store.now c.requires c.args.lo c.args.hi in_range leaf c.leaf_for-leaf.ensures)

pub invariant_of-result : goal.invariant_of-result
invariant_of-result c =
    let in_range : c.args.lo ≤ GREATEST_KEY = omega (arith, c.ranges.lo.fits) in
    let leaf = c.leaf_for-leaf.result.now in
    let right : c.leaf.inside.right ≡ leaf.right = ap (λ (p : PlainPage). p.right) c.leaf.view_is in
    c.up_to-link.ensures.link c.args.store.now (subst (IsLinkOf c.args.store.now) (sym right) (leaf_link c.args.store.now c.requires c.args.lo c.args.hi in_range leaf c.leaf_for-leaf.ensures))

pub up_to-link-requires : goal.up_to-link-requires
up_to-link-requires c =
    let whole : c.deref.result.now ≡ c.leaf.inside.items.items = c.deref.ensures.0 in
    subst Rises (sym (c.not_below.ensures ∙ ap (λ (xs : List (ℕ × ℕ)). drop (place_of c.args.lo xs) xs) whole))
    (rises_from (place_of c.args.lo c.leaf.inside.items.items) (least_above c.leaf.inside.floor) c.leaf.inside.items.items (c.leaf.inside.high + 1) c.leaf.invariant.keys_rise)
