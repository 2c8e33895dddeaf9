use Rattle.std.proofs.Common.{◌≡◌, ◌+◌, ◌<◌, ◌++◌, [], length, eqb-true, ap, sym, subst, ◌∙◌, arith}
use Rattle.blink_page.specs.{PlainPage, Rises, least_above}
use Rattle.blink_page.proofs.Offered.{rising_rises}
use Rattle.blink_rest.specs.{entries_from}
use Rattle.blink_entries.specs.Scan.{entries_after, entries_to}
use Rattle.blink_entries.proofs.WhereLinksLead.{empty_of, no_link_no_entry}
use Rattle.blink_entries.proofs.scan.next_part.Goals as goal

pub up_to-link-requires : goal.up_to-link-requires
up_to-link-requires c = subst Rises (sym c.deref.ensures.0) (rising_rises (least_above c.leaf.inside.floor) c.leaf.inside.items.items (c.leaf.inside.high + 1) c.leaf.invariant.keys_rise)

-- the first key is above, so nothing follows
pub returns-then-is_empty-clause-end : goal.returns-then-is_empty-clause-end
returns-then-is_empty-clause-end c =
    let store = c.args.store.now in
    let leaf = c.in_ok-leaf.leaf.now in
    let items : c.deref.result.now ≡ leaf.entries = c.deref.ensures.0 ∙ ap (λ (p : PlainPage). p.entries) c.leaf.view_is in
    let right : c.leaf.inside.right ≡ leaf.right = ap (λ (p : PlainPage). p.right) c.leaf.view_is in
    let none : c.up_to-link.result.0.now ≡ [] = empty_of c.up_to-link.result.0.now (eqb-true (length c.up_to-link.result.0.now) 0 (sym c.is_empty.ensures ∙ c.if-is_empty.true)) in
    let fewer : length c.up_to-link.result.0.now < length c.deref.result.now = (let some = c.in_ok-leaf.ensures.some in omega (arith, some, ap length items, ap length none)) in
    let link = c.up_to-link.ensures.last fewer in
    ap (entries_to c.args.hi) (c.in_ok-leaf.ensures.entries ∙ (λ i. sym items i ++ entries_after store (sym right i)))
    ∙ (c.up_to-link.ensures.entries store
    ∙ (λ i. entries_from (none i) ++ entries_to c.args.hi (entries_after store (link i))) ∙ ap (entries_to c.args.hi) (no_link_no_entry store))
