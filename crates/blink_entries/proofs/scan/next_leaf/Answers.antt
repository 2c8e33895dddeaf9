use Rattle.std.proofs.Common.{◌≡◌, ◌++◌, ℕ, List, [], length, eqb-true, ap, sym, ◌∙◌}
use Rattle.blink_page.specs.{PlainPage}
use Rattle.blink_entries.specs.Scan.{entries_after}
use Rattle.blink_entries.proofs.WhereLinksLead.{link_page, leads_on, empty_of}
use Rattle.blink_entries.proofs.scan.next_leaf.Goals as goal

pub read-leaf-requires : goal.read-leaf-requires
read-leaf-requires c = link_page c.args.store.now c.loop-link.link c.in-Some.number c.in-Some.is c.loop-link.invariant.is_link

pub returns-then-not-is_empty-clause-entries : goal.returns-then-not-is_empty-clause-entries
returns-then-not-is_empty-clause-entries c =
    c.loop-link.invariant.same_entries
    ∙ (leads_on c.args.store.now c.loop-link.link c.in-Some.number c.in-Some.is c.loop-link.invariant.is_link c.read-leaf.result.now c.read-leaf.ensures.page).entries

pub returns-then-not-is_empty-clause-link : goal.returns-then-not-is_empty-clause-link
returns-then-not-is_empty-clause-link c =
    (leads_on c.args.store.now c.loop-link.link c.in-Some.number c.in-Some.is c.loop-link.invariant.is_link c.read-leaf.result.now c.read-leaf.ensures.page).onward

-- the page is passed over, and fewer follow
pub loop-link-smaller : goal.loop-link-smaller
loop-link-smaller c =
    let on = leads_on c.args.store.now c.loop-link.link c.in-Some.number c.in-Some.is c.loop-link.invariant.is_link c.read-leaf.result.now c.read-leaf.ensures.page in
    rw (ap (λ (p : PlainPage). p.right) c.leaf.view_is) on.falls

-- without an entry of its own
pub loop-link-preserved : goal.loop-link-preserved
loop-link-preserved c =
    let on = leads_on c.args.store.now c.loop-link.link c.in-Some.number c.in-Some.is c.loop-link.invariant.is_link c.read-leaf.result.now c.read-leaf.ensures.page in
    let own : c.leaf.inside.items.items ≡ c.read-leaf.result.now.entries = ap (λ (p : PlainPage). p.entries) c.leaf.view_is in
    let none : c.read-leaf.result.now.entries ≡ [] = sym own ∙ empty_of c.leaf.inside.items.items (eqb-true (length c.leaf.inside.items.items) 0 (sym c.is_empty.ensures ∙ c.if-not-is_empty.false)) in
    rw (ap (λ (p : PlainPage). p.right) c.leaf.view_is) (record {
      is_link = on.onward;
      same_entries = c.loop-link.invariant.same_entries ∙ on.entries ∙ ap (λ (es : List (ℕ × ℕ)). es ++ entries_after c.args.store.now c.read-leaf.result.now.right) none;
    })
