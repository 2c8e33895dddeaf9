use Rattle.std.proofs.Common.{◌≡◌, Some, ap, subst, sym, ◌∙◌}
use Rattle.blink_page.specs.{PlainPage, IsLawfulPage, removed, value_at, with_entries}
use Rattle.blink_page.proofs.Offered.{lawful_removed}
use Rattle.blink_store.specs.Store.{PlainStore, page_of}
use Rattle.blink_store.proofs.LeavesInPlace.{page_at_place, lawful_in_place, writes_in_place}
use Rattle.blink_store.proofs.PagesByNumber.{page_lawful}
use Rattle.blink_store.proofs.store.Store.take.Goals as goal

-- the store before
abbrev old : goal.After-self-1 → PlainStore
old c = record { fan = c.self.inside.fan; prime = c.self.inside.prime; pages = c.self.inside.pages.items }

leaf_there : (c : goal.After-self-1) (leaf : PlainPage) → page_of c.args.self.now c.args.n ≡ Some leaf → page_of (old c) c.args.n ≡ Some leaf
leaf_there c leaf there = ap (λ (store : PlainStore). page_of store c.args.n) c.self.view_is ∙ there

-- the leaf that was read
is_leaf : (c : goal.After-self-1) (leaf : PlainPage) → page_of c.args.self.now c.args.n ≡ Some leaf → c.index_mut-leaf.result.now ≡ leaf
is_leaf c leaf there = page_at_place (old c) c.args.n leaf c.index_mut-leaf.result.now (leaf_there c leaf there) c.index_mut-leaf.ensures.value

pub returns-clause-value : goal.returns-clause-value
returns-clause-value c = λ leaf there. c.take.ensures.value ∙ ap (λ (p : PlainPage). value_at c.args.key p.entries) (is_leaf c leaf there)

pub returns-clause-entries : goal.returns-clause-entries
returns-clause-entries c = λ leaf there.
    let now = c.take.ensures.entries ∙ ap (λ (p : PlainPage). with_entries p (removed c.args.key p.entries)) (is_leaf c leaf there) in
    rw (← c.self.view_is, ← now) (writes_in_place (old c) c.args.n leaf (leaf_there c leaf there) c.take.new.self)

pub invariant_of-self : goal.invariant_of-self
invariant_of-self c =
    let leaf = c.requires.leaf in
    let there = leaf_there c leaf c.requires.there in
    let now = c.take.ensures.entries ∙ ap (λ (p : PlainPage). with_entries p (removed c.args.key p.entries)) (is_leaf c leaf c.requires.there) in
    let lawful = lawful_removed c.self.inside.fan leaf (page_lawful (old c) c.args.n leaf c.self.invariant there) c.args.key c.requires.is_leaf in
    lawful_in_place (old c) c.args.n leaf there c.take.new.self c.self.invariant (subst (IsLawfulPage c.self.inside.fan) (sym now) lawful)
