use Rattle.std.proofs.Common.{◌≡◌, ◌≤◌, ◌<◌, None, Some, ap, length, subst, ◌∙◌, arith}
use Rattle.blink_page.specs.declared.limits.TheConstants.{GREATEST_KEY}
use Rattle.blink_page.specs.{PlainPage, added, value_at, with_entries}
use Rattle.blink_page.specs.Put.{OnDone, UnlessDone, IfPresent, UnlessPresent, OnFull}
use Rattle.blink_store.specs.Store.{PlainStore, page_of}
use Rattle.blink_store.proofs.LeavesInPlace.{page_at_place, lawful_in_place, written_if_done, put_lawful}
use Rattle.blink_store.proofs.PagesByNumber.{page_lawful}
use Rattle.blink_store.proofs.store.Store.put.Goals as goal

-- the store before
abbrev old : goal.After-self-1 → PlainStore
old c = record { fan = c.self.inside.fan; prime = c.self.inside.prime; pages = c.self.inside.pages.items }

leaf_there : (c : goal.After-self-1) (leaf : PlainPage) → page_of c.args.self.now c.args.n ≡ Some leaf → page_of (old c) c.args.n ≡ Some leaf
leaf_there c leaf there = ap (λ (store : PlainStore). page_of store c.args.n) c.self.view_is ∙ there

-- the leaf that was read
is_leaf : (c : goal.After-self-1) (leaf : PlainPage) → page_of c.args.self.now c.args.n ≡ Some leaf → c.index_mut-leaf.result.now ≡ leaf
is_leaf c leaf there = page_at_place (old c) c.args.n leaf c.index_mut-leaf.result.now (leaf_there c leaf there) c.index_mut-leaf.ensures.value

pub returns-clause-present : goal.returns-clause-present
returns-clause-present c = λ leaf there.
    subst (λ (p : PlainPage). IfPresent c.put.result (λ found. value_at c.args.key p.entries ≡ Some found)) (is_leaf c leaf there) c.put.ensures.present

pub returns-clause-absent : goal.returns-clause-absent
returns-clause-absent c = λ leaf there.
    subst (λ (p : PlainPage). UnlessPresent c.put.result (value_at c.args.key p.entries ≡ None)) (is_leaf c leaf there) c.put.ensures.absent

pub returns-clause-full : goal.returns-clause-full
returns-clause-full c = λ leaf there. rw (← c.self.view_is)
    (subst (λ (p : PlainPage). OnFull c.put.result (length p.entries ≡ c.self.inside.fan)) (is_leaf c leaf there) c.put.ensures.full)

pub returns-clause-room : goal.returns-clause-room
returns-clause-room c = λ leaf there. rw (← c.self.view_is)
    (subst (λ (p : PlainPage). OnDone c.put.result (length p.entries < c.self.inside.fan)) (is_leaf c leaf there) c.put.ensures.room)

pub returns-clause-done : goal.returns-clause-done
returns-clause-done c = λ leaf there.
    let now = subst (λ (p : PlainPage). OnDone c.put.result (c.put.new.self ≡ with_entries p (added (c.args.key, c.args.value) p.entries))) (is_leaf c leaf there) c.put.ensures.done in
    rw (← c.self.view_is) (written_if_done (old c) c.args.n leaf (leaf_there c leaf there) c.put.new.self c.put.result _ now)

pub invariant_of-self : goal.invariant_of-self
invariant_of-self c =
    let leaf = c.requires.leaf in
    let there = leaf_there c leaf c.requires.there in
    let read = is_leaf c leaf c.requires.there in
    let fits : c.args.value ≤ GREATEST_KEY = omega (arith, c.ranges.value.fits) in
    let now = subst (λ (p : PlainPage). OnDone c.put.result (c.put.new.self ≡ with_entries p (added (c.args.key, c.args.value) p.entries))) read c.put.ensures.done in
    let same = subst (λ (p : PlainPage). UnlessDone c.put.result (c.put.new.self ≡ p)) read c.put.ensures.unchanged in
    let absent = subst (λ (p : PlainPage). UnlessPresent c.put.result (value_at c.args.key p.entries ≡ None)) read c.put.ensures.absent in
    let room = subst (λ (p : PlainPage). OnDone c.put.result (length p.entries < c.self.inside.fan)) read c.put.ensures.room in
    lawful_in_place (old c) c.args.n leaf there c.put.new.self c.self.invariant
    (put_lawful c.self.inside.fan leaf (page_lawful (old c) c.args.n leaf c.self.invariant there) c.args.key c.args.value c.requires.belongs c.requires.is_leaf fits c.put.new.self
    c.put.result absent room now same)
