use Rattle.std.proofs.Common.{◌≤◌, ◌∙◌, sym, subst, arith}
use Rattle.blink_page.specs.declared.limits.TheConstants.{GREATEST_KEY}
use Rattle.blink_rest.specs.{IsStoreAtRest}
use Rattle.blink_store.specs.{IsLawfulStore, IsLeafOf, PlainStore}
use Rattle.blink_index.proofs.alone.EditsOfLeaves.{put_adds, put_finds, put_rests, put_splits}
use Rattle.blink_index.proofs.edit.put.Goals as goal

pub leaf_number-number-requires : goal.leaf_number-number-requires
leaf_number-number-requires c = subst IsStoreAtRest (sym c.store.ensures.store) c.store.ensures.at_rest

-- the leaf is one of the tree's store
in_range : (c : goal.After-put) → c.args.key ≤ GREATEST_KEY
in_range c = omega (arith, c.ranges.key.fits)

leaf : (c : goal.After-put) → IsLeafOf c.rest.inside.store c.leaf_number-number.result c.args.key
leaf c = subst (λ (store : PlainStore). IsLeafOf store c.leaf_number-number.result c.args.key) (c.store.ensures.store ∙ sym c.rest.view_is) c.leaf_number-number.ensures

lawful : (c : goal.After-put) → IsLawfulStore c.rest.inside.store
lawful c = subst IsLawfulStore (sym c.rest.view_is) c.store.ensures.lawful

pub invariant_of-rest : goal.invariant_of-rest
invariant_of-rest c =
    let at = leaf c in
    put_rests c.rest.inside.store c.put.new.self (lawful c) c.rest.invariant c.leaf_number-number.result c.args.key at (in_range c) c.args.pointer (c.ranges.key.fits, c.ranges.pointer.fits)
    c.put.result (c.put.ensures.absent at.leaf at.there) (c.put.ensures.room at.leaf at.there) (c.put.ensures.done at.leaf at.there) c.put.ensures.unchanged

pub returns-clause-added : goal.returns-clause-added
returns-clause-added c =
    let at = leaf c in
    rw (← c.rest.view_is)
    (put_adds c.rest.inside.store c.put.new.self (lawful c) c.rest.invariant c.leaf_number-number.result c.args.key at (in_range c) c.args.pointer (c.ranges.key.fits, c.ranges.pointer.fits)
    c.put.result (c.put.ensures.absent at.leaf at.there) (c.put.ensures.room at.leaf at.there) (c.put.ensures.done at.leaf at.there))

pub returns-clause-found : goal.returns-clause-found
returns-clause-found c =
    let at = leaf c in
    rw (← c.rest.view_is)
    (put_finds c.rest.inside.store c.put.new.self (lawful c) c.rest.invariant c.leaf_number-number.result c.args.key at (in_range c) c.args.pointer (c.ranges.key.fits, c.ranges.pointer.fits)
    c.put.result (c.put.ensures.present at.leaf at.there) c.put.ensures.unchanged)

pub returns-clause-full : goal.returns-clause-full
returns-clause-full c =
    let at = leaf c in
    rw (← c.rest.view_is)
    (put_splits c.rest.inside.store c.put.new.self (lawful c) c.rest.invariant c.leaf_number-number.result c.args.key at (in_range c) c.args.pointer (c.ranges.key.fits, c.ranges.pointer.fits)
    c.put.result (c.put.ensures.absent at.leaf at.there) (c.put.ensures.full at.leaf at.there))
