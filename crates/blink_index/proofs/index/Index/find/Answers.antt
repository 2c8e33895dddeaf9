use Rattle.std.proofs.Common.{◌≤◌, ◌∙◌, sym, subst, arith}
use Rattle.blink_page.specs.declared.limits.TheConstants.{GREATEST_KEY}
use Rattle.blink_store.specs.{PlainStore}
use Rattle.blink_rest.specs.{IsStoreAtRest}
use Rattle.blink_entries.specs.{IsLeafFor}
use Rattle.blink_entries.proofs.Offered.{leaf_value, leaf_pointer}
use Rattle.blink_index.proofs.index.Index.find.Goals as goal

pub leaf_for-requires : goal.leaf_for-requires
leaf_for-requires c = subst IsStoreAtRest (sym c.store.ensures.store) c.store.ensures.at_rest

is_leaf : (c : goal.After-look) → IsLeafFor c.args.self.now c.args.key c.leaf_for.result.now
is_leaf c = subst (λ (store : PlainStore). IsLeafFor store c.args.key c.leaf_for.result.now) c.store.ensures.store c.leaf_for.ensures

-- the leaf has the key's entry, if there is one
pub returns-clause-pointer : goal.returns-clause-pointer
returns-clause-pointer c =
    let in_range : c.args.key ≤ GREATEST_KEY = omega (arith, c.ranges.key.fits) in
    c.look.ensures ∙ sym (leaf_pointer c.args.self.now c.store.ensures.at_rest c.args.key in_range c.leaf_for.result.now (is_leaf c))

pub returns-clause-entry : goal.returns-clause-entry
returns-clause-entry c = λ entries are.
    let in_range : c.args.key ≤ GREATEST_KEY = omega (arith, c.ranges.key.fits) in
    c.look.ensures ∙ sym (leaf_value c.args.self.now c.store.ensures.at_rest c.args.key in_range c.leaf_for.result.now entries (is_leaf c) are)
