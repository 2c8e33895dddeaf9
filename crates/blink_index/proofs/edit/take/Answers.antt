use Rattle.std.proofs.Common.{◌≤◌, ◌∙◌, sym, subst, arith}
use Rattle.blink_operation.specs.declared.Op.TheVariants.{Delete}
use Rattle.blink_operation.specs.{answer_at}
use Rattle.blink_page.specs.declared.limits.TheConstants.{GREATEST_KEY}
use Rattle.blink_rest.specs.{IsStoreAtRest}
use Rattle.blink_store.specs.{IsLawfulStore, IsLeafOf, PlainStore}
use Rattle.blink_index.specs.Edit.{IsEdited}
use Rattle.blink_index.proofs.alone.EditsOfLeaves.{deletion_edits}
use Rattle.blink_index.proofs.edit.take.Goals as goal

pub leaf_number-number-requires : goal.leaf_number-number-requires
leaf_number-number-requires c = subst IsStoreAtRest (sym c.store.ensures.store) c.store.ensures.at_rest

-- the operation's change of the leaf
edited : (c : goal.After-take) → IsEdited c.rest.inside.store c.take.new.self (Delete c.args.key) (answer_at (Delete c.args.key) c.take.result)
edited c =
    let in_range : c.args.key ≤ GREATEST_KEY = omega (arith, c.ranges.key.fits) in
    let own = c.store.ensures.store ∙ sym c.rest.view_is in
    let leaf = subst (λ (store : PlainStore). IsLeafOf store c.leaf_number-number.result c.args.key) own c.leaf_number-number.ensures in
    let lawful = subst IsLawfulStore (sym c.rest.view_is) c.store.ensures.lawful in
    deletion_edits c.rest.inside.store c.take.new.self lawful c.rest.invariant c.leaf_number-number.result c.args.key leaf in_range c.ranges.key.fits
    c.take.result (c.take.ensures.value leaf.leaf leaf.there) (c.take.ensures.entries leaf.leaf leaf.there) c.take.ensures.unchanged

pub invariant_of-rest : goal.invariant_of-rest
invariant_of-rest c = (edited c).rests

pub returns-clause-edited : goal.returns-clause-edited
returns-clause-edited c = rw (← c.rest.view_is) (edited c)
