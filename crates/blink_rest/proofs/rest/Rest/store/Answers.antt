use Rattle.std.proofs.Common.{subst}
use Rattle.blink_store.specs.{IsLawfulStore}
use Rattle.blink_rest.specs.Rest.{IsStoreAtRest}
use Rattle.blink_rest.proofs.EachLaw.{levels_are_few}
use Rattle.blink_rest.proofs.rest.Rest.store.Goals as goal

pub returns-clause-at_rest : goal.returns-clause-at_rest
returns-clause-at_rest c = subst IsStoreAtRest c.self.view_is c.self.invariant

pub returns-clause-few_levels : goal.returns-clause-few_levels
returns-clause-few_levels c =
    levels_are_few c.args.self.now (subst IsLawfulStore c.self.view_is c.pages-count.ensures.lawful) (subst IsStoreAtRest c.self.view_is c.self.invariant)
