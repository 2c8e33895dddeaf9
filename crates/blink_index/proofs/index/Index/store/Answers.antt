use Rattle.std.proofs.Common.{subst}
use Rattle.blink_rest.specs.{IsStoreAtRest}
use Rattle.blink_index.proofs.index.Index.store.Goals as goal

-- the tree is that of the index
pub returns-clause-at_rest : goal.returns-clause-at_rest
returns-clause-at_rest c = subst IsStoreAtRest c.self.view_is c.store.ensures.at_rest
