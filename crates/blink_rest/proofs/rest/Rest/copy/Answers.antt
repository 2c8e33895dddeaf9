use Rattle.std.proofs.Common.{sym, subst}
use Rattle.blink_rest.specs.Rest.{IsStoreAtRest}
use Rattle.blink_rest.proofs.rest.Rest.copy.Goals as goal

-- the copy is the same store, which is at rest
pub of-requires : goal.of-requires
of-requires c = subst IsStoreAtRest (sym c.in_ok-store.ensures.store) c.self.invariant
