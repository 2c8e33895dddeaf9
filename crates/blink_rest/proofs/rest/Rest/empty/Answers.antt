use Rattle.std.proofs.Common.{sym, subst}
use Rattle.blink_rest.specs.Rest.{IsStoreAtRest}
use Rattle.blink_rest.proofs.EachLaw.{new_store_at_rest}
use Rattle.blink_rest.proofs.rest.Rest.empty.Goals as goal

pub of-requires : goal.of-requires
of-requires c = subst IsStoreAtRest (sym c.in-Ok.ensures.store) (new_store_at_rest c.args.fan)
