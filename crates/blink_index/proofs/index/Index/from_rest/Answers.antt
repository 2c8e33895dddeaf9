use Rattle.std.proofs.Common.{subst, sym}
use Rattle.blink_rest.specs.{IsStoreAtRest}
use Rattle.blink_index.proofs.index.Index.from_rest.Goals as goal

pub leaf_counts-entries-requires : goal.leaf_counts-entries-requires
leaf_counts-entries-requires c = subst IsStoreAtRest (sym c.store.ensures.store) c.store.ensures.at_rest
