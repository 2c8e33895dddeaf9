use Rattle.std.proofs.Common.{subst, sym}
use Rattle.blink_rest.specs.{IsStoreAtRest}
use Rattle.blink_index.proofs.index.Index.dump.Goals as goal

pub tree_text-requires : goal.tree_text-requires
tree_text-requires c = subst IsStoreAtRest (sym c.store.ensures.store) c.store.ensures.at_rest
