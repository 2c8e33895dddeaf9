use Rattle.std.proofs.Common.{subst, sym}
use Rattle.blink_rest.specs.{IsStoreAtRest}
use Rattle.blink_entries.proofs.Offered.{brings_in_order, the_map_is_kept}
use Rattle.blink_index.proofs.index.Index.scan_back.Goals as goal

pub new-requires : goal.new-requires
new-requires c = subst IsStoreAtRest (sym c.store.ensures.store) c.store.ensures.at_rest

pub returns-clause-runs : goal.returns-clause-runs
returns-clause-runs c = brings_in_order

pub returns-clause-map : goal.returns-clause-map
returns-clause-map c = the_map_is_kept c.args.self.now c.store.ensures.at_rest
