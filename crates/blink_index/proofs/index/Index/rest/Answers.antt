use Rattle.blink_entries.proofs.Offered.{the_map_is_kept}
use Rattle.blink_index.proofs.index.Index.rest.Goals as goal

-- the tree is at rest, so it has its plain map
pub returns-clause-map : goal.returns-clause-map
returns-clause-map c = the_map_is_kept c.args.self.now c.store-store.ensures.at_rest
