use Rattle.blink_entries.proofs.Offered.{the_map_is_kept}
use Rattle.blink_index.proofs.index.Index.compact.Goals as goal

pub returns-in-Ok-clause-kept : goal.returns-in-Ok-clause-kept
returns-in-Ok-clause-kept c = let order = c.in-Ok.ensures.in_order in the_map_is_kept c.in-Ok.rest (order.levels, order.are)
