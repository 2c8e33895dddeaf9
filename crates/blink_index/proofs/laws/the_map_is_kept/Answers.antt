use Rattle.blink_entries.proofs.Offered.{the_map_is_kept}
use Rattle.blink_index.proofs.laws.the_map_is_kept.Goals as goal

pub returns : goal.returns
returns c = the_map_is_kept
