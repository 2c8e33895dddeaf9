use Rattle.blink_entries.proofs.Offered.{no_other_map_is_kept}
use Rattle.blink_index.proofs.laws.no_other_map_is_kept.Goals as goal

pub returns : goal.returns
returns c = no_other_map_is_kept
