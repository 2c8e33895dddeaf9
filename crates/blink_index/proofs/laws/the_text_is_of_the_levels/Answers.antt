use Rattle.blink_entries.proofs.Offered.{the_text_is_of_the_levels}
use Rattle.blink_index.proofs.laws.the_text_is_of_the_levels.Goals as goal

pub returns : goal.returns
returns c = the_text_is_of_the_levels
