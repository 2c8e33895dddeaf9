use Rattle.blink_rest.proofs.EachLaw.{entries_exist_at_rest}
use Rattle.blink_rest.proofs.laws.entries_exist_at_rest.Goals as goal

pub returns : goal.returns
returns c = entries_exist_at_rest
