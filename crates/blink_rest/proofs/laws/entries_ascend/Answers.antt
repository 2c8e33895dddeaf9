use Rattle.blink_rest.proofs.EachLaw.{entries_ascend}
use Rattle.blink_rest.proofs.laws.entries_ascend.Goals as goal

pub returns : goal.returns
returns c = entries_ascend
