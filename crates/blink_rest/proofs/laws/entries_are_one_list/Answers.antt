use Rattle.blink_rest.proofs.EachLaw.{entries_are_one_list}
use Rattle.blink_rest.proofs.laws.entries_are_one_list.Goals as goal

pub returns : goal.returns
returns c = entries_are_one_list
