use Rattle.blink_rest.proofs.EachLaw.{levels_are_few}
use Rattle.blink_rest.proofs.laws.levels_are_few.Goals as goal

pub returns : goal.returns
returns c = levels_are_few
