use Rattle.blink_rest.proofs.EachLaw.{the_example_is_at_rest}
use Rattle.blink_rest.proofs.laws.the_example_is_at_rest.Goals as goal

pub returns : goal.returns
returns c = the_example_is_at_rest
