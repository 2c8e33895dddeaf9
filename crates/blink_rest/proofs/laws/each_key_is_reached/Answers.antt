use Rattle.blink_rest.proofs.EachLaw.{each_key_is_reached}
use Rattle.blink_rest.proofs.laws.each_key_is_reached.Goals as goal

pub returns : goal.returns
returns c = each_key_is_reached
