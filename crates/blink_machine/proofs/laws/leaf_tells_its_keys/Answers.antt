use Rattle.blink_machine.proofs.law.LeafTellsItsKeys.{leaf_tells_its_keys}
use Rattle.blink_machine.proofs.laws.leaf_tells_its_keys.Goals as goal

pub returns : goal.returns
returns c = leaf_tells_its_keys
