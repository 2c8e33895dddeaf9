use Rattle.blink_rest.proofs.EachLaw.{search_ends_at_leaf}
use Rattle.blink_rest.proofs.laws.search_ends_at_leaf.Goals as goal

pub returns : goal.returns
returns c = search_ends_at_leaf
