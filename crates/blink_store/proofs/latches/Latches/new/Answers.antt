use Rattle.blink_store.proofs.ChangedHolders.{none_held_by_one, none_held_below}
use Rattle.blink_store.proofs.latches.Latches.new.Goals as goal

pub invariant_of-result : goal.invariant_of-result
invariant_of-result c = (none_held_by_one, none_held_below)
