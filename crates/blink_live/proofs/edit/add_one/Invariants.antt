use Rattle.blink_live.proofs.scanned.EntriesAreEdited.{HasMoved}
use Rattle.blink_live.proofs.edit.add_one.Given as goal

-- the entries from the place on have moved, and none of them has a lesser key
abbrev pub invariant-loop-at : goal.invariant-loop-at
invariant-loop-at l = HasMoved l.key l.filled l.at l.fn.leaf l.leaf

abbrev pub decreases-loop-at : goal.decreases-loop-at
decreases-loop-at l = l.at
