use Rattle.blink_live.proofs.scanned.EntriesAreEdited.{HasClosed}
use Rattle.blink_live.proofs.edit.remove_one.Given as goal

-- the entries between the place and the next one have moved
abbrev pub invariant-loop-next : goal.invariant-loop-next
invariant-loop-next l = HasClosed l.at l.next l.fn.leaf l.leaf
