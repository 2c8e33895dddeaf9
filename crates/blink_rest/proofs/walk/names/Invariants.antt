use Rattle.blink_store.specs.{page_of}
use Rattle.blink_rest.proofs.ComparedLevels.{Compared, keys_left}
use Rattle.blink_rest.proofs.walk.names.Given as goal

-- the pages so far name the first below
abbrev pub invariant-loop-above : goal.invariant-loop-above
invariant-loop-above l = Compared l.store.fan (page_of l.store) l.upper l.lower l.above l.below

abbrev pub decreases-loop-above : goal.decreases-loop-above
decreases-loop-above l = keys_left (page_of l.store) l.above
