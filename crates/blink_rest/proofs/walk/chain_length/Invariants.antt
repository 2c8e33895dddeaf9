use Rattle.std.proofs.Common.{◌+◌, ◌-◌}
use Rattle.blink_page.specs.{least_above}
use Rattle.blink_page.specs.declared.limits.TheConstants.{GREATEST_KEY}
use Rattle.blink_store.specs.{page_of}
use Rattle.blink_rest.proofs.WalkAlongLevel.{Walked}
use Rattle.blink_rest.proofs.walk.chain_length.Given as goal

-- so many pages were met
abbrev pub invariant-loop-link : goal.invariant-loop-link
invariant-loop-link l = Walked l.store.fan (page_of l.store) l.level l.leftmost l.floor l.link l.count

-- the floor rises
abbrev pub decreases-loop-link : goal.decreases-loop-link
decreases-loop-link l = GREATEST_KEY + 1 - least_above l.floor
