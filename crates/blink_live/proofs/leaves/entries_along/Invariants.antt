use Rattle.std.proofs.Common.{◌+◌, ◌-◌, List, None, Some}
use Rattle.std.specs.Mem.Slots.{slots_items}
use Rattle.blink_machine.specs.{entries_from}
use Rattle.blink_page.specs.{least_above}
use Rattle.blink_page.specs.declared.limits.TheConstants.{GREATEST_KEY}
use Rattle.blink_rest.specs.{entries_along}
use Rattle.blink_rest.specs.Chain.{Cell}
use Rattle.blink_live.specs.Leaves.{AreLeaves}
use Rattle.blink_live.proofs.gathered.LeavesAreRead.{LeftToRead}
use Rattle.blink_live.proofs.leaves.entries_along.Given as goal

-- with the leaves from the link on, all entries would be read
abbrev pub invariant-loop-next : goal.invariant-loop-next
invariant-loop-next l = record {
  left : (cells : List Cell) → AreLeaves l.counts (slots_items l.closed.words) None (Some l.leftmost) cells
      → LeftToRead l.counts (slots_items l.closed.words) l.next.0 l.next.1 l.entries.items (entries_from (entries_along cells));
}

-- floors rise
abbrev pub decreases-loop-next : goal.decreases-loop-next
decreases-loop-next l = GREATEST_KEY + 1 - least_above l.next.0
