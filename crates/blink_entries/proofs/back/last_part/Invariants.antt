use Rattle.std.proofs.Common.{◌≡◌}
use Rattle.blink_page.specs.{least_above}
use Rattle.blink_entries.specs.Back.{entries_within}
use Rattle.blink_entries.specs.Index.{map_of}
use Rattle.blink_entries.proofs.back.last_part.Given as goal

-- the leaves passed so far have no entry of the range
abbrev pub invariant-leaves : goal.invariant-leaves
invariant-leaves l = entries_within l.lo l.fn.from (map_of l.store) ≡ entries_within l.lo l.hi (map_of l.store)

-- each leaf ends below the one after it
abbrev pub decreases-leaves : goal.decreases-leaves
decreases-leaves l = least_above l.hi
