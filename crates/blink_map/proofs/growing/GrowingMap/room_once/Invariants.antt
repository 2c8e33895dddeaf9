use Rattle.std.proofs.Common.{◌≤◌}
use Rattle.blink_map.specs.Sessions.{places_of}
use Rattle.blink_map.proofs.growing.GrowingMap.room_once.Given as goal

abbrev pub invariant-loop-slot : goal.invariant-loop-slot
invariant-loop-slot l = record { inside : l.slot ≤ places_of l.self }

abbrev pub decreases-loop-slot : goal.decreases-loop-slot
decreases-loop-slot l = l.slot
