use Rattle.std.proofs.Common.{length}
use Rattle.std.specs.Prelude.{All}
use Rattle.blink_map.specs.Joining.{map_at}
use Rattle.blink_map.specs.Sessions.{IsSessionOf}
use Rattle.blink_map.proofs.places.Places.leave_all.Given as goal

abbrev pub invariant-loop-session : goal.invariant-loop-session
invariant-loop-session l = record {
  its_own : All (IsSessionOf (map_at l.self)) l.sessions.items;
}

abbrev pub decreases-loop-session : goal.decreases-loop-session
decreases-loop-session l = length l.sessions.items
