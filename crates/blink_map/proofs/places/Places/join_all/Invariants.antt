use Rattle.std.proofs.Common.{◌-◌, length}
use Rattle.std.specs.Prelude.{All, vec_capacity}
use Rattle.blink_map.specs.Joining.{map_at}
use Rattle.blink_map.specs.Sessions.{IsSessionOf}
use Rattle.blink_map.proofs.places.Places.join_all.Given as goal

abbrev pub invariant-loop-session : goal.invariant-loop-session
invariant-loop-session l = record {
  its_own : All (IsSessionOf (map_at l.self)) l.sessions.items;
}

abbrev pub decreases-loop-session : goal.decreases-loop-session
decreases-loop-session l = vec_capacity l.sessions - length l.sessions.items
