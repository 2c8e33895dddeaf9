use Rattle.std.proofs.Common.{◌≡◌, List, ◌++◌, length}
use Rattle.blink_map.specs.declared.growing.Session.{Session}
use Rattle.blink_map.specs.Closing.{HasJoined}
use Rattle.blink_map.proofs.growing.GrowingMap.join_all.Given as goal

-- those that are gone from the end of the list have joined
abbrev pub invariant-loop-session : goal.invariant-loop-session
invariant-loop-session l = record {
  joined : (last : List Session) × (l.initial.sessions.items ≡ l.sessions.items ++ last) × HasJoined last l.initial.seat l.seat;
}

abbrev pub decreases-loop-session : goal.decreases-loop-session
decreases-loop-session l = length l.sessions.items
