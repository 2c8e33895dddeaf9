use Rattle.blink_handles.specs.Sessions.{IsAtHand, IsOwnSession}
use Rattle.blink_handles.proofs.session_owner.SessionOwner.free.Given as goal

-- what is held is of the map. A session that had no operation under way has none
abbrev pub invariant-loop : goal.invariant-loop
invariant-loop l = record {
  its_own : IsOwnSession l.owner;
  at_hand : IsAtHand l.fn.self → IsAtHand l.owner;
}
