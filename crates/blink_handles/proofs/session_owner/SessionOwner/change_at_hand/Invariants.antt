use Rattle.std.proofs.Common.{◌≡◌}
use Rattle.blink_handles.specs.Sessions.{IsOwnSession, SeesMore}
use Rattle.blink_handles.proofs.session_owner.SessionOwner.change_at_hand.Given as goal

-- nothing is changed so far, though the session may have seen more
abbrev pub invariant-loop : goal.invariant-loop
invariant-loop l = record {
  its_own : IsOwnSession l.self;
  same : l.answer ≡ l.initial.answer;
  sees : SeesMore l.initial.self l.self;
}
