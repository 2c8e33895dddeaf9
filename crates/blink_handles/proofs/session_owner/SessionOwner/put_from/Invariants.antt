use Rattle.std.proofs.Common.{◌≡◌}
use Rattle.blink_batch.specs.{FitsWords}
use Rattle.blink_map.specs.{IsUpdate}
use Rattle.blink_handles.specs.Sessions.{HasSeenMore, IsOfPut, IsOwnSession}
use Rattle.blink_handles.proofs.session_owner.SessionOwner.put_from.Given as goal

-- nothing is put so far, though the session may have seen more
abbrev pub invariant-loop : goal.invariant-loop
invariant-loop l = record {
  its_own : IsOwnSession l.self;
  same : l.answer ≡ l.initial.answer;
  seen : HasSeenMore l.initial.self l.self;
  of_put : IsOfPut l.put.0 l.put.1 l.op;
  updates : IsUpdate l.op;
  fits : FitsWords l.op;
}
