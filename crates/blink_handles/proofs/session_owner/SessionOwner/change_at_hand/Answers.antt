use Rattle.std.proofs.Common.{subst}
use Rattle.blink_handles.specs.Sessions.{IsNotMade}
use Rattle.blink_handles.proofs.SessionsStay.{refused_through}
use Rattle.blink_handles.proofs.session_owner.SessionOwner.change_at_hand.Goals as goal

pub returns-in-Err-Refused-clause-refused : goal.returns-in-Err-Refused-clause-refused
returns-in-Err-Refused-clause-refused c =
    let new = c.try_change.new.self in
    refused_through c.args.op c.args.self.now c.loop.self new c.in-Err-Refused.refusal c.loop.invariant.sees
    (subst (IsNotMade c.args.op c.loop.self new) c.in-Err-Refused.field-0-is c.in-Err-Refused.ensures.refused)
