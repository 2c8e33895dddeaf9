use Rattle.std.proofs.Common.{◌∙◌, sym}
use Rattle.blink_handles.proofs.PutsGoOn.{not_put_through, put_then}
use Rattle.blink_handles.proofs.session_owner.SessionOwner.put_from.Goals as goal

pub returns-then-has_put-clause-ended : goal.returns-then-has_put-clause-ended
returns-then-has_put-clause-ended c =
    let kept = c.loop.invariant in
    put_then c.args.self.now c.loop.self c.put_by.new.self c.args.put.0 c.args.put.1 c.loop.op c.in-Ok.given kept.seen kept.of_put (sym c.has_put.ensures ∙ c.if-has_put.true) c.in-Ok.ensures.ended

pub returns-in-Err-clause-refused : goal.returns-in-Err-clause-refused
returns-in-Err-clause-refused c = not_put_through c.args.self.now c.loop.self c.put_by.new.self c.loop.invariant.seen c.args.put.0 c.args.put.1 c.in-Err.refusal c.in-Err.ensures.refused
