use Rattle.std.proofs.Common.{◌∙◌, sym}
use Rattle.blink_handles.proofs.PutsGoOn.{if_err, not_put_through, not_stepped, on_ok, put_through, tried_by_step}
use Rattle.blink_handles.proofs.session_owner.SessionOwner.put_on.Goals as goal

pub returns-in-Err-clause-refused : goal.returns-in-Err-clause-refused
returns-in-Err-clause-refused c = not_stepped c.args.put c.args.self.now c.step.new.self c.args.self.now.under_way c.in-Err.refusal c.requires.putting c.in-Err.ensures.refused

pub returns-clause-ended : goal.returns-clause-ended
returns-clause-ended c =
    let old = c.args.self.now in
    let mid = c.step.new.self in
    let seen = tried_by_step c.args.put old mid c.step.new.answer old.under_way c.requires.its_own.its_operation c.requires.putting (sym c.has_put.ensures ∙ c.if-has_put.false) c.in_default.ensures.ended in
    on_ok c.put_from.result (put_through old mid c.put_from.new.self seen c.args.put.0 c.args.put.1 c.put_from.new.answer) c.put_from.ensures.ended

pub returns-clause-refused : goal.returns-clause-refused
returns-clause-refused c =
    let old = c.args.self.now in
    let mid = c.step.new.self in
    let seen = tried_by_step c.args.put old mid c.step.new.answer old.under_way c.requires.its_own.its_operation c.requires.putting (sym c.has_put.ensures ∙ c.if-has_put.false) c.in_default.ensures.ended in
    if_err c.put_from.result (not_put_through old mid c.put_from.new.self seen c.args.put.0 c.args.put.1) c.put_from.ensures.refused
