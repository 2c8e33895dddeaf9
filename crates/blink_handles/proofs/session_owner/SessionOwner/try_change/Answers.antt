use Rattle.std.proofs.Common.{is_some, ap}
use Rattle.blink_handles.proofs.SessionsStay.{answers_untouched, not_made_untouched, on_err, on_ok}
use Rattle.blink_handles.proofs.session_owner.SessionOwner.try_change.Goals as goal

pub returns-clause-answered : goal.returns-clause-answered
returns-clause-answered c =
    let untouched = c.change_in_place.ensures.unchanged (ap is_some c.in_default.is) in
    on_ok c.start_change.result _ _
    (answers_untouched c.args.self.now c.change_in_place.new.self c.start_change.new.self c.args.op c.start_change.new.answer untouched)
    c.start_change.ensures.answered

pub returns-clause-refused : goal.returns-clause-refused
returns-clause-refused c =
    let untouched = c.change_in_place.ensures.unchanged (ap is_some c.in_default.is) in
    on_err c.start_change.result _ _
    (λ why. not_made_untouched c.args.op c.args.self.now c.change_in_place.new.self c.start_change.new.self why untouched)
    c.start_change.ensures.refused
