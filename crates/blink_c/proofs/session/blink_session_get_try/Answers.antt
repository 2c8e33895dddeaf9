use Rattle.std.proofs.Common.{IfErr, subst}
use Rattle.blink_handles.specs.declared.session_owner.SessionOwner.{SessionOwner}
use Rattle.blink_handles.specs.MapCodes.{code_of}
use Rattle.blink_handles.specs.Sessions.{Finds, IsAway}
use Rattle.blink_c.proofs.Codes.{on_done, told_why}
use Rattle.blink_c.proofs.CodesOfMaps.{not_done}
use Rattle.blink_c.proofs.session.blink_session_get_try.Goals as goal

pub returns-clause-found : goal.returns-clause-found
returns-clause-found c zero =
    subst (λ (owner : SessionOwner). Finds c.args.key owner c.find.new.self c.find.new.answer) c.get.ensures.value
    (on_done code_of not_done c.find.result c.code_of.result c.code_of.ensures c.find.ensures.found zero)

pub returns-clause-refused : goal.returns-clause-refused
returns-clause-refused c =
    told_why code_of (IsAway c.args.session.now.value c.find.new.self) c.find.result c.code_of.result c.code_of.ensures
    (subst (λ (owner : SessionOwner). IfErr c.find.result (IsAway owner c.find.new.self)) c.get.ensures.value c.find.ensures.refused)
