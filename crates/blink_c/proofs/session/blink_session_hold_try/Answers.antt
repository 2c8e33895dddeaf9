use Rattle.std.proofs.Common.{IfErr, subst}
use Rattle.blink_handles.specs.declared.session_owner.SessionOwner.{SessionOwner}
use Rattle.blink_handles.specs.MapCodes.{code_of}
use Rattle.blink_handles.specs.Sessions.{IsAway, SeesMore}
use Rattle.blink_c.proofs.Codes.{on_done, told_why}
use Rattle.blink_c.proofs.CodesOfMaps.{not_done}
use Rattle.blink_c.proofs.session.blink_session_hold_try.Goals as goal

pub returns-clause-held : goal.returns-clause-held
returns-clause-held c zero =
    subst (λ (owner : SessionOwner). SeesMore owner c.hold.new.self) c.get.ensures.value
    (on_done code_of not_done c.hold.result c.code_of.result c.code_of.ensures c.hold.ensures.held zero)

pub returns-clause-refused : goal.returns-clause-refused
returns-clause-refused c =
    told_why code_of (IsAway c.args.session.now.value c.hold.new.self) c.hold.result c.code_of.result c.code_of.ensures
    (subst (λ (owner : SessionOwner). IfErr c.hold.result (IsAway owner c.hold.new.self)) c.get.ensures.value c.hold.ensures.refused)
