use Rattle.std.proofs.Common.{IfErr, subst}
use Rattle.blink_handles.specs.declared.session_owner.SessionOwner.{SessionOwner}
use Rattle.blink_handles.specs.MapCodes.{code_of}
use Rattle.blink_handles.specs.Sessions.{EndsFrom, IsAdvanceRefusal}
use Rattle.blink_c.proofs.Codes.{on_done, told_why}
use Rattle.blink_c.proofs.CodesOfMaps.{not_done}
use Rattle.blink_c.proofs.session.blink_session_advance.Goals as goal

pub returns-clause-ended : goal.returns-clause-ended
returns-clause-ended c zero =
    subst (λ (owner : SessionOwner). EndsFrom owner.under_way owner c.advance.new.self c.advance.new.answer) c.get.ensures.value
    (on_done code_of not_done c.advance.result c.code_of.result c.code_of.ensures c.advance.ensures.ended zero)

pub returns-clause-refused : goal.returns-clause-refused
returns-clause-refused c =
    told_why code_of (IsAdvanceRefusal c.args.session.now.value.under_way c.args.session.now.value c.advance.new.self) c.advance.result c.code_of.result c.code_of.ensures
    (subst (λ (owner : SessionOwner). IfErr c.advance.result (IsAdvanceRefusal owner.under_way owner c.advance.new.self)) c.get.ensures.value c.advance.ensures.refused)
