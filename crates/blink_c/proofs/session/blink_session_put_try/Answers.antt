use Rattle.std.proofs.Common.{IfErr, subst}
use Rattle.blink_handles.specs.declared.session_owner.SessionOwner.{SessionOwner}
use Rattle.blink_handles.specs.MapCodes.{code_of}
use Rattle.blink_handles.specs.Sessions.{IsPutRefusal, Puts}
use Rattle.blink_c.proofs.Codes.{on_done, told_why}
use Rattle.blink_c.proofs.CodesOfMaps.{not_done}
use Rattle.blink_c.proofs.session.blink_session_put_try.Goals as goal

pub returns-clause-put : goal.returns-clause-put
returns-clause-put c zero =
    subst (λ (owner : SessionOwner). Puts c.args.key c.args.pointer owner c.put.new.self c.put.new.answer) c.get.ensures.value
    (on_done code_of not_done c.put.result c.code_of.result c.code_of.ensures c.put.ensures.put zero)

pub returns-clause-refused : goal.returns-clause-refused
returns-clause-refused c =
    told_why code_of (IsPutRefusal c.args.key c.args.pointer c.args.session.now.value c.put.new.self) c.put.result c.code_of.result c.code_of.ensures
    (subst (λ (owner : SessionOwner). IfErr c.put.result (IsPutRefusal c.args.key c.args.pointer owner c.put.new.self)) c.get.ensures.value c.put.ensures.refused)
