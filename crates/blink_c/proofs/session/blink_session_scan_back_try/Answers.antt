use Rattle.std.proofs.Common.{IfErr, subst}
use Rattle.blink_handles.specs.declared.session_owner.SessionOwner.{SessionOwner}
use Rattle.blink_handles.specs.MapCodes.{code_of}
use Rattle.blink_handles.specs.Sessions.{IsAway, ScansBack}
use Rattle.blink_c.proofs.Codes.{on_done, told_why}
use Rattle.blink_c.proofs.CodesOfMaps.{not_done}
use Rattle.blink_c.proofs.session.blink_session_scan_back_try.Goals as goal

pub returns-clause-scanned : goal.returns-clause-scanned
returns-clause-scanned c zero =
    subst (λ (owner : SessionOwner). ScansBack c.args.lo c.args.hi owner c.scan_back.new.self c.args.entries.now c.scan_back.new.entries c.scan_back.new.scanned) c.get.ensures.value
    (on_done code_of not_done c.scan_back.result c.code_of.result c.code_of.ensures c.scan_back.ensures.scanned zero)

pub returns-clause-refused : goal.returns-clause-refused
returns-clause-refused c =
    told_why code_of (IsAway c.args.session.now.value c.scan_back.new.self) c.scan_back.result c.code_of.result c.code_of.ensures
    (subst (λ (owner : SessionOwner). IfErr c.scan_back.result (IsAway owner c.scan_back.new.self)) c.get.ensures.value c.scan_back.ensures.refused)
