use Rattle.std.proofs.Common.{IfErr, subst}
use Rattle.blink_handles.specs.declared.session_owner.SessionOwner.{SessionOwner}
use Rattle.blink_handles.specs.MapCodes.{code_of}
use Rattle.blink_handles.specs.Sessions.{IsAway, Scans}
use Rattle.blink_c.proofs.Codes.{on_done, told_why}
use Rattle.blink_c.proofs.CodesOfMaps.{not_done}
use Rattle.blink_c.proofs.session.blink_session_scan_try.Goals as goal

pub returns-clause-scanned : goal.returns-clause-scanned
returns-clause-scanned c zero =
    subst (λ (owner : SessionOwner). Scans c.args.lo c.args.hi owner c.scan.new.self c.args.entries.now c.scan.new.entries c.scan.new.scanned) c.get.ensures.value
    (on_done code_of not_done c.scan.result c.code_of.result c.code_of.ensures c.scan.ensures.scanned zero)

pub returns-clause-refused : goal.returns-clause-refused
returns-clause-refused c =
    told_why code_of (IsAway c.args.session.now.value c.scan.new.self) c.scan.result c.code_of.result c.code_of.ensures
    (subst (λ (owner : SessionOwner). IfErr c.scan.result (IsAway owner c.scan.new.self)) c.get.ensures.value c.scan.ensures.refused)
