use Rattle.std.proofs.Common.{IfErr, subst}
use Rattle.blink_handles.specs.declared.session_owner.SessionOwner.{SessionOwner}
use Rattle.blink_handles.specs.MapCodes.{code_of}
use Rattle.blink_handles.specs.Sessions.{IsTakeRefusal, Takes}
use Rattle.blink_c.proofs.Codes.{on_done, told_why}
use Rattle.blink_c.proofs.CodesOfMaps.{not_done}
use Rattle.blink_c.proofs.session.blink_session_snapshot_try.Goals as goal

pub returns-clause-taken : goal.returns-clause-taken
returns-clause-taken c zero =
    subst (λ (owner : SessionOwner). Takes c.args.lo c.args.hi owner c.snapshot.new.self c.args.entries.now c.snapshot.new.entries c.snapshot.new.taken) c.get.ensures.value
    (on_done code_of not_done c.snapshot.result c.code_of.result c.code_of.ensures c.snapshot.ensures.taken zero)

pub returns-clause-refused : goal.returns-clause-refused
returns-clause-refused c =
    told_why code_of (IsTakeRefusal c.args.session.now.value c.snapshot.new.self) c.snapshot.result c.code_of.result c.code_of.ensures
    (subst (λ (owner : SessionOwner). IfErr c.snapshot.result (IsTakeRefusal owner c.snapshot.new.self)) c.get.ensures.value c.snapshot.ensures.refused)
