use Rattle.std.proofs.Common.{subst, sym}
use Rattle.blink_handles.specs.declared.session_owner.SessionOwner.{SessionOwner}
use Rattle.blink_handles.specs.Sessions.{IsNotPut, IsOwnSession}
use Rattle.blink_handles.proofs.PutsGoOn.{not_put_by, own_putting}
use Rattle.blink_handles.proofs.session_owner.SessionOwner.put_by.Goals as goal

pub returns-in-Err-clause-its_own : goal.returns-in-Err-clause-its_own
returns-in-Err-clause-its_own c =
    let why = c.in-Err.ensures in
    subst IsOwnSession (sym c.keep_putting.ensures)
    (own_putting c.args.put c.args.self.now c.change_at_hand.new.self c.args.op c.in-Err.refusal c.requires.at_hand why.its_own c.requires.of_put why.refused)

pub returns-in-Err-clause-refused : goal.returns-in-Err-clause-refused
returns-in-Err-clause-refused c =
    let old = c.args.self.now in
    subst (λ (owner : SessionOwner). IsNotPut c.args.put.0 c.args.put.1 old owner c.in-Err.refusal) (sym c.keep_putting.ensures)
    (not_put_by c.args.put old c.change_at_hand.new.self c.args.op c.in-Err.refusal c.requires.at_hand c.in-Err.ensures.refused)
