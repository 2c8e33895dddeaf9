use Rattle.std.proofs.Common.{IfErr, subst}
use Rattle.blink_handles.specs.declared.session_owner.SessionOwner.{SessionOwner}
use Rattle.blink_handles.specs.MapCodes.{code_of}
use Rattle.blink_handles.specs.Sessions.{Answers, IsChangeRefusal}
use Rattle.blink_c.proofs.Codes.{on_done, on_refusal, told_why}
use Rattle.blink_c.proofs.CodesOfMaps.{not_done}
use Rattle.blink_c.proofs.session.change.Goals as goal

pub returns : goal.returns
returns c = record {
  its_own = c.change.ensures.its_own;
  answered = λ zero. subst (λ (owner : SessionOwner). Answers c.args.op owner c.change.new.self c.change.new.answer) c.get.ensures.value
      (on_done code_of not_done c.change.result c.code_of.result c.code_of.ensures c.change.ensures.answered zero);
  refused = told_why code_of (IsChangeRefusal c.args.op c.args.session.now.value c.change.new.self) c.change.result c.code_of.result c.code_of.ensures
      (subst (λ (owner : SessionOwner). IfErr c.change.result (IsChangeRefusal c.args.op owner c.change.new.self)) c.get.ensures.value c.change.ensures.refused);
  unchanged = on_refusal code_of c.change.result c.code_of.result c.code_of.ensures c.change.ensures.unchanged;
}
