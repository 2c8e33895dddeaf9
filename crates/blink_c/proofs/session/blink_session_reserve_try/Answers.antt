use Rattle.std.proofs.Common.{IfErr, subst}
use Rattle.blink_handles.specs.declared.session_owner.SessionOwner.{SessionOwner}
use Rattle.blink_handles.specs.MapCodes.{code_of}
use Rattle.blink_handles.specs.Sessions.{IsAway, TellsStock}
use Rattle.blink_c.proofs.Codes.{on_done, told_why}
use Rattle.blink_c.proofs.CodesOfMaps.{not_done}
use Rattle.blink_c.proofs.session.blink_session_reserve_try.Goals as goal

pub returns-clause-told : goal.returns-clause-told
returns-clause-told c zero =
    subst (λ (owner : SessionOwner). TellsStock owner c.stock.new.self c.stock.new.stock) c.get.ensures.value
    (on_done code_of not_done c.stock.result c.code_of.result c.code_of.ensures c.stock.ensures.told zero)

pub returns-clause-refused : goal.returns-clause-refused
returns-clause-refused c =
    told_why code_of (IsAway c.args.session.now.value c.stock.new.self) c.stock.result c.code_of.result c.code_of.ensures
    (subst (λ (owner : SessionOwner). IfErr c.stock.result (IsAway owner c.stock.new.self)) c.get.ensures.value c.stock.ensures.refused)
