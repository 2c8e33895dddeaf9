use Rattle.std.proofs.Common.{◌∙◌, refl, sym, subst}
use Rattle.blink_machine.specs.{PlainMachine}
use Rattle.blink_live.specs.Pendings.{IsWaiting}
use Rattle.blink_live.specs.Updating.{IsUnderWay}
use Rattle.blink_live.proofs.live.Live.set_out.Goals as goal

pub returns-clause-under_way : goal.returns-clause-under_way
returns-clause-under_way c = subst (λ (m : PlainMachine). IsUnderWay c.args.self.now c.args.op c.args.seat.now c.set_off.new.seat m c.args.room.now) (sym (c.rest.ensures ∙ c.machine_at.ensures)) c.set_off.ensures

pub returns-clause-waits : goal.returns-clause-waits
returns-clause-waits c = subst IsWaiting (sym (c.rest.ensures ∙ c.machine_at.ensures)) (IsWaiting.for_latch c.set_off.new.descent.leaf refl)
