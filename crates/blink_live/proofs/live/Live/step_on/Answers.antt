use Rattle.std.proofs.Common.{sym, subst}
use Rattle.blink_machine.specs.{PlainMachine}
use Rattle.blink_live.specs.Pendings.{IsWaiting}
use Rattle.blink_live.specs.Updating.{IsUnderWay}
use Rattle.blink_live.proofs.live.Live.step_on.Goals as goal

pub take_steps-requires-clause-under_way : goal.take_steps-requires-clause-under_way
take_steps-requires-clause-under_way c =
    let is = c.requires.under_way in
    (is.0, is.1, subst (λ (m : PlainMachine). IsUnderWay c.args.self.now is.0 is.1 c.args.seat.now m c.args.room.now) (sym c.resume-machine.ensures) is.2)

pub take_steps-requires-clause-waits : goal.take_steps-requires-clause-waits
take_steps-requires-clause-waits c = subst IsWaiting (sym c.resume-machine.ensures) c.requires.waits

pub returns-in-Some : goal.returns-in-Some
returns-in-Some c op first is =
    let ends = c.in-Some.ensures.ended in
    let then = c.take_steps.ensures.under_way op first (subst (λ (m : PlainMachine). IsUnderWay c.args.self.now op first c.args.seat.now m c.args.room.now) (sym c.resume-machine.ensures) is) in
    (c.take_steps.new.machine, then, ends.0, ends.1)

pub returns-in-None : goal.returns-in-None
returns-in-None c op first is =
    let then = c.take_steps.ensures.under_way op first (subst (λ (m : PlainMachine). IsUnderWay c.args.self.now op first c.args.seat.now m c.args.room.now) (sym c.resume-machine.ensures) is) in
    (subst (λ (m : PlainMachine). IsUnderWay c.args.self.now op first c.take_steps.new.seat m c.take_steps.new.room) (sym c.rest.ensures) then, subst IsWaiting (sym c.rest.ensures) c.in-None.ensures.waits)
