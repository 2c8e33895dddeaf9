use Rattle.std.proofs.Common.{subst}
use Rattle.blink_live.specs.Straight.{HasCome}
use Rattle.blink_live.proofs.changed.UpdatesGoOn.{at_end}
use Rattle.blink_live.proofs.live.Live.update.Goals as goal

pub returns-in-Ended : goal.returns-in-Ended
returns-in-Ended g c =
    let came = subst (HasCome c.args.self.now c.args.op c.args.seat.now c.change_by.new.seat c.change_by.new.room) c.in-Ended.is c.change_by.ensures.came in
    record { ended = at_end c.args.self.now c.args.op c.args.seat.now c.change_by.new.seat came.0 c.change_by.new.room c.in-Ended.answer came.1 came.2 came.3 }

pub wait_on-requires : goal.wait_on-requires
wait_on-requires g c =
    let came = subst (HasCome c.args.self.now c.args.op c.args.seat.now c.change_by.new.seat c.change_by.new.room) c.in-Rests.is c.change_by.ensures.came in
    record { under_way = (c.args.op, c.args.seat.now, came.0); waits = came.1 }

pub returns : goal.returns
returns g c =
    let came = subst (HasCome c.args.self.now c.args.op c.args.seat.now c.change_by.new.seat c.change_by.new.room) c.in-Rests.is c.change_by.ensures.came in
    let ended = c.wait_on.ensures.ended c.args.op c.args.seat.now came.0 in
    record { ended = at_end c.args.self.now c.args.op c.args.seat.now c.wait_on.new.seat ended.0 c.wait_on.new.room c.wait_on.result ended.1 ended.2 ended.3 }
