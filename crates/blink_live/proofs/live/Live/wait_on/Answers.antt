use Rattle.std.proofs.Common.{subst}
use Rattle.blink_live.specs.Straight.{HasCome}
use Rattle.blink_live.proofs.live.Live.wait_on.Goals as goal

pub resume-rested-requires-in-loop-clause-waits : goal.resume-rested-requires-in-loop-clause-waits
resume-rested-requires-in-loop-clause-waits g c =
    let is = c.requires.under_way in
    (subst (HasCome c.args.self.now is.0 is.1 c.loop.seat c.loop.room) c.in-Rests.is (c.loop.invariant.came is.0 is.1 is.2)).1
