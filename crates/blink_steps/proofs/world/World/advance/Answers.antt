use Rattle.std.proofs.Common.{subst}
use Rattle.blink_steps.specs.World.{IsWorld}
use Rattle.blink_steps.proofs.worlds.WorldsGoOn.{nearer}
use Rattle.blink_steps.proofs.world.World.advance.Goals as goal

pub returns-clause-nearer : goal.returns-clause-nearer
returns-clause-nearer c =
    let is = subst IsWorld c.self.view_is c.self.invariant in
    nearer is.0 c.args.self.now c.step.new.self c.args.worker c.in_ok-taken.taken is.1 c.in_ok-taken.ensures.step c.requires.would_move
