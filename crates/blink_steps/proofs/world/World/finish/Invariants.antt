use Rattle.blink_steps.specs.Pick.{GoesOnPicked, steps_left}
use Rattle.blink_steps.proofs.world.World.finish.Given as goal

-- the world has gone on by picked turns
abbrev pub invariant-loop-worker : goal.invariant-loop-worker
invariant-loop-worker l = GoesOnPicked l.fn.self l.self

abbrev pub decreases-loop-worker : goal.decreases-loop-worker
decreases-loop-worker l = steps_left l.self.run
