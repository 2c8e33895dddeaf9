use Rattle.blink_show.specs.Draw.{AreMovers}
use Rattle.blink_show.proofs.draw.movers.Given as goal

-- the workers so far are looked at
abbrev pub invariant-loop-worker : goal.invariant-loop-worker
invariant-loop-worker l = AreMovers l.world.run l.worker l.movers.items
