use Rattle.std.proofs.Common.{ℕ, ◌<◌}
use Rattle.blink_steps.specs.Pick.{WouldMove}
use Rattle.blink_steps.proofs.run.Run.pick.Given as goal

-- none of the workers so far would move
abbrev pub invariant-loop-worker : goal.invariant-loop-worker
invariant-loop-worker l = (other : ℕ) → other < l.worker → ¬ WouldMove l.self other
