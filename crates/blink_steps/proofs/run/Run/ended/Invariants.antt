use Rattle.std.proofs.Common.{◌≡◌, ℕ, ◌<◌, Some, None}
use Rattle.std.specs.List.{slice_get}
use Rattle.blink_steps.specs.Run.{idle_seat}
use Rattle.blink_steps.proofs.run.Run.ended.Given as goal

-- the workers so far have ended
abbrev pub invariant-loop-seat : goal.invariant-loop-seat
invariant-loop-seat l = (worker : ℕ) → worker < l.seat-index → slice_get l.seat-items worker ≡ Some (idle_seat None)
