use Rattle.std.proofs.Common.{◌≡◌, ℕ, ◌<◌, ◌≤◌, length, option_map, vec_capacity}
use Rattle.std.specs.List.{slice_get}
use Rattle.blink_steps.specs.Run.{idle_seat}
use Rattle.blink_steps.proofs.run.idle_seats.Given as goal

-- the workers so far sit, each with its first place
abbrev pub invariant-loop-worker : goal.invariant-loop-worker
invariant-loop-worker l = record {
  reserved : l.workers ≤ vec_capacity l.seats;
  a_seat_each : length l.seats.items ≡ l.worker;
  all_idle : (other : ℕ) → other < l.worker → slice_get l.seats.items other ≡ option_map idle_seat (slice_get l.fn.firsts other);
}
