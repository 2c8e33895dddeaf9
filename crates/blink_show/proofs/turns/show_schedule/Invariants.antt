use Rattle.std.proofs.Common.{◌≡◌, take, string_bytes}
use Rattle.blink_show.specs.Keeping.{Keeps}
use Rattle.blink_show.specs.Turns.{AddsSchedule}
use Rattle.blink_show.proofs.turns.show_schedule.Given as goal

-- the turns so far are shown
abbrev pub invariant-loop-worker : goal.invariant-loop-worker
invariant-loop-worker l = record {
  kept : Keeps l.film l.world.run;
  same_assignment : l.world.run.assignment ≡ l.initial.world.run.assignment;
  shown : AddsSchedule l.initial.world (take l.worker-index l.schedule) l.world (string_bytes l.initial.film.text) (string_bytes l.film.text);
}
