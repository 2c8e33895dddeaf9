use Rattle.std.proofs.Common.{string_bytes}
use Rattle.blink_steps.specs.{steps_left}
use Rattle.blink_show.specs.Keeping.{Keeps}
use Rattle.blink_show.specs.Turns.{AddsFinish}
use Rattle.blink_show.proofs.turns.show_finish.Given as goal

-- the turns so far are shown
abbrev pub invariant-loop-worker : goal.invariant-loop-worker
invariant-loop-worker l = record {
  kept : Keeps l.film l.world.run;
  shown : AddsFinish l.initial.world l.world (string_bytes l.initial.film.text) (string_bytes l.film.text);
}

-- fewer steps are left each time
abbrev pub decreases-loop-worker : goal.decreases-loop-worker
decreases-loop-worker l = steps_left l.world.run
