use Rattle.blink_map.specs.{IsSessionOf}
use Rattle.blink_map_laws.specs.Counting.{HasRaised}
use Rattle.blink_map_laws.proofs.counter.raise_times.Given as goal

abbrev pub invariant-loop-done : goal.invariant-loop-done
invariant-loop-done g l = record {
  its_own : IsSessionOf l.map l.session;
  raised : HasRaised l.map l.key l.done l.fn.session l.session;
}
