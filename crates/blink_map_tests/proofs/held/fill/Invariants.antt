use Rattle.blink_map.specs.{IsHeldOf}
use Rattle.blink_map_tests.proofs.held.fill.Given as goal

abbrev pub invariant-loop-key : goal.invariant-loop-key
invariant-loop-key g l = IsHeldOf l.map l.held
