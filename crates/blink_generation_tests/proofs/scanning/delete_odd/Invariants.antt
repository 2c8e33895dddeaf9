use Rattle.blink_generation.specs.{IsSessionOf}
use Rattle.blink_generation_tests.proofs.scanning.delete_odd.Given as goal

abbrev pub invariant-loop-place : goal.invariant-loop-place
invariant-loop-place g l = IsSessionOf l.map l.session
