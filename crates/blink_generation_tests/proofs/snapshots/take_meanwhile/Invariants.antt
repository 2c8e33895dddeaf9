use Rattle.blink_generation.specs.{IsSessionOf}
use Rattle.blink_generation_tests.proofs.snapshots.take_meanwhile.Given as goal

abbrev pub invariant-loop : goal.invariant-loop
invariant-loop g l = IsSessionOf l.map l.session
