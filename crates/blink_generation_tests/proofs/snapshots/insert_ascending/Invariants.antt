use Rattle.blink_generation.specs.{IsSessionOf}
use Rattle.blink_generation_tests.proofs.snapshots.insert_ascending.Given as goal

abbrev pub invariant-loop-key : goal.invariant-loop-key
invariant-loop-key g l = IsSessionOf l.map l.session
