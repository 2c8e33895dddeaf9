use Rattle.blink_generation.specs.{IsPendingOf}
use Rattle.blink_generation_tests.proofs.shared.to_end.Given as goal

abbrev pub invariant-loop : goal.invariant-loop
invariant-loop g l = IsPendingOf l.map l.pending
