use Rattle.blink_map.specs.{IsPendingOf}
use Rattle.blink_map_tests.proofs.shared.to_end.Given as goal

abbrev pub invariant-loop : goal.invariant-loop
invariant-loop g l = IsPendingOf l.map l.pending
