use Rattle.blink_map.specs.{IsSessionOf}
use Rattle.blink_map_tests.proofs.shared.hold.Given as goal

abbrev pub invariant-loop : goal.invariant-loop
invariant-loop g l = IsSessionOf l.map l.session
