use Rattle.blink_map.specs.{IsSessionOf}
use Rattle.blink_map_tests.proofs.threads.change_own.Given as goal

abbrev pub invariant-loop-turn : goal.invariant-loop-turn
invariant-loop-turn g l = IsSessionOf l.map l.session
