use Rattle.blink_generation.specs.{IsSessionOf}
use Rattle.blink_generation_tests.proofs.threads.change_drawn.Given as goal

-- the session is one of the map
abbrev pub invariant-loop-turn : goal.invariant-loop-turn
invariant-loop-turn g l = IsSessionOf l.map l.session
