use Rattle.blink_live.specs.{IsPassOf}
use Rattle.blink_live_tests.proofs.glancing.glance_downwards.Given as goal

abbrev pub invariant-loop-key : goal.invariant-loop-key
invariant-loop-key g l = IsPassOf l.live l.pass

abbrev pub invariant-loop : goal.invariant-loop
invariant-loop g l = IsPassOf l.live l.pass
