use Rattle.blink_live.specs.{IsPassOf}
use Rattle.blink_live_tests.proofs.stepping.insert_others.Given as goal

abbrev pub invariant-loop-place : goal.invariant-loop-place
invariant-loop-place g l = IsPassOf l.live l.pass
