use Rattle.blink_live.specs.{IsPassOf}
use Rattle.blink_live_tests.proofs.steps.take_all.Given as goal

abbrev pub invariant-loop-step : goal.invariant-loop-step
invariant-loop-step g l = IsPassOf l.live l.pass
