use Rattle.blink_live.specs.{IsPassOf}
use Rattle.blink_live_tests.proofs.works.change_each.Given as goal

abbrev pub invariant-loop-others : goal.invariant-loop-others
invariant-loop-others g l = IsPassOf l.live l.pass
