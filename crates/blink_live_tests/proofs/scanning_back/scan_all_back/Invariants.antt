use Rattle.blink_live.specs.{IsPassOf}
use Rattle.blink_live_tests.proofs.scanning_back.scan_all_back.Given as goal

abbrev pub invariant-loop : goal.invariant-loop
invariant-loop g l = IsPassOf l.live l.pass
