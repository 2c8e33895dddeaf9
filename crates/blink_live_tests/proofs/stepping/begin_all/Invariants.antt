use Rattle.std.specs.Prelude.{All}
use Rattle.blink_live.specs.{IsPassOf, IsPendingOf}
use Rattle.blink_live_tests.proofs.stepping.begin_all.Given as goal

abbrev pub invariant-loop : goal.invariant-loop
invariant-loop g l = record {
  passes : All (IsPassOf l.live) l.passes.items;
  begun : All (IsPendingOf l.live) l.begun.items;
}
