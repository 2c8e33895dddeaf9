use Rattle.blink_generation.specs.Changing.{HasDrawn}
use Rattle.blink_generation.specs.Places.{IsMemberOf}
use Rattle.blink_generation.proofs.member.Member.catch_up.Given as goal

abbrev pub invariant-loop : goal.invariant-loop
invariant-loop l = record {
  its_own : IsMemberOf l.live l.self;
  drawn : HasDrawn 0 0 l.fn.self l.self;
}
