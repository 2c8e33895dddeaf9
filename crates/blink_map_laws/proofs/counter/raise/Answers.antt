use Rattle.std.proofs.Common.{Option, Result, subst, ℕ}
use Rattle.blink_map_laws.specs.declared.counter.NotRaised.{NotRaised}
use Rattle.blink_map_laws.specs.Counting.{IsRaiseTried}
use Rattle.blink_map_laws.proofs.TriesToRaise.{ended_after}
use Rattle.blink_map_laws.proofs.counter.raise.Goals as goal

pub returns-in-Some-raised-clause-raised : goal.returns-in-Some-raised-clause-raised
returns-in-Some-raised-clause-raised g c =
    (ended_after c.args.map.now c.args.key c.args.session c.loop.session c.try_raise-then.result.0 c.loop.invariant.tried c.in-Some-raised.raised
    (subst (λ (told : Option (Result ℕ NotRaised)). IsRaiseTried c.args.map.now c.args.key c.loop.session c.try_raise-then.result.0 told) c.in-Some-raised.is c.try_raise-then.ensures)).0

pub returns-in-Some-raised-clause-unchanged : goal.returns-in-Some-raised-clause-unchanged
returns-in-Some-raised-clause-unchanged g c =
    (ended_after c.args.map.now c.args.key c.args.session c.loop.session c.try_raise-then.result.0 c.loop.invariant.tried c.in-Some-raised.raised
    (subst (λ (told : Option (Result ℕ NotRaised)). IsRaiseTried c.args.map.now c.args.key c.loop.session c.try_raise-then.result.0 told) c.in-Some-raised.is c.try_raise-then.ensures)).1
