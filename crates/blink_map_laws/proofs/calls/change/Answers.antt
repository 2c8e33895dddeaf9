use Rattle.std.proofs.Common.{Option, Result, subst}
use Rattle.blink_batch.specs.declared.Answer.{Answer}
use Rattle.blink_map.specs.declared.error.GrowError.{GrowError}
use Rattle.blink_map_laws.specs.Calls.{IsChangeTried}
use Rattle.blink_map_laws.proofs.HeldFor.{change_ended_after}
use Rattle.blink_map_laws.proofs.calls.change.Goals as goal

pub returns-in-Some-outcome-clause-answered : goal.returns-in-Some-outcome-clause-answered
returns-in-Some-outcome-clause-answered g c =
    (change_ended_after c.args.map.now c.args.op c.args.session c.loop.session c.change_once-then.result.0 c.loop.invariant.same c.in-Some-outcome.outcome
    (subst (λ (told : Option (Result Answer GrowError)). IsChangeTried c.args.map.now c.args.op c.loop.session c.change_once-then.result.0 told) c.in-Some-outcome.is c.change_once-then.ensures)).0

pub returns-in-Some-outcome-clause-unchanged : goal.returns-in-Some-outcome-clause-unchanged
returns-in-Some-outcome-clause-unchanged g c =
    (change_ended_after c.args.map.now c.args.op c.args.session c.loop.session c.change_once-then.result.0 c.loop.invariant.same c.in-Some-outcome.outcome
    (subst (λ (told : Option (Result Answer GrowError)). IsChangeTried c.args.map.now c.args.op c.loop.session c.change_once-then.result.0 told) c.in-Some-outcome.is c.change_once-then.ensures)).1
