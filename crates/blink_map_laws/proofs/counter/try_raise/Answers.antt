use Rattle.blink_map_laws.proofs.TriesToRaise.{tried_after}
use Rattle.blink_map_laws.proofs.counter.try_raise.Goals as goal

pub returns-in_default : goal.returns-in_default
returns-in_default g c = c.find.ensures.same

pub returns-then-there : goal.returns-then-there
returns-then-there g c = c.find.ensures.same

pub returns : goal.returns
returns g c =
    tried_after c.args.map.now c.args.key c.args.session c.find.new.session c.raise_from.result.0 c.find.ensures.same c.raise_from.result.1 c.raise_from.ensures
