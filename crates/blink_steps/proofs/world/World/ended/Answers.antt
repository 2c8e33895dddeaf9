use Rattle.blink_steps.proofs.worlds.WorldPromises.{promises, shaped}
use Rattle.blink_steps.proofs.world.World.ended.Goals as goal

pub ended-requires : goal.ended-requires
ended-requires c = (shaped (record { run = c.self.inside.run; schedule = c.self.inside.schedule.items }) c.self.invariant).a_seat_each

pub returns-clause-promised : goal.returns-clause-promised
returns-clause-promised c start is_world = promises start _ is_world
