use Rattle.blink_steps.proofs.worlds.WorldPromises.{promises}
use Rattle.blink_steps.proofs.world.World.store.Goals as goal

pub returns-clause-promised : goal.returns-clause-promised
returns-clause-promised c start is_world = promises start _ is_world
