use Rattle.std.proofs.Common.{◌<◌, All, subst}
use Rattle.blink_batch.specs.{Assignment}
use Rattle.blink_steps.specs.World.{IsReplay, IsScheduleRefusal}
use Rattle.blink_steps.proofs.worlds.WorldsGoFurther.{replay_refusal}
use Rattle.blink_steps.proofs.worlds.WorldPromises.{promises, replay_loses_no_key}
use Rattle.blink_steps.proofs.world.replay.Goals as goal
use Rattle.blink_steps.proofs.world.replay.Goals.{In-Ok}

replayed : (c : In-Ok) → IsReplay c.args.rest c.args.batch c.args.lanes c.args.schedule.now c.follow.new.world
replayed c = c.in-Ok.ensures.world c.args.rest c.args.batch c.args.lanes c.in_ok-world.ensures.start

pub returns-in-Ok-clause-world : goal.returns-in-Ok-clause-world
returns-in-Ok-clause-world c = replayed c

pub returns-in-Ok-clause-promised : goal.returns-in-Ok-clause-promised
returns-in-Ok-clause-promised c start is_world = promises start _ is_world

pub returns-in-Ok-clause-headline : goal.returns-in-Ok-clause-headline
returns-in-Ok-clause-headline c = replay_loses_no_key c.args.rest c.args.batch c.args.lanes c.args.schedule.now c.follow.new.world (replayed c)

pub returns-in-Ok-clause-workers : goal.returns-in-Ok-clause-workers
returns-in-Ok-clause-workers c ok = subst (λ (a : Assignment). All (λ worker. worker < a.workers) c.args.schedule.now) c.in_ok-world.ensures.start.same_assignment c.in-Ok.ensures.workers

pub returns-in-Err-clause-refused : goal.returns-in-Err-clause-refused
returns-in-Err-clause-refused c =
    replay_refusal c.args.rest c.args.batch c.args.lanes.workers c.args.schedule.now c.in-Err.refusal
    (subst (λ (a : Assignment). IsScheduleRefusal a.workers c.args.schedule.now c.in-Err.refusal) c.in_ok-world.ensures.start.same_assignment c.in-Err.ensures.refused)
