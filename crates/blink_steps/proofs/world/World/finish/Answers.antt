use Rattle.std.proofs.Common.{sym, subst}
use Rattle.blink_steps.specs.Pick.{GoesOnPicked}
use Rattle.blink_steps.specs.World.{PlainWorld}
use Rattle.blink_steps.proofs.worlds.WorldsGoOn.{picked_further, same_batch_then, world_goes_on}
use Rattle.blink_steps.proofs.worlds.WorldPromises.{promises}
use Rattle.blink_steps.proofs.world.World.finish.Goals as goal
use Rattle.blink_steps.proofs.world.World.finish.Goals.{In_err-advance}

pub loop-worker-preserved : goal.loop-worker-preserved
loop-worker-preserved c =
    let turn = c.in_ok-advance.ensures.turn in
    picked_further c.args.self.now c.loop-worker.self c.advance.new.self c.in-Some.worker c.in_ok-advance.field-0 c.loop-worker.invariant c.in-Some.ensures.first turn

-- after a refusal the world is the one before it
refused : (c : In_err-advance) → GoesOnPicked c.args.self.now c.advance.new.self
refused c = subst (λ (world : PlainWorld). GoesOnPicked c.args.self.now world) (sym c.in_err-advance.ensures.unchanged) c.loop-worker.invariant

pub returns-in_err-advance-clause-same_start : goal.returns-in_err-advance-clause-same_start
returns-in_err-advance-clause-same_start c start is_world = world_goes_on start _ _ (refused (goal.at.returns-in_err-advance-clause-same_start c).In_err-advance) is_world

pub returns-in_err-advance-clause-same_batch : goal.returns-in_err-advance-clause-same_batch
returns-in_err-advance-clause-same_batch c = same_batch_then _ _ (refused (goal.at.returns-in_err-advance-clause-same_batch c).In_err-advance)

pub returns-in_err-advance-clause-promised : goal.returns-in_err-advance-clause-promised
returns-in_err-advance-clause-promised c start is_world = promises start _ is_world

pub returns-clause-same_start : goal.returns-clause-same_start
returns-clause-same_start c start is_world = world_goes_on start _ _ c.loop-worker.invariant is_world

pub returns-clause-same_batch : goal.returns-clause-same_batch
returns-clause-same_batch c = same_batch_then _ _ c.loop-worker.invariant

pub returns-clause-promised : goal.returns-clause-promised
returns-clause-promised c start is_world = promises start _ is_world
