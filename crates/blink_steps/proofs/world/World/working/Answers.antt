use Rattle.std.proofs.Common.{◌<◌, sym, subst, arith}
use Rattle.blink_steps.specs.World.{PlainWorld}
use Rattle.blink_steps.proofs.worlds.WorldPromises.{shaped}
use Rattle.blink_steps.proofs.world.World.working.Goals as goal

pub working-requires : goal.working-requires
working-requires c =
    let lists = shaped (record { run = c.self.inside.run; schedule = c.self.inside.schedule.items }) c.self.invariant in
    let within = subst (λ (world : PlainWorld). c.args.worker < world.run.assignment.workers) (sym c.self.view_is) c.requires in
    omega (arith, lists.a_seat_each)
