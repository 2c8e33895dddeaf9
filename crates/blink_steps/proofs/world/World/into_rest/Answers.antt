use Rattle.std.proofs.Common.{sym, subst}
use Rattle.blink_rest.specs.{IsStoreAtRest}
use Rattle.blink_steps.specs.World.{PlainWorld, HasEnded}
use Rattle.blink_steps.proofs.worlds.WorldPromises.{promises}
use Rattle.blink_steps.proofs.world.World.into_rest.Goals as goal

pub of-requires : goal.of-requires
of-requires c =
    let is = c.self.invariant in
    let ended = subst (λ (world : PlainWorld). HasEnded world.run) (sym c.self.view_is) c.requires in
    subst IsStoreAtRest (sym c.into_store.ensures) ((promises is.0 (record { run = c.self.inside.run; schedule = c.self.inside.schedule.items }) is.1).ended ended).at_rest

pub returns-clause-promised : goal.returns-clause-promised
returns-clause-promised c start is_world = promises start _ is_world
