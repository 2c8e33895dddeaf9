use Rattle.blink_steps.proofs.worlds.SomeoneWouldMove.{ended_picks_none, nobody_moves}
use Rattle.blink_steps.proofs.worlds.WorldPromises.{shaped, invariant}
use Rattle.blink_steps.proofs.world.World.pick.Goals as goal

pub pick-requires : goal.pick-requires
pick-requires c = (shaped (record { run = c.self.inside.run; schedule = c.self.inside.schedule.items }) c.self.invariant).a_seat_each

pub returns-clause-none : goal.returns-clause-none
returns-clause-none c =
    let is = invariant (record { run = c.self.inside.run; schedule = c.self.inside.schedule.items }) c.self.invariant in
    rw (← c.self.view_is) (λ none. nobody_moves c.self.inside.run is.0 is.1 (c.pick.ensures.none none), λ ended. ended_picks_none c.self.inside.run c.pick.result ended c.pick.ensures.first)
