use Rattle.std.proofs.Common.{◌≡◌, ◌<◌, length, slice_get, Some}
use Rattle.blink_steps.proofs.worlds.WorkersBySeat.{waits_busy, idle_never_waits}
use Rattle.blink_steps.proofs.runs.TurnFromItsParts.{seat_found}
use Rattle.blink_steps.specs.RunView.{plain}
use Rattle.blink_steps.proofs.run.Run.waits.Goals as goal
use Rattle.blink_steps.proofs.run.Run.waits.Goals.{After-index}

found : (c : After-index) → slice_get c.self.inside.seats.items c.args.worker ≡ Some c.index.result.now
found c =
    let within : c.args.worker < length c.self.inside.seats.items = rw (← c.self.view_is) at c.requires in
    seat_found c.self.inside.seats.items c.from.result c.args.worker c.index.result.now c.from.ensures within c.index.ensures

pub returns-in-Some : goal.returns-in-Some
returns-in-Some c =
    let seen = (goal.at.returns-in-Some c).After-index in
    rw (← c.self.view_is) (waits_busy (plain c.self.inside) c.args.worker c.index.result.now (found seen) c.in-Some.working c.waits.result c.in-Some.is (c.waits.ensures c.args.worker))

pub returns-in-None : goal.returns-in-None
returns-in-None c =
    let seen = (goal.at.returns-in-None c).After-index in
    rw (← c.self.view_is) (λ yes. absurd (cc), λ wait. absurd (idle_never_waits (plain c.self.inside) c.args.worker c.index.result.now (found seen) c.in-None.is wait))
