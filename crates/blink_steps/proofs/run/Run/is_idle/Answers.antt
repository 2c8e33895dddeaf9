use Rattle.std.proofs.Common.{◌<◌, length, refl}
use Rattle.blink_steps.proofs.worlds.WorkersBySeat.{idle_from}
use Rattle.blink_steps.proofs.runs.TurnFromItsParts.{seat_found}
use Rattle.blink_steps.specs.RunView.{plain}
use Rattle.blink_steps.proofs.run.Run.is_idle.Goals as goal

pub returns : goal.returns
returns c =
    let within : c.args.worker < length c.self.inside.seats.items = rw (← c.self.view_is) at c.requires in
    let found = seat_found c.self.inside.seats.items c.from.result c.args.worker c.index.result.now c.from.ensures within c.index.ensures in
    rw (← c.self.view_is) (idle_from (plain c.self.inside) c.args.worker c.index.result.now found c.index.result.now.working c.is_none.result refl c.is_none.ensures)
