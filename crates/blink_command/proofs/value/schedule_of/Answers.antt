use Rattle.std.proofs.Common.{◌<◌, ◌∙◌, ap, length, rules}
use Rattle.clap.specs.Walk.{texts}
use Rattle.blink_command.proofs.ScheduleFromParts.{from_parts}
use Rattle.blink_command.proofs.value.schedule_of.Goals as goal

-- the parts are those between the commas
pub returns : goal.returns
returns c =
    let some : 0 < length c.args.text.now = search rules in
    let cut = ap texts c.as_slice.ensures.value ∙ c.in_ok-parts_of.ensures in
    from_parts (λ schedule. schedule.items) c.args.text.now c.as_slice.result.now c.workers_at.result some cut c.workers_at.ensures
