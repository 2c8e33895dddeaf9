use Rattle.blink_command.proofs.Commands.{ends_local, ends_with_option}
use Rattle.blink_command.proofs.command.replay_command.Goals as goal

-- the sizes and the schedule
pub returns : goal.returns
returns c =
    let sizes = c.in_ok-subcommand_with_sizes.ensures in
    let schedule = c.schedule_option.ensures in
    record {
      app = ends_with_option _ _ _ _ c.arg.result sizes.app schedule.rule schedule.local c.arg.ensures;
      local = ends_local _ _ c.arg.result sizes.local schedule.local c.arg.ensures;
    }
