use Rattle.blink_command.proofs.Commands.{ends_local, ends_with_option, option_added, stays_local}
use Rattle.blink_command.proofs.command.run_command.Goals as goal

-- the sizes, the cut and the driver
pub returns : goal.returns
returns c =
    let sizes = c.in_ok-subcommand_with_sizes.ensures in
    let cut = c.cut_option.ensures in
    let driver = c.driver_option.ensures in
    record {
      app = ends_with_option _ _ _ _ c.arg-2.result (option_added _ _ _ _ _ sizes.app cut.rule cut.local c.in_ok-arg.ensures) driver.rule driver.local c.arg-2.ensures;
      local = ends_local _ _ c.arg-2.result (stays_local _ _ _ sizes.local cut.local c.in_ok-arg.ensures) driver.local c.arg-2.ensures;
    }
