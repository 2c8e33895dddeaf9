use Rattle.std.proofs.Common.{◌∙◌, ap}
use Rattle.blink_command.proofs.Commands.{about_told, ends_local, ends_with_option, option_added, stays_local}
use Rattle.blink_command.proofs.command.subcommand_with_sizes.Goals as goal

-- the workers and the fan
pub returns : goal.returns
returns c =
    let workers = c.workers_option.ensures in
    let fan = c.fan_option.ensures in
    let named = about_told _ _ _ _ c.about.ensures c.new.ensures.app in
    let local = ap (λ fields. fields.has_globals) c.about.ensures ∙ c.new.ensures.local in
    record {
      app = ends_with_option _ _ _ _ c.arg-2.result (option_added _ _ _ _ _ named workers.rule workers.local c.in_ok-arg.ensures) fan.rule fan.local c.arg-2.ensures;
      local = ends_local _ _ c.arg-2.result (stays_local _ _ _ local workers.local c.in_ok-arg.ensures) fan.local c.arg-2.ensures;
    }
