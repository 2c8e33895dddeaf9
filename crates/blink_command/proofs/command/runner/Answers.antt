use Rattle.std.proofs.Common.{ap}
use Rattle.clap.specs.Words.{App}
use Rattle.blink_command.proofs.Commands.{ends_with_subcommand}
use Rattle.blink_command.proofs.command.runner.Goals as goal

-- `run` is added
pub returns : goal.returns
returns c =
    let run = c.in_ok-run.ensures in
    ends_with_subcommand _ _ _ _ c.subcommand.result c.without_subcommands.ensures (ap (λ (app : App). app.top) run.app) run.local c.subcommand.ensures
