use Rattle.std.proofs.Common.{ap}
use Rattle.clap.specs.Words.{App}
use Rattle.blink_command.proofs.Commands.{ends_with_subcommand}
use Rattle.blink_command.proofs.command.with_replay.Goals as goal

pub returns : goal.returns
returns c = ends_with_subcommand _ _ _ _ c.subcommand.result c.requires (ap (λ (app : App). app.top) c.in_ok-replay_command.ensures.app) c.in_ok-replay_command.ensures.local c.subcommand.ensures
