use Rattle.blink_command.proofs.Commands.{about_told, subcommand_wanted}
use Rattle.blink_command.proofs.command.without_subcommands.Goals as goal

-- the command's own settings
pub returns : goal.returns
returns c = subcommand_wanted _ _ _ c.subcommand_required.ensures (about_told _ _ _ _ c.about.ensures c.new.ensures.app)
