use Rattle.std.proofs.Common.{[], ◌∷◌, ap}
use Rattle.clap.specs.Words.{Rule}
use Rattle.blink_command.proofs.command.option_or.Goals as goal

-- the rule of an option, with its default
pub returns-clause-rule : goal.returns-clause-rule
returns-clause-rule c = rw (c.help.ensures, c.default_value.ensures) (ap (λ (rule : Rule). record rule { defaults = c.args.default.now ∷ [] }) c.option.ensures.rule)

pub returns-clause-local : goal.returns-clause-local
returns-clause-local c = rw (c.help.ensures, c.default_value.ensures) c.option.ensures.local
