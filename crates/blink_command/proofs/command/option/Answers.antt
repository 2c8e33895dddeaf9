use Rattle.std.proofs.Common.{Some, ap}
use Rattle.clap.specs.Words.{Rule}
use Rattle.blink_command.proofs.command.option.Goals as goal

-- the rule of an option, with its two words
pub returns-clause-rule : goal.returns-clause-rule
returns-clause-rule c = rw (c.value_name.ensures, c.long.ensures) (ap (λ (rule : Rule). record rule { long = Some c.args.name.now; value_names = 1 }) c.new.ensures.rule)

pub returns-clause-local : goal.returns-clause-local
returns-clause-local c = rw (c.value_name.ensures, c.long.ensures) c.new.ensures.optional.1
