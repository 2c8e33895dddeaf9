use Rattle.blink_live.proofs.found.WaysFromRow.{kept_there, kept_not_there}
use Rattle.blink_live.proofs.read.kept_under.Goals as goal

pub returns-then-found-key : goal.returns-then-found-key
returns-then-found-key c from to entries rises at = kept_there c.args.key c.args.found c.args.value from to entries rises at c.if-found-key.true

pub returns-else-found-key : goal.returns-else-found-key
returns-else-found-key c from to entries rises at = kept_not_there c.args.key c.args.found c.args.value from to entries rises at c.if-found-key.false
