use Rattle.std.proofs.Common.{rules}
use Rattle.blink_live.proofs.live.Live.read_again.Goals as goal

pub look_again-word-requires-clause-in_range : goal.look_again-word-requires-clause-in_range
look_again-word-requires-clause-in_range c = search rules
