use Rattle.std.proofs.Common.{rules}
use Rattle.blink_live.proofs.live.Live.latch_place.Goals as goal

pub returns : goal.returns
returns c = search rules
