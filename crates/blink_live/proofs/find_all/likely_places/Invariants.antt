use Rattle.std.proofs.Common.{◌-◌}
use Rattle.blink_live.proofs.find_all.likely_places.Given as goal

abbrev pub decreases-loop-size : goal.decreases-loop-size
decreases-loop-size l = l.size - 1
