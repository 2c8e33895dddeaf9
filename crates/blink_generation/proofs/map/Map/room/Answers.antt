use Rattle.std.proofs.Common.{rules}
use Rattle.blink_generation.proofs.map.Map.room.Goals as goal

-- what the check would search for by itself: a wrong body falls on an answer at once
pub returns-clause-rows : goal.returns-clause-rows
returns-clause-rows c = search rules
