use Rattle.std.proofs.Common.{rules}
use Rattle.blink_generation.proofs.map.Map.open_in_parts.Goals as goal

-- what the check would search for by itself: a wrong body falls on an answer at once
pub returns-then-from-clause-too_large : goal.returns-then-from-clause-too_large
returns-then-from-clause-too_large c = search rules
