use Rattle.std.proofs.Common.{arith}
use Rattle.blink_live.proofs.live.Live.row_place.Goals as goal

pub returns-clause-inside : goal.returns-clause-inside
returns-clause-inside c = let row = c.requires.row in omega (arith, row, c.row_start.ensures)
