use Rattle.std.proofs.Common.{◌+◌, ◌*◌, ◌<◌, ◌≤◌}
use Rattle.blink_page.specs.Place.{place_of}
use Rattle.blink_page.specs.declared.search.TheConstants.{LINE}
use Rattle.blink_page.proofs.search.lines_passed.Given as goal

-- the lines counted stand before the place, and it is in the next one if a line was not counted
abbrev pub invariant-loop-line : goal.invariant-loop-line
invariant-loop-line l =
    (LINE * l.lines ≤ place_of l.key l.entries)
    × (l.lines ≤ l.line)
    × (l.lines < l.line → place_of l.key l.entries < LINE * l.lines + LINE)
