use Rattle.std.proofs.Common.{◌+◌, ◌*◌, ◌<◌, ◌≤◌}
use Rattle.blink_batch.specs.{IsAscending}
use Rattle.blink_live.specs.declared.read.TheConstants.{LINE}
use Rattle.blink_live.specs.Editing.{lesser}
use Rattle.blink_live.proofs.edit.lines_below.Given as goal

-- the lines that were counted stand before the place, and it is in the next one if a line wasn't counted
abbrev pub invariant-loop-line : goal.invariant-loop-line
invariant-loop-line l = record {
  few : l.lines ≤ l.line;
  lines : IsAscending l.entries → (LINE * l.lines ≤ lesser l.key l.entries) × (l.lines < l.line → lesser l.key l.entries < LINE * l.lines + LINE);
}
