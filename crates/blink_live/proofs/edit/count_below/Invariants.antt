use Rattle.std.proofs.Common.{◌≡◌, ◌+◌, drop}
use Rattle.blink_live.specs.Editing.{lesser}
use Rattle.blink_live.proofs.edit.count_below.Given as goal

-- the lesser keys that were passed are counted
abbrev pub invariant-loop-entry : goal.invariant-loop-entry
invariant-loop-entry l = l.count + lesser l.key (drop l.entry-index l.entries) ≡ lesser l.key l.entries
