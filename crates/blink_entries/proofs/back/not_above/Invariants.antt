use Rattle.std.proofs.Common.{◌≡◌, ◌++◌, drop, take}
use Rattle.blink_rest.specs.{entries_from}
use Rattle.blink_entries.specs.Scan.{entries_to}
use Rattle.blink_entries.proofs.back.not_above.Given as goal

-- the entries passed so far aren't above
abbrev pub invariant-loop-i : goal.invariant-loop-i
invariant-loop-i l = entries_to l.hi l.entries ≡ entries_from (take l.i l.entries) ++ entries_to l.hi (drop l.i l.entries)
