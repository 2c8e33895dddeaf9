use Rattle.std.proofs.Common.{◌≡◌, ◌+◌, drop}
use Rattle.blink_page.specs.{place_of}
use Rattle.blink_entries.proofs.scan.not_below.Given as goal

-- the entries passed so far stand before the place
abbrev pub invariant-loop-i : goal.invariant-loop-i
invariant-loop-i l = place_of l.lo l.entries ≡ l.i + place_of l.lo (drop l.i l.entries)
