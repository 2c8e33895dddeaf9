use Rattle.std.proofs.Common.{◌≡◌, ◌+◌, drop}
use Rattle.blink_page.specs.Place.{place_of}
use Rattle.blink_page.proofs.search.place_from_front.Given as goal

-- the entries passed so far stand before the place
abbrev pub invariant-loop-i : goal.invariant-loop-i
invariant-loop-i l = place_of l.key l.entries ≡ l.i + place_of l.key (drop l.i l.entries)
