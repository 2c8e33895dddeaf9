use Rattle.std.proofs.Common.{[]}
use Rattle.blink_generation.specs.Opening.{AreFirst, IsHostWith}
use Rattle.blink_generation.proofs.open.sessions.Given as goal

-- so many sessions are dealt
abbrev pub invariant-loop-place : goal.invariant-loop-place
invariant-loop-place l = record {
  host : IsHostWith l.live l.host l.place;
  sessions : AreFirst l.live l.place l.sessions.items;
}

abbrev pub ghosts-admit : goal.ghosts-admit
ghosts-admit a = record { rows = 0; pages = 0; keys = []; taken = [] }
