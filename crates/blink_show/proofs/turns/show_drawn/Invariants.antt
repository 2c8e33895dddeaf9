use Rattle.std.proofs.Common.{◌≡◌, ℕ, List, codes, length, string_bytes}
use Rattle.blink_steps.specs.{steps_left}
use Rattle.blink_show.specs.Draw.{IsDrawn, state_after}
use Rattle.blink_show.specs.Keeping.{Keeps}
use Rattle.blink_show.proofs.TurnsAreShown.{AddsTurns}
use Rattle.blink_show.proofs.turns.show_drawn.Given as goal

-- the turns so far are shown, and a word was drawn for each
abbrev pub invariant-loop-worker : goal.invariant-loop-worker
invariant-loop-worker l = record {
  kept : Keeps l.film l.world.run;
  same_assignment : l.world.run.assignment ≡ l.initial.world.run.assignment;
  schedule : List ℕ;
  shown : AddsTurns (codes "turn ") (IsDrawn l.seed) l.initial.world schedule l.world (string_bytes l.initial.film.text) (string_bytes l.film.text);
  words : l.chance ≡ state_after l.seed (length schedule);
}

-- fewer steps are left each time
abbrev pub decreases-loop-worker : goal.decreases-loop-worker
decreases-loop-worker l = steps_left l.world.run
