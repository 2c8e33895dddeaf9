use Rattle.std.proofs.Common.{◌≡◌, ◌<◌, ℕ, Some, None}
use Rattle.std.specs.List.{slice_get}
use Rattle.blink_show.proofs.draw.leaves_undecided.Given as goal

-- none of the places so far is one of the worker's without an answer
abbrev pub invariant-loop-place : goal.invariant-loop-place
invariant-loop-place l = (place : ℕ) → place < l.place → slice_get l.owners place ≡ Some l.worker → ¬ (slice_get l.answers place ≡ Some None)
