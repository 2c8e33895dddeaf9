-- The places so far have their answers, and there is room for the rest.
use Rattle.std.proofs.Common.{◌≡◌, ◌≤◌, length, vec_capacity}
use Rattle.blink_run.proofs.GatheredSoFar.{IsGatheredTo}
use Rattle.blink_run.proofs.live.gathering.answers_by_place.Given as goal

abbrev pub invariant-loop-lane : goal.invariant-loop-lane
invariant-loop-lane l = record {
  so_far : IsGatheredTo l.lanes l.runs l.lane-index l.given.items l.next;
  room : length l.lanes ≤ vec_capacity l.given;
  sixty_four : length l.next ≡ 64;
}
