use Rattle.std.proofs.Common.{◌≡◌, length}
use Rattle.blink_steps.specs.LaneQueues.{FirstInLane, NextInLane}
use Rattle.blink_steps.proofs.lane_queues.lane_queues.Given as goal

-- the lanes are gone through from their end
abbrev pub invariant-loop-place : goal.invariant-loop-place
invariant-loop-place l = record {
  as_many : length l.following.items ≡ length l.lanes;
  following : NextInLane l.lanes l.following.items l.place;
  firsts : FirstInLane l.lanes l.firsts l.place;
}
