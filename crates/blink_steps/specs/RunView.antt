-- A `Run` as a contract sees it, and the invariant of its links.
use Rattle.std.specs.Prelude.{◌≡◌, length}
use Rattle.blink_steps.specs.declared.run.Run.TheInside.{Inside}
use Rattle.blink_steps.specs.LaneQueues.{NextInLane}
use Rattle.blink_steps.specs.Run.{PlainRun}
use Rattle.blink_steps.specs.Seats.{AreOfLanes}

-- the run as plain data
abbrev pub plain : Inside → PlainRun
plain run = record {
  shared = run.shared;
  ops = run.batch;
  assignment = run.lanes;
  seats = run.seats.items;
  outcome = run.outcome;
}

-- each place links to the next of its lane
pub record IsLinked (run : Inside) : Type 0 where
  pub a_lane_each : length run.lanes.lanes ≡ length run.batch
  pub a_link_each : length run.following.items ≡ length run.lanes.lanes
  pub links : NextInLane run.lanes.lanes run.following.items 0
  pub of_lanes : AreOfLanes run.lanes.lanes run.seats.items
