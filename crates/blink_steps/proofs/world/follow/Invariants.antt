use Rattle.std.proofs.Common.{◌≡◌, ◌<◌, take, All}
use Rattle.blink_steps.specs.World.{FollowsSchedule}
use Rattle.blink_steps.proofs.world.follow.Given as goal

-- the turns so far, each of a worker
abbrev pub invariant-loop-worker : goal.invariant-loop-worker
invariant-loop-worker l = record {
  follows : FollowsSchedule l.initial.world (take l.worker-index l.schedule) l.world;
  workers : All (λ worker. worker < l.initial.world.run.assignment.workers) (take l.worker-index l.schedule);
  same_assignment : l.world.run.assignment ≡ l.initial.world.run.assignment;
}
