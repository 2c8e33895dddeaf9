use Rattle.std.proofs.Common.{◌<◌, All, take}
use Rattle.blink_replay.proofs.replay.first_of_no_worker.Given as goal

-- the numbers so far are workers
abbrev pub invariant-loop-worker : goal.invariant-loop-worker
invariant-loop-worker l = All (λ worker. worker < l.workers) (take l.worker-index l.schedule)
