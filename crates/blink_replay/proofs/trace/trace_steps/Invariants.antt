use Rattle.std.proofs.Common.{take, string_bytes}
use Rattle.blink_replay.specs.Replay.{TellsSteps}
use Rattle.blink_replay.proofs.trace.trace_steps.Given as goal

-- the turns so far are told
abbrev pub invariant-loop-worker : goal.invariant-loop-worker
invariant-loop-worker l = TellsSteps l.initial.world (take l.worker-index l.schedule) l.world (string_bytes l.initial.trace) (string_bytes l.trace)
