use Rattle.std.proofs.Common.{◌≡◌, Some, map, take}
use Rattle.blink_command.specs.Value.{worker_of}
use Rattle.blink_command.proofs.value.workers_at.Given as goal

-- the workers so far are those of the parts so far
abbrev pub invariant-loop-part : goal.invariant-loop-part
invariant-loop-part l = map (λ part. worker_of part.now) (take l.part-index l.parts) ≡ map Some l.workers.items
