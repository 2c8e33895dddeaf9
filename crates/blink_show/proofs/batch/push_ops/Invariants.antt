use Rattle.std.proofs.Common.{◌≡◌, ◌++◌, drop, string_bytes}
use Rattle.blink_show.specs.Batch.{ops_from}
use Rattle.blink_show.proofs.batch.push_ops.Given as goal

-- with the lines from this place on, the text would be whole
abbrev pub invariant-loop-place : goal.invariant-loop-place
invariant-loop-place l = string_bytes l.text ++ ops_from l.workers l.place-counter (drop l.place-counter l.ops) ≡ string_bytes l.initial.text ++ ops_from l.workers 0 l.ops
