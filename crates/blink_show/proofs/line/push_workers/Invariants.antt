use Rattle.std.proofs.Common.{◌≡◌, ◌++◌, map, string_bytes}
use Rattle.std.specs.List.{range_with_len}
use Rattle.blink_show.specs.Lines.{line_of_worker}
use Rattle.blink_show.proofs.line.push_workers.Given as goal

-- the workers so far have their lines
abbrev pub invariant-loop-worker : goal.invariant-loop-worker
invariant-loop-worker l = map string_bytes l.lines.items ≡ map string_bytes l.initial.lines.items ++ map (line_of_worker l.world.run) (range_with_len 0 l.worker)
