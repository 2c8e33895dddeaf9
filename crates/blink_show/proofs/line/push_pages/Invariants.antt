use Rattle.std.proofs.Common.{◌≡◌, ◌++◌, map, string_bytes}
use Rattle.std.specs.List.{range_with_len}
use Rattle.blink_show.specs.Lines.{line_of_number}
use Rattle.blink_show.proofs.line.push_pages.Given as goal

-- the pages so far have their lines
abbrev pub invariant-loop-before : goal.invariant-loop-before
invariant-loop-before l = map string_bytes l.lines.items ≡ map string_bytes l.initial.lines.items ++ map (line_of_number l.world.run.shared) (range_with_len 1 l.before)
