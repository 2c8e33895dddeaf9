use Rattle.std.proofs.Common.{◌≡◌, ◌++◌, take, string_bytes}
use Rattle.std.specs.List.{flat_map}
use Rattle.blink_show.specs.Lines.{decided_line}
use Rattle.blink_show.proofs.line.push_decided.Given as goal

-- the lines so far were added
abbrev pub invariant-loop-place : goal.invariant-loop-place
invariant-loop-place l = string_bytes l.text ≡ string_bytes l.initial.text ++ flat_map (decided_line l.answers) (take l.place-index l.places)
