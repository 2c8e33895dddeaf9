use Rattle.std.proofs.Common.{◌≡◌, ◌++◌, take, string_bytes}
use Rattle.std.specs.List.{flat_map}
use Rattle.blink_show.specs.Lines.{after_space}
use Rattle.blink_show.proofs.line.push_spaced.Given as goal

-- the numbers so far were added
abbrev pub invariant-loop-number : goal.invariant-loop-number
invariant-loop-number l = string_bytes l.line ≡ string_bytes l.initial.line ++ flat_map after_space (take l.number-index l.numbers)
