-- Frames: each is a heading, the lines that differ from those of the frame before, and the operations that have decided since.
use Rattle.std.specs.Prelude.{ℕ, List, [], ◌++◌, Option, Some, None, codes, drop, if◌then◌else◌, length, slice_get}
use Rattle.std.specs.List.{flat_map, range_with_len}
use Rattle.std.specs.Str.{bytes_eq}
use Rattle.blink_replay.specs.{turn_line}
use Rattle.blink_machine.specs.declared.Step.{Step}
use Rattle.blink_steps.specs.{PlainRun}
use Rattle.blink_show.specs.Lines.{decided_line, lines_of}

-- a line, unless it equals the one before
abbrev pub unless_same : Option (List ℕ) → Option (List ℕ) → List ℕ
unless_same before None = []
unless_same None (Some line) = line
unless_same (Some before) (Some line) = if bytes_eq before line then [] else line

-- the lines of `new` that differ from the line of `old` at the same place
abbrev pub changed : List (List ℕ) → List (List ℕ) → List ℕ
changed old new = flat_map (λ place. unless_same (slice_get old place) (slice_get new place)) (range_with_len 0 (length new))

-- what a frame shows, if these lines and this many decided operations were shown before
abbrev pub changes : List (List ℕ) → ℕ → PlainRun → List ℕ
changes lines decided run = changed lines (lines_of run) ++ flat_map (decided_line run.outcome.answers) (drop decided run.outcome.order)

-- the frame of the first tree state shows all lines
abbrev pub first_frame : PlainRun → List ℕ
first_frame run = codes "first\n" ++ changes [] 0 run

-- the frame of a turn: its word, its line of the trace, and what it has changed
abbrev pub frame : List ℕ → PlainRun → ℕ → Step → PlainRun → List ℕ
frame word old worker step new = word ++ (turn_line worker step ++ changes (lines_of old) (length old.outcome.order) new)
