-- The trace of turns: a line for each, with its worker and the turn's result.
use Rattle.std.specs.Prelude.{ℕ, List, ◌++◌, reverse, codes}
use Rattle.std.specs.List.{flat_map}
use Rattle.std.specs.Fmt.{decimal}
use Rattle.blink_machine.specs.declared.Kind.{Kind}
use Rattle.blink_machine.specs.declared.Kind.TheVariants.{ReadPage, ReadPrime, Latch, Unlatch, WritePage, WritePrime}
use Rattle.blink_machine.specs.declared.Step.{Step}
use Rattle.blink_machine.specs.declared.Step.TheVariants.{Moved, Waited, Idle}
use Rattle.blink_steps.specs.{Event}

-- P and Q are a read and a write of the prime block; the others have their page's number
abbrev pub words_of_kind : Kind → List ℕ
words_of_kind ReadPrime = codes "P"
words_of_kind WritePrime = codes "Q"
words_of_kind (ReadPage page) = codes "R" ++ decimal page
words_of_kind (WritePage page) = codes "W" ++ decimal page
words_of_kind (Latch page) = codes "L" ++ decimal page
words_of_kind (Unlatch page) = codes "U" ++ decimal page

abbrev pub words_of_step : Step → List ℕ
words_of_step (Moved kind) = words_of_kind kind
words_of_step Waited = codes "wait"
words_of_step Idle = codes "idle"

abbrev pub turn_line : ℕ → Step → List ℕ
turn_line worker step = decimal worker ++ (codes " " ++ (words_of_step step ++ codes "\n"))

-- the lines of turns, which are listed the last first
abbrev pub trace_of : List Event → List ℕ
trace_of turns = flat_map (λ (taken : Event). turn_line taken.worker taken.step) (reverse turns)
