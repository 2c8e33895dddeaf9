-- The end of a program, and what it writes on standard error.
use Rattle.std.specs.Prelude.{◌≡◌, ℕ, List, Option, Some, None, Result, Ok, Err, codes, string_bytes}
use Rattle.std.specs.Str.{trim_end}
use Rattle.blink_settings.specs.declared.error.ServeError.TheVariants as serve
use Rattle.blink_command.specs.declared.end.ProgramError.{ProgramError}
use Rattle.blink_command.specs.declared.end.ProgramError.TheVariants as program
use Rattle.blink_command.specs.declared.line.LineError.TheVariants as line

-- why the program failed
abbrev pub failure_of : Result (Unit {0}) ProgramError → Option ProgramError
failure_of (Ok done) = None
failure_of (Err error) = Some error

-- what is written on standard error, except for the last line feed: the text of the refused words, or a line; the lines left out
-- here name a row, a batch or a worker, or the fault within
abbrev pub lines_of : ProgramError → Option (List ℕ)
lines_of (program.Line (line.Usage text)) = Some (trim_end (string_bytes text))
lines_of (program.Line line.OutOfMemory) = Some (codes "run: out of memory")
lines_of (program.Serve (serve.Script error)) = None
lines_of (program.Serve (serve.Run number error)) = None
lines_of (program.Serve (serve.Step error)) = None
lines_of (program.Serve serve.Output) = Some (codes "output: write failed")
lines_of (program.Serve serve.OutOfMemory) = Some (codes "run: out of memory")
lines_of program.Memory = Some (codes "run: out of memory")

-- the text is the error's line, if that is known
abbrev pub IsLineOf : ProgramError → List ℕ → Type 0
IsLineOf error text = (known : List ℕ) → lines_of error ≡ Some known → text ≡ known
