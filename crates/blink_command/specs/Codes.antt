-- The code of each refusal, and the exit status that reports it.
use Rattle.std.specs.Prelude.{ℕ, Result, Ok, Err}
use Rattle.blink_settings.specs.declared.error.ServeError.TheVariants as serve
use Rattle.blink_command.specs.declared.end.ProgramError.{ProgramError}
use Rattle.blink_command.specs.declared.end.ProgramError.TheVariants as program
use Rattle.blink_command.specs.declared.line.LineError.{LineError}
use Rattle.blink_command.specs.declared.line.LineError.TheVariants as line

abbrev pub code_of_line_error : LineError → ℕ
code_of_line_error (line.Usage text) = 80
code_of_line_error line.OutOfMemory = 81

-- 2 for the words, 3 for the script, 4 for a run, a step or memory, 5 for the output
abbrev pub status_of : ProgramError → ℕ
status_of (program.Line (line.Usage text)) = 2
status_of (program.Line line.OutOfMemory) = 4
status_of (program.Serve (serve.Script error)) = 3
status_of (program.Serve (serve.Run number error)) = 4
status_of (program.Serve (serve.Step error)) = 4
status_of (program.Serve serve.Output) = 5
status_of (program.Serve serve.OutOfMemory) = 4
status_of program.Memory = 4

-- 0 if all was written
abbrev pub status_of_end : Result (Unit {0}) ProgramError → ℕ
status_of_end (Ok done) = 0
status_of_end (Err error) = status_of error
