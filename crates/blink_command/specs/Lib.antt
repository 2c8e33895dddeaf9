-- What a caller of `blink_command` reads, in this order; then what contracts and proofs above it need; then the files themselves.

-- the request of the words of a command line, by clap's reading of them
pub use Rattle.blink_command.specs.Line.{Asks, HasAllowedSizes, IsBadValue, IsTaken, blink}
-- the grammar of the command line: its commands, options and subcommands
pub use Rattle.blink_command.specs.Grammar.{option, option_or, replay, run, wanting_subcommand, with_sizes}
-- the meaning of the values of options
pub use Rattle.blink_command.specs.Value.{IsSchedule, cut_of, driver_of, fan_of, workers_of}
-- the end of a program, and what it writes on standard error
pub use Rattle.blink_command.specs.End.{IsLineOf, failure_of}
-- the code of each refusal, and the exit status that reports it
pub use Rattle.blink_command.specs.Codes.{code_of_line_error, status_of, status_of_end}
-- ---- for contracts and proofs above
pub use Rattle.blink_command.specs.Line.{HasSizes, value}
-- ---- files that crates above name
pub mod Line
pub mod Value
pub mod End
pub mod Codes
-- ---- files that no crate above names
pub mod Grammar
