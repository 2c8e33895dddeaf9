-- What a caller of `show_command` reads, in this order; then what stands below; then the files themselves.

-- the request of the words of a command line, by clap's reading of them
pub use Rattle.show_command.specs.Line.{Asks, AsksToShow, HasAllowedSizes, IsBadValue, IsTaken, IsTakenToShow, as_replay, blink, show}
-- the meaning of the values of options
pub use Rattle.blink_command.specs.{IsSchedule, cut_of, driver_of, fan_of, workers_of}
-- the end of a program, and what it writes on standard error
pub use Rattle.blink_command.specs.{IsLineOf, failure_of}
-- the code of each refusal, and the exit status that reports it
pub use Rattle.blink_command.specs.{code_of_line_error, status_of, status_of_end}
-- ---- what stands below, by its files
pub use Rattle.blink_command.specs.Value
pub use Rattle.blink_command.specs.End
pub use Rattle.blink_command.specs.Codes
-- ---- files that no crate above names
pub mod Line
pub mod Show
pub mod Grammar
