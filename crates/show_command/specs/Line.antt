-- The requests of both command lines, by clap's reading of their words.

-- of `blink`, with the grammar's own words
pub use Rattle.blink_command.specs.Line.{Asks, AsksToReplay, AsksToRun, HasAllowedSizes, HasSizes, IsBadValue, IsTaken, Means, SubcommandMeans, blink, option, option_or, replay, run, value, wanting_subcommand, with_sizes}
-- of `blink-show`
pub use Rattle.show_command.specs.Grammar.{IsTakenToShow, replay_or_seed, show}
pub use Rattle.show_command.specs.Show.{AreTurns, AsksToShow, HasTurns, Shows, SubcommandShows, as_replay}
