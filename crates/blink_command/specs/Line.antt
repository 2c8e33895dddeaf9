-- The request of the words of a command line, by clap's reading of them.
use Rattle.std.specs.Prelude.{◌≡◌, ⊤, ℕ, List, [], Option, Some, None, codes, option_and_then, string_bytes, unwrap_or}
use Rattle.clap.specs.Words.{Row, Text, first_of, subcommand_of}
use Rattle.blink_settings.specs.{IsAllowed, PlainSettings}
use Rattle.blink_settings.specs.declared.settings.Driver.TheVariants.{Locked}
use Rattle.blink_settings.specs.declared.settings.CutKind.TheVariants.{Residue}
use Rattle.blink_command.specs.Value.{IsSchedule, cut_of, driver_of, fan_of, workers_of}
use Rattle.blink_command.specs.declared.line.Line.{Line}
use Rattle.blink_command.specs.declared.line.Line.TheVariants.{Run, Replay}
use Rattle.blink_command.specs.declared.line.LineError.{LineError}
use Rattle.blink_command.specs.declared.line.LineError.TheVariants.{Usage, OutOfMemory}
-- the grammar's own words
pub use Rattle.blink_command.specs.Grammar.{IsTaken, blink, option, option_or, replay, run, wanting_subcommand, with_sizes}

-- the value of an option, given or by default
abbrev pub value : List Row → Text → Option Text
value rows name = first_of name rows

-- the options spell these sizes
pub record HasSizes (rows : List Row) (settings : PlainSettings) : Type 0 where
  pub workers : option_and_then workers_of (value rows (codes "workers")) ≡ Some settings.workers
  pub fan : option_and_then fan_of (value rows (codes "fan")) ≡ Some settings.fan

-- `run` with these options
pub record AsksToRun (rows : List Row) (settings : PlainSettings) : Type 0 where
  pub sizes : HasSizes rows settings
  pub cut : option_and_then cut_of (value rows (codes "cut")) ≡ Some settings.cut
  pub driver : option_and_then driver_of (value rows (codes "driver")) ≡ Some settings.driver

-- `replay` with these options; without a schedule its text is empty
pub record AsksToReplay (rows : List Row) (settings : PlainSettings) (schedule : List ℕ) : Type 0 where
  pub sizes : HasSizes rows settings
  pub cut : settings.cut ≡ Residue
  pub driver : settings.driver ≡ Locked
  pub turns : IsSchedule (unwrap_or (value rows (codes "schedule")) []) schedule

-- the subcommand, with the values that its options have, asks for this
abbrev pub Means : Text → List Row → Line → Type 0
Means name rows (Run settings) = (name ≡ codes "run") × AsksToRun rows settings
Means name rows (Replay settings schedule) = (name ≡ codes "replay") × AsksToReplay rows settings schedule.items

abbrev pub SubcommandMeans : Option (Text × List Row) → Line → Type 0
SubcommandMeans None line = ⊥
SubcommandMeans (Some subcommand) line = Means subcommand.0 subcommand.1 line

-- clap takes the words, and their subcommand asks for this
abbrev pub Asks : List Text → Line → Type 0
Asks words line = IsTaken words × SubcommandMeans (subcommand_of blink words) line

-- the workers and the fan are allowed
abbrev pub HasAllowedSizes : Line → Type 0
HasAllowedSizes (Run settings) = IsAllowed settings.workers settings.fan
HasAllowedSizes (Replay settings schedule) = IsAllowed settings.workers settings.fan

-- the refusal of a value, unless memory was refused
abbrev pub IsBadValue : LineError → Type 0
IsBadValue (Usage text) = string_bytes text ≡ codes "usage: bad value"
IsBadValue OutOfMemory = ⊤
