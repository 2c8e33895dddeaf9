-- The request of the words of `blink-show`, by clap's reading of them.
use Rattle.std.specs.Prelude.{◌≡◌, List, [], ◌∷◌, Option, Some, None, codes, drop, unwrap_or}
use Rattle.clap.specs.Words.{Row, Text, subcommand_of}
use Rattle.blink_settings.specs.{PlainSettings}
use Rattle.blink_settings.specs.declared.settings.Driver.TheVariants.{Locked}
use Rattle.blink_settings.specs.declared.settings.CutKind.TheVariants.{Residue}
use Rattle.blink_batch.specs.{number_of}
use Rattle.blink_command.specs.{HasSizes, IsSchedule, value}
use Rattle.show_command.specs.Grammar.{IsTakenToShow, show}
use Rattle.show_command.specs.declared.show.Turns.{Turns}
use Rattle.show_command.specs.declared.show.Turns.TheVariants.{Schedule, Seed}

-- the words of `blink-show`, the program's name first, as those of `blink replay`
abbrev pub as_replay : List Text → List Text
as_replay words = codes "blink" ∷ codes "replay" ∷ drop 1 words

-- a schedule or a seed spells these turns; without both the schedule is empty, and both together spell no turns
abbrev pub AreTurns : Option Text → Option Text → Turns → Type 0
AreTurns schedule None (Schedule turns) = IsSchedule (unwrap_or schedule []) turns.items
AreTurns schedule None (Seed number) = ⊥
AreTurns None (Some seed) (Seed number) = number_of seed ≡ Some number
AreTurns None (Some seed) (Schedule turns) = ⊥
AreTurns (Some schedule) (Some seed) turns = ⊥

-- the options of a replay with these settings and turns
pub record HasTurns (rows : List Row) (settings : PlainSettings) (turns : Turns) : Type 0 where
  pub sizes : HasSizes rows settings
  pub cut : settings.cut ≡ Residue
  pub driver : settings.driver ≡ Locked
  pub spelled : AreTurns (value rows (codes "schedule")) (value rows (codes "seed")) turns

-- the subcommand, with the values that its options have, asks to show these turns
abbrev pub Shows : Text → List Row → PlainSettings → Turns → Type 0
Shows name rows settings turns = (name ≡ codes "replay") × HasTurns rows settings turns

abbrev pub SubcommandShows : Option (Text × List Row) → PlainSettings → Turns → Type 0
SubcommandShows None settings turns = ⊥
SubcommandShows (Some subcommand) settings turns = Shows subcommand.0 subcommand.1 settings turns

-- clap takes the words of `blink-show`, written as those of `blink replay`, and their options ask for these turns
abbrev pub AsksToShow : List Text → PlainSettings → Turns → Type 0
AsksToShow words settings turns = IsTakenToShow words × SubcommandShows (subcommand_of show words) settings turns
