-- The grammar of the words of `blink-show`, and the words that clap finds no fault in by it.
use Rattle.std.specs.Prelude.{◌≡◌, List, [], codes}
use Rattle.clap.specs.Words.{App, Text, fault_of, new_app, with_rule, with_subcommand}
use Rattle.blink_command.specs.{option, replay, wanting_subcommand}

-- `replay [--workers N] [--fan F] [--schedule S] [--seed N]`
abbrev pub replay_or_seed : App
replay_or_seed = with_rule replay (option (codes "seed"))

-- the command for the words of `blink-show`, as those of a replay
abbrev pub show : App
show = with_subcommand (wanting_subcommand (new_app (codes "blink"))) replay_or_seed.top

-- clap finds no fault in the words
abbrev pub IsTakenToShow : List Text → Type 0
IsTakenToShow words = fault_of show words ≡ []
