-- The grammar of the command line, and the words that clap finds no fault in by it.
use Rattle.std.specs.Prelude.{◌≡◌, List, [], ◌∷◌, Some, codes, true}
use Rattle.clap.specs.Words.{App, Rule, Text, fault_of, new_app, new_rule, with_rule, with_subcommand}

-- an option of this name, with one value
abbrev pub option : Text → Rule
option name = record (new_rule name) { long = Some name; value_names = 1 }

-- the same, with the value that it has if it isn't given
abbrev pub option_or : Text → Text → Rule
option_or name default = record (option name) { defaults = default ∷ [] }

-- `[--workers N] [--fan F]`
abbrev pub with_sizes : App → App
with_sizes app = with_rule (with_rule app (option_or (codes "workers") (codes "4"))) (option_or (codes "fan") (codes "16"))

-- `run [--workers N] [--fan F] [--cut residue|ranges] [--driver locked|live]`
abbrev pub run : App
run = with_rule (with_rule (with_sizes (new_app (codes "run"))) (option_or (codes "cut") (codes "residue"))) (option_or (codes "driver") (codes "locked"))

-- `replay [--workers N] [--fan F] [--schedule S]`
abbrev pub replay : App
replay = with_rule (with_sizes (new_app (codes "replay"))) (option (codes "schedule"))

-- a command that wants a subcommand
abbrev pub wanting_subcommand : App → App
wanting_subcommand app = record app { top = record app.top { subcommand_required = true } }

-- `blink run ..`, and no other subcommand
abbrev pub runner : App
runner = with_subcommand (wanting_subcommand (new_app (codes "blink"))) run.top

-- the whole command: `blink run ..` and `blink replay ..`
abbrev pub blink : App
blink = with_subcommand runner replay.top

-- clap finds no fault in the words
abbrev pub IsTaken : List Text → Type 0
IsTaken words = fault_of blink words ≡ []
