-- The program's output for a command line, and what is left after a refusal.
use Rattle.std.specs.Prelude.{◌≡◌, ℕ, List, Option}
use Rattle.std.specs.Io.KnownBytes.{Keeps}
use Rattle.clap.specs.Words.{Text}
use Rattle.show_command.specs.{AsksToShow, as_replay}
use Rattle.show_command.specs.declared.ProgramError.{ProgramError}
use Rattle.show_command.specs.declared.ProgramError.TheVariants as program
use Rattle.show_command.specs.declared.LineError.TheVariants.{OutOfMemory}
use Rattle.show_command.specs.declared.Turns.{Turns}
use Rattle.show_command.specs.declared.Turns.TheVariants.{Schedule, Seed}
use Rattle.blink_replay.specs.{WritesText, TellsReplayFault, TellsWorkersFault}
use Rattle.blink_settings.specs.declared.error.ServeError.{ServeError}
use Rattle.blink_settings.specs.{PlainSettings}
use Rattle.blink_show.specs.{IsSeedText, IsShowText, LeavesShow}

-- the page of records that are a script, for these turns
abbrev pub IsPage : List ℕ → List ℕ → PlainSettings → Turns → List (List (List ℕ)) → List ℕ → Type 0
IsPage head tail settings (Schedule schedule) records text = IsShowText head tail settings.workers settings.fan schedule.items records text
IsPage head tail settings (Seed seed) records text = IsSeedText head tail settings.workers settings.fan seed records text

-- the words ask to show turns of a replay, and its page stands after what was written before
pub record WritesPage (head tail : List ℕ) (words : List Text) (to_read before after : Option (List ℕ)) : Type 0 where
  pub settings : PlainSettings
  pub turns : Turns
  pub asks : AsksToShow (as_replay words) settings turns
  pub writes : WritesText (IsPage head tail settings turns) to_read before after

-- the page that the words ask for isn't written, and this is left
pub record LeavesPage (head tail : List ℕ) (words : List Text) (to_read : Option (List ℕ)) (error : ServeError) (before after : Option (List ℕ)) : Type 0 where
  pub settings : PlainSettings
  pub turns : Turns
  pub asks : AsksToShow (as_replay words) settings turns
  pub leaves : LeavesShow (IsPage head tail settings turns) to_read error before after

-- nothing was written, unless the writer failed: then a prefix of such a page was
abbrev pub Leaves : List ℕ → List ℕ → List Text → Option (List ℕ) → ProgramError → Option (List ℕ) → Option (List ℕ) → Type 0
Leaves head tail words to_read (program.Serve error) before after = LeavesPage head tail words to_read error before after
Leaves head tail words to_read error before after = Keeps before after

-- why these turns aren't shown
abbrev pub TellsFault : PlainSettings → Turns → Option (List ℕ) → ServeError → Type 0
TellsFault settings (Schedule schedule) to_read error = TellsReplayFault settings.workers schedule.items to_read error
TellsFault settings (Seed seed) to_read error = TellsWorkersFault to_read error

-- the words ask to show turns that aren't shown for this reason
pub record TellsPageFault (words : List Text) (to_read : Option (List ℕ)) (error : ServeError) : Type 0 where
  pub settings : PlainSettings
  pub turns : Turns
  pub asks : AsksToShow (as_replay words) settings turns
  pub fault : TellsFault settings turns to_read error

-- why no page is written: the words ask for none, or memory was refused; or the page that they ask for isn't made
abbrev pub IsFault : List Text → Option (List ℕ) → ProgramError → Type 0
IsFault words to_read (program.Line error) = (settings : PlainSettings) (turns : Turns) → AsksToShow (as_replay words) settings turns → error ≡ OutOfMemory
IsFault words to_read (program.Serve error) = TellsPageFault words to_read error
IsFault words to_read program.Memory = ⊥
