-- The program's output for a command line, and what is left after a refusal.
use Rattle.std.specs.Prelude.{◌≡◌, ◌⊎◌, ⊤, ℕ, List, [], ◌++◌, Option, Some, None, Result, Ok, Err}
use Rattle.blink_batch.specs.{records_of}
use Rattle.blink_run.specs.{IsTextOf, OutputAfterError, Serves, ServesBy, IsReplayText, LeavesReplay, Replays, TellsFault, TellsReplayFault, TellsReplayOf, TellsRunOf}
use Rattle.blink_store.specs.{PlainStore}
use Rattle.blink_settings.specs.declared.error.ServeError.{ServeError}
use Rattle.blink_settings.specs.declared.error.ServeError.TheVariants as serve
use Rattle.blink_command.specs.declared.line.Line.{Line}
use Rattle.blink_command.specs.declared.line.Line.TheVariants.{Run, Replay}

-- the text of the script that is read, or its replay, stands after what was written before
abbrev pub Writes : Line → Option (List ℕ) → Option (List ℕ) → Option (List ℕ) → Type 0
Writes (Run settings) to_read before after = Serves to_read before after
Writes (Replay settings schedule) to_read before after = Replays settings.workers settings.fan schedule.items to_read before after

-- a run leaves an index that its settings lead to; a replay leaves none, and writes its pages
abbrev pub RunsBy : Line → Option (List ℕ) → Option PlainStore → Type 0
RunsBy (Run settings) to_read (Some after) = ServesBy settings to_read after
RunsBy (Run settings) to_read None = ⊥
RunsBy (Replay settings schedule) to_read left = left ≡ None

-- why a run or a replay fails: the refusals of `serve` and of `serve_replay`, each exactly where they say
abbrev pub IsLineFault : Line → Option (List ℕ) → ServeError → Type 0
IsLineFault (Run settings) to_read error = TellsFault to_read error × TellsRunOf settings to_read error
IsLineFault (Replay settings schedule) to_read error =
    TellsReplayFault settings.workers schedule.items to_read error × TellsReplayOf settings.workers settings.fan to_read error

-- the same, except that the output may fail at the end, whatever was read
abbrev pub IsFault : Line → Option (List ℕ) → ServeError → Type 0
IsFault line to_read (serve.Script error) = IsLineFault line to_read (serve.Script error)
IsFault line to_read (serve.Run number error) = IsLineFault line to_read (serve.Run number error)
IsFault line to_read (serve.Step error) = IsLineFault line to_read (serve.Step error)
IsFault line to_read serve.Output = ⊤
IsFault line to_read serve.OutOfMemory = IsLineFault line to_read serve.OutOfMemory

-- what a refusal leaves: of a run the lines of the parts before, and of a replay nothing; if the writer failed, a prefix of the
-- text
abbrev pub Leaves : Line → Option (List ℕ) → ServeError → Option (List ℕ) → Option (List ℕ) → Type 0
Leaves (Run settings) to_read error before after = OutputAfterError to_read error before after
Leaves (Replay settings schedule) to_read error before after = LeavesReplay settings.workers settings.fan schedule.items to_read error before after

-- the text of records that are a script
abbrev pub IsText : Line → List (List (List ℕ)) → List ℕ → Type 0
IsText (Run settings) records text = IsTextOf records text
IsText (Replay settings schedule) records text = IsReplayText settings.workers settings.fan schedule.items records text

-- behind what had left the buffer before stands a prefix of a text; what is refused has no text
pub record HasLeftPrefix (line : Line) (records : List (List (List ℕ))) (written : List ℕ) (after : Option (List ℕ)) : Type 0 where
  pub text : List ℕ
  pub its_text : IsText line records text ⊎ (text ≡ [])
  pub prefix : List ℕ
  pub rest : List ℕ
  pub in_order : text ≡ prefix ++ rest
  pub known : after ≡ Some (written ++ prefix)

-- what leaves the buffer then, if the bytes to be read and those that had left before are known
abbrev pub LetsOut : Line → Option (List ℕ) → ServeError → Option (List ℕ) → Option (List ℕ) → Type 0
LetsOut line to_read (serve.Script error) before after = Leaves line to_read (serve.Script error) before after
LetsOut line to_read (serve.Run number error) before after = Leaves line to_read (serve.Run number error) before after
LetsOut line to_read (serve.Step error) before after = Leaves line to_read (serve.Step error) before after
LetsOut line to_read serve.Output before after = (read written : List ℕ) → to_read ≡ Some read → before ≡ Some written → HasLeftPrefix line (records_of read) written after
LetsOut line to_read serve.OutOfMemory before after = Leaves line to_read serve.OutOfMemory before after

-- nothing is left in the buffer, unless the writer failed
abbrev pub HasLeft : Result (Option PlainStore) ServeError → List ℕ → Type 0
HasLeft (Ok index) buffer = buffer ≡ []
HasLeft (Err (serve.Script error)) buffer = buffer ≡ []
HasLeft (Err (serve.Run number error)) buffer = buffer ≡ []
HasLeft (Err (serve.Step error)) buffer = buffer ≡ []
HasLeft (Err serve.Output) buffer = ⊤
HasLeft (Err serve.OutOfMemory) buffer = buffer ≡ []
