-- The output of a script's replay: the trace of its last batch, the text of its parts, and the pages at the end.
use Rattle.std.specs.Prelude.{ℕ, ◌≡◌, ◌⊎◌, ◌==◌, Bool, List, [], ◌∷◌, ◌++◌, Option, Some, Ok, if◌then◌else◌, count_by, ⊤}
use Rattle.std.specs.Io.KnownBytes.{Keeps}
use Rattle.blink_batch.specs.declared.Op.{Op}
use Rattle.blink_batch.specs.declared.Part.{Part}
use Rattle.blink_batch.specs.declared.Part.TheVariants.{Batch}
use Rattle.blink_batch.specs.{IsReadable, TellsRefusal, records_of, script_of}
use Rattle.blink_index.specs.{text_of_store}
use Rattle.blink_store.specs.{PlainStore, new_store}
use Rattle.blink_steps.specs.declared.StepError.TheVariants as step
use Rattle.blink_steps.specs.{IsFirstNoWorker, IsTooLarge}
use Rattle.blink_replay.specs.Replay.{IsRefusedMemory, IsReplayFault, RunsBatch, TellsBatch}
use Rattle.blink_replay.specs.Served.{IsAScript, IsPrefixOf, WritesText, is_batch, script_text}
use Rattle.blink_replay.specs.TrackedWriter.{OutputFails}
use Rattle.blink_settings.specs.declared.error.ServeError.{ServeError}
use Rattle.blink_settings.specs.declared.error.ServeError.TheVariants as serve

-- the turns of a batch that this many batches follow: the last takes the whole schedule, and the others take none of it
abbrev pub scheduled_turns : ℕ → List ℕ → List ℕ
scheduled_turns batches_left schedule = if batches_left == 0 then schedule else []

-- parts run one after another, from one tree to another, with these traces of their batches
abbrev pub RunsParts : ℕ → List ℕ → PlainStore → List Part → PlainStore → List ℕ → Type 0
RunsParts workers schedule before [] after trace = (after ≡ before) × (trace ≡ [])
RunsParts workers schedule before (Batch ops ∷ rest) after trace = (between : PlainStore) × (first : List ℕ) × (others : List ℕ)
    × RunsBatch workers (scheduled_turns (count_by is_batch rest) schedule) before ops between first
    × RunsParts workers schedule between rest after others × (trace ≡ first ++ others)
RunsParts workers schedule before (part ∷ rest) after trace = RunsParts workers schedule before rest after trace

-- parts run without a schedule, from one tree to another
abbrev pub HaveRunParts : ℕ → PlainStore → List Part → PlainStore → Type 0
HaveRunParts workers before parts after = (trace : List ℕ) × RunsParts workers [] before parts after trace

-- the text of a replay of records that are a script: trace, text and pages
pub record IsReplayText (workers fan : ℕ) (schedule : List ℕ) (records : List (List (List ℕ))) (text : List ℕ) : Type 0 where
  pub parts : List Part
  pub a_script : script_of records ≡ Ok parts
  pub after : PlainStore
  pub trace : List ℕ
  pub runs : RunsParts workers schedule (new_store fan) parts after trace
  pub its_text : text ≡ trace ++ (script_text [] parts ++ text_of_store after)

-- this text stands after what was written before
abbrev pub Replays : ℕ → ℕ → List ℕ → Option (List ℕ) → Option (List ℕ) → Option (List ℕ) → Type 0
Replays workers fan schedule to_read before after = WritesText (IsReplayText workers fan schedule) to_read before after

-- why a script isn't replayed although each number of the schedule is a worker: it is no script; a batch is too large for its
-- tree; the writer failed, or memory was refused
abbrev pub TellsWorkersFault : Option (List ℕ) → ServeError → Type 0
TellsWorkersFault to_read (serve.Script error) = IsReadable error × TellsRefusal to_read error
TellsWorkersFault to_read (serve.Run number error) = ⊥
TellsWorkersFault to_read (serve.Step (step.NoWorker worker)) = ⊥
TellsWorkersFault to_read (serve.Step step.TooLarge) = ⊤
TellsWorkersFault to_read (serve.Step step.OutOfMemory) = ⊤
TellsWorkersFault to_read serve.Output = ⊤
TellsWorkersFault to_read serve.OutOfMemory = ⊤

-- why a script isn't replayed: for the first number of the schedule that is no worker, or for one of those causes
abbrev pub TellsReplayFault : ℕ → List ℕ → Option (List ℕ) → ServeError → Type 0
TellsReplayFault workers schedule to_read error =
    ((worker : ℕ) × (error ≡ serve.Step (step.NoWorker worker)) × IsFirstNoWorker workers schedule worker) ⊎ TellsWorkersFault to_read error

-- nothing was written, unless the writer failed: then a prefix of the text of the replay was written
abbrev pub LeavesReplay : ℕ → ℕ → List ℕ → Option (List ℕ) → ServeError → Option (List ℕ) → Option (List ℕ) → Type 0
LeavesReplay workers fan schedule to_read (serve.Script error) before after = Keeps before after
LeavesReplay workers fan schedule to_read (serve.Run number error) before after = Keeps before after
LeavesReplay workers fan schedule to_read (serve.Step error) before after = Keeps before after
LeavesReplay workers fan schedule to_read serve.Output before after = WritesText (IsPrefixOf (IsReplayText workers fan schedule)) to_read before after
LeavesReplay workers fan schedule to_read serve.OutOfMemory before after = Keeps before after

-- one of the parts is a batch that is too large for the tree that the parts before it leave
pub record HaveTooLarge (workers : ℕ) (before : PlainStore) (parts : List Part) : Type 0 where
  pub prefix : List Part
  pub ops : List Op
  pub rest : List Part
  pub in_order : parts ≡ prefix ++ Batch ops ∷ rest
  pub between : PlainStore
  pub ran : HaveRunParts workers before prefix between
  pub too_large : IsTooLarge between ops

-- what else a refusal says of what was read: if a batch is refused as too large, some batch is; and if the refusal isn't the
-- script's, what was read is a script
abbrev pub TellsReplayOf : ℕ → ℕ → Option (List ℕ) → ServeError → Type 0
TellsReplayOf workers fan to_read (serve.Script error) = ⊤
TellsReplayOf workers fan to_read (serve.Step (step.NoWorker worker)) = ⊤
TellsReplayOf workers fan to_read (serve.Step step.TooLarge) = (read : List ℕ) → to_read ≡ Some read
    → (parts : List Part) × (script_of (records_of read) ≡ Ok parts) × HaveTooLarge workers (new_store fan) parts
TellsReplayOf workers fan to_read error = IsAScript to_read

-- ---- parts one after another, while they run

-- the trace of a part's batch stands after the trace before it; a part that is no batch changes nothing
abbrev pub TellsPart : ℕ → List ℕ → PlainStore → Part → List ℕ → List ℕ → PlainStore → Type 0
TellsPart workers schedule before (Batch ops) old new after = TellsBatch workers schedule before ops old new after
TellsPart workers schedule before part old new after = (after ≡ before) × (new ≡ old)

-- the traces of parts likewise
abbrev pub TellsParts : ℕ → List ℕ → PlainStore → List Part → List ℕ → List ℕ → PlainStore → Type 0
TellsParts workers schedule before parts old new after =
    (trace : List ℕ) × RunsParts workers schedule before parts after trace × (new ≡ old ++ trace)

-- why a part isn't run to its end: it is a batch that is too large for this tree, or memory was refused
abbrev pub IsPartRefusal : PlainStore → Part → ServeError → Type 0
IsPartRefusal before (Batch ops) error = IsReplayFault before ops error
IsPartRefusal before part error = IsRefusedMemory error

-- if the refusal says that a batch among the parts is too large, one is
abbrev pub TellsTooLarge : ℕ → PlainStore → List Part → ServeError → Type 0
TellsTooLarge workers before parts error = error ≡ serve.Step step.TooLarge → HaveTooLarge workers before parts

-- why the texts of a replay aren't written: memory was refused before the first call of the writer, or the writer failed, and
-- that was the last call
abbrev pub TextsOutputAfterError : {O : Type 0} → (O → List ℕ → Option ℕ → O → Type 0) → (O → Bool → O → Type 0) → List ℕ → ServeError → O → O → Type 0
TextsOutputAfterError offered settled text error before after = ((error ≡ serve.OutOfMemory) × (after ≡ before)) ⊎ OutputFails offered settled before text error after

-- this is the text of the replay of what is read
abbrev pub AreToWrite : ℕ → ℕ → List ℕ → Option (List ℕ) → List ℕ → Type 0
AreToWrite workers fan schedule to_read text = (read : List ℕ) → to_read ≡ Some read → IsReplayText workers fan schedule (records_of read) text

-- why parts aren't run to their end: a batch is too large for its tree, or memory was refused
abbrev pub IsPartsFault : ServeError → Type 0
IsPartsFault error = (error ≡ serve.Step step.TooLarge) ⊎ IsRefusedMemory error
