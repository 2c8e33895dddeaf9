-- A script's run as its settings say. It runs over pages of their fan. Their workers run each batch, cut by their kind of cut,
-- by their driver.
use Rattle.std.specs.Prelude.{ℕ, ◌≡◌, ◌+◌, List, [], ◌∷◌, ◌++◌, Option, Some, Ok, count_by, ⊤}
use Rattle.blink_batch.specs.declared.Op.{Op}
use Rattle.blink_batch.specs.declared.Part.{Part}
use Rattle.blink_batch.specs.declared.Part.TheVariants.{Batch}
use Rattle.blink_batch.specs.{Assignment, map_after_all, records_of, script_of}
use Rattle.blink_index.specs.{map_of}
use Rattle.blink_live.specs.{IsNumberedInOrder}
use Rattle.blink_store.specs.{PlainStore, new_store}
use Rattle.blink_settings.specs.declared.error.RunError.{RunError}
use Rattle.blink_settings.specs.declared.error.ServeError.{ServeError}
use Rattle.blink_settings.specs.declared.error.ServeError.TheVariants as serve
use Rattle.blink_settings.specs.declared.settings.Driver.TheVariants.{Locked, Live}
use Rattle.blink_locked.specs.{HasFewPagesMore, IsReplayed, MayRefuse}
use Rattle.blink_replay.specs.{is_batch}
use Rattle.blink_settings.specs.{PlainSettings, lanes_by}

-- the worker of each operation
abbrev pub assignment_by : PlainSettings → List Op → Assignment
assignment_by settings ops = record { workers = settings.workers; lanes = lanes_by settings.cut settings.workers ops }

-- the batch led from the one tree to the other: under the lock it is that of a replay of these lanes; at a table its pages are
-- numbered anew
pub record RunsBatchBy (settings : PlainSettings) (before : PlainStore) (ops : List Op) (after : PlainStore) : Type 0 where
  pub map : map_of after ≡ map_after_all (map_of before) ops
  pub fan : after.fan ≡ before.fan
  pub pages : HasFewPagesMore before ops after
  pub locked : settings.driver ≡ Locked → IsReplayed before ops (assignment_by settings ops) after
  pub live : settings.driver ≡ Live → IsNumberedInOrder after

-- a part that is no batch leaves the tree as it is
abbrev pub RunsPartBy : PlainSettings → PlainStore → Part → PlainStore → Type 0
RunsPartBy settings before (Batch ops) after = RunsBatchBy settings before ops after
RunsPartBy settings before part after = after ≡ before

-- parts run one after another
abbrev pub RunsPartsBy : PlainSettings → PlainStore → List Part → PlainStore → Type 0
RunsPartsBy settings before [] after = after ≡ before
RunsPartsBy settings before (part ∷ parts) after = (between : PlainStore) × RunsPartBy settings before part between × RunsPartsBy settings between parts after

-- the parts of what was read lead from a new tree of the settings' fan to this tree
abbrev pub ServesBy : PlainSettings → Option (List ℕ) → PlainStore → Type 0
ServesBy settings to_read after = (read : List ℕ) → to_read ≡ Some read
    → (parts : List Part) × (script_of (records_of read) ≡ Ok parts) × RunsPartsBy settings (new_store settings.fan) parts after

-- they lead to some tree
abbrev pub IsServedBy : PlainSettings → Option (List ℕ) → Type 0
IsServedBy settings to_read = (after : PlainStore) × ServesBy settings to_read after

-- ---- which refusal of a batch comes

-- a batch that isn't run is refused as its run by these settings may be, on the tree before it
abbrev pub RefusesPart : PlainSettings → PlainStore → Part → ServeError → Type 0
RefusesPart settings before (Batch ops) (serve.Run number error) = MayRefuse settings.workers before ops error
RefusesPart settings before part (serve.Run number error) = ⊥
RefusesPart settings before part error = ⊤

-- the batch of this number, counted from 1, is refused so, after others that were run as the settings say
pub record StopsAt (settings : PlainSettings) (before : PlainStore) (parts : List Part) (number : ℕ) (error : RunError) : Type 0 where
  pub prefix : List Part
  pub ops : List Op
  pub rest : List Part
  pub in_order : parts ≡ prefix ++ Batch ops ∷ rest
  pub its_number : number ≡ count_by is_batch prefix + 1
  pub between : PlainStore
  pub ran : RunsPartsBy settings before prefix between
  pub refused : MayRefuse settings.workers between ops error

-- each refusal of a run comes so
abbrev pub TellsRun : PlainSettings → PlainStore → List Part → ServeError → Type 0
TellsRun settings before parts (serve.Run number error) = StopsAt settings before parts number error
TellsRun settings before parts error = ⊤

-- likewise for the parts of what was read
abbrev pub TellsRunOf : PlainSettings → Option (List ℕ) → ServeError → Type 0
TellsRunOf settings to_read (serve.Run number error) = (read : List ℕ) → to_read ≡ Some read
    → (parts : List Part) × (script_of (records_of read) ≡ Ok parts) × StopsAt settings (new_store settings.fan) parts number error
TellsRunOf settings to_read error = ⊤
