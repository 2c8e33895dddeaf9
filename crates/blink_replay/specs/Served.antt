-- The output for a script: the text of its parts, one after another, by one thread on one plain map.
use Rattle.std.specs.Prelude.{ℕ, ◌≡◌, ◌+◌, ◌⊎◌, List, [], ◌∷◌, ◌++◌, Option, Some, Ok, Bool, true, false, count_by, filter, take, ⊤}
use Rattle.std.specs.Io.KnownBytes.{Keeps}
use Rattle.blink_batch.specs.declared.Entry.{Entry}
use Rattle.blink_batch.specs.declared.Op.{Op}
use Rattle.blink_batch.specs.declared.Part.{Part}
use Rattle.blink_batch.specs.declared.Part.TheVariants.{Batch, Scan, Page}
use Rattle.blink_batch.specs.{answers, map_after_all, IsReadable, TellsRefusal, records_of, script_of, text_of}
use Rattle.blink_index.specs.{is_from, is_within}
use Rattle.blink_replay.specs.TrackedWriter.{WritesPrefix, WritesAll}
use Rattle.blink_replay.specs.Text.{scan_text}
use Rattle.blink_settings.specs.declared.error.RunError.{RunError}
use Rattle.blink_settings.specs.declared.error.ServeError.{ServeError}
use Rattle.blink_settings.specs.declared.error.ServeError.TheVariants as serve

-- ---- the text of parts

-- a line for each answer of a batch, or for each entry that a scan or a page shows
abbrev pub part_text : List Entry → Part → List ℕ
part_text map (Batch ops) = text_of (answers map ops)
part_text map (Scan lo hi) = scan_text (filter (is_within lo hi) map)
part_text map (Page lo n) = scan_text (take n (filter (is_from lo) map))

-- the map after a part: a part that is no batch changes nothing
abbrev pub part_after : List Entry → Part → List Entry
part_after map (Batch ops) = map_after_all map ops
part_after map part = map

-- the texts of parts, each on the map that those before it leave
abbrev pub script_text : List Entry → List Part → List ℕ
script_text map [] = []
script_text map (part ∷ parts) = part_text map part ++ script_text (part_after map part) parts

abbrev pub map_after_parts : List Entry → List Part → List Entry
map_after_parts map [] = map
map_after_parts map (part ∷ parts) = map_after_parts (part_after map part) parts

-- ---- what is written

-- the text of records that are a script: that of its parts, on an empty map
pub record IsTextOf (records : List (List (List ℕ))) (text : List ℕ) : Type 0 where
  pub parts : List Part
  pub a_script : script_of records ≡ Ok parts
  pub its_text : text ≡ script_text [] parts

-- if the bytes to be read and those written before are known, a text of what is read stands after those written before
abbrev pub WritesText : (List (List (List ℕ)) → List ℕ → Type 0) → Option (List ℕ) → Option (List ℕ) → Option (List ℕ) → Type 0
WritesText is_text to_read before after = (read written : List ℕ) → to_read ≡ Some read → before ≡ Some written
    → (text : List ℕ) × is_text (records_of read) text × (after ≡ Some (written ++ text))

-- all of a script's text is written
abbrev pub Serves : Option (List ℕ) → Option (List ℕ) → Option (List ℕ) → Type 0
Serves to_read before after = WritesText IsTextOf to_read before after

-- ---- what a refusal leaves

abbrev pub is_batch : Part → Bool
is_batch (Batch ops) = true
is_batch part = false

-- the text of a script's first parts, which other parts follow
pub record IsTextBefore (records : List (List (List ℕ))) (prefix rest : List Part) (text : List ℕ) : Type 0 where
  pub a_script : script_of records ≡ Ok (prefix ++ rest)
  pub its_text : text ≡ script_text [] prefix

-- the text of the parts before a batch of this number, counted from 1
pub record IsTextBeforeBatch (number : ℕ) (records : List (List (List ℕ))) (text : List ℕ) : Type 0 where
  pub prefix : List Part
  pub ops : List Op
  pub rest : List Part
  pub its_number : number ≡ count_by is_batch prefix + 1
  pub before : IsTextBefore records prefix (Batch ops ∷ rest) text

-- the text of some first parts
abbrev pub IsTextOfPrefix : List (List (List ℕ)) → List ℕ → Type 0
IsTextOfPrefix records text = (prefix : List Part) × (rest : List Part) × IsTextBefore records prefix rest text

-- a prefix of a text, possibly the whole
abbrev pub IsPrefixOf : (List (List (List ℕ)) → List ℕ → Type 0) → List (List (List ℕ)) → List ℕ → Type 0
IsPrefixOf is_text records text = (rest : List ℕ) × is_text records (text ++ rest)

-- what is to be read is a script
abbrev pub IsAScript : Option (List ℕ) → Type 0
IsAScript to_read = (read : List ℕ) → to_read ≡ Some read → (parts : List Part) × (script_of (records_of read) ≡ Ok parts)

-- a refusal of the script is the reader's own, and after every other refusal what was read is a script; no step is refused by
-- itself
abbrev pub TellsFault : Option (List ℕ) → ServeError → Type 0
TellsFault to_read (serve.Script error) = IsReadable error × TellsRefusal to_read error
TellsFault to_read (serve.Step error) = ⊥
TellsFault to_read error = IsAScript to_read

-- after a refusal of the script nothing was written; after one of a run or of memory exactly the lines of the parts before;
-- after a failure of the writer a prefix of the text of all parts
abbrev pub OutputAfterError : Option (List ℕ) → ServeError → Option (List ℕ) → Option (List ℕ) → Type 0
OutputAfterError to_read (serve.Script error) before after = Keeps before after
OutputAfterError to_read (serve.Run number error) before after = WritesText (IsTextBeforeBatch number) to_read before after
OutputAfterError to_read (serve.Step error) before after = ⊥
OutputAfterError to_read serve.Output before after = WritesText (IsPrefixOf IsTextOf) to_read before after
OutputAfterError to_read serve.OutOfMemory before after = WritesText IsTextOfPrefix to_read before after

-- ---- parts one after another, while they are served

-- why a part isn't served: its batch, of this number, isn't run, or the writer failed, or memory was refused
abbrev pub IsPartFault : Part → ℕ → ServeError → Type 0
IsPartFault part number (serve.Script error) = ⊥
IsPartFault part number (serve.Run told error) = (told ≡ number) × (is_batch part ≡ true)
IsPartFault part number (serve.Step error) = ⊥
IsPartFault part number serve.Output = ⊤
IsPartFault part number serve.OutOfMemory = ⊤

-- why a batch of this number isn't run
abbrev pub IsBatchFault : ℕ → ServeError → Type 0
IsBatchFault number error = ((fault : RunError) × (error ≡ serve.Run number fault)) ⊎ (error ≡ serve.OutOfMemory)

-- after such a refusal of a part nothing of its text was written; if the writer failed, that was the last call
abbrev pub PartOutputAfterError : {O : Type 0} → (O → List ℕ → Option ℕ → O → Type 0) → (O → Bool → O → Type 0) → List ℕ → ServeError → O → O → Type 0
PartOutputAfterError offered settled text (serve.Script error) before after = ⊥
PartOutputAfterError offered settled text (serve.Run number error) before after = after ≡ before
PartOutputAfterError offered settled text (serve.Step error) before after = ⊥
PartOutputAfterError offered settled text serve.Output before after = WritesPrefix offered settled before text after
PartOutputAfterError offered settled text serve.OutOfMemory before after = after ≡ before

-- the lines of the parts before others are written
pub record WroteBefore {O : Type 0} (offered : O → List ℕ → Option ℕ → O → Type 0) (map : List Entry) (parts prefix rest : List Part) (before after : O) : Type 0 where
  pub in_order : parts ≡ prefix ++ rest
  pub written : WritesAll offered before (script_text map prefix) after

-- the lines of the parts before a batch of this number
pub record WroteBeforeBatch {O : Type 0} (offered : O → List ℕ → Option ℕ → O → Type 0) (number : ℕ) (map : List Entry) (parts : List Part) (before after : O) : Type 0 where
  pub prefix : List Part
  pub ops : List Op
  pub rest : List Part
  pub its_number : number ≡ count_by is_batch prefix + 1
  pub wrote : WroteBefore offered map parts prefix (Batch ops ∷ rest) before after

-- what is written if some of the parts aren't served
abbrev pub PrefixOutputAfterError : {O : Type 0} → (O → List ℕ → Option ℕ → O → Type 0) → (O → Bool → O → Type 0) → List Entry → List Part → ServeError → O → O → Type 0
PrefixOutputAfterError offered settled map parts (serve.Script error) before after = ⊥
PrefixOutputAfterError offered settled map parts (serve.Run number error) before after = WroteBeforeBatch offered number map parts before after
PrefixOutputAfterError offered settled map parts (serve.Step error) before after = ⊥
PrefixOutputAfterError offered settled map parts serve.Output before after = WritesPrefix offered settled before (script_text map parts) after
PrefixOutputAfterError offered settled map parts serve.OutOfMemory before after =
    (prefix : List Part) × (rest : List Part) × WroteBefore offered map parts prefix rest before after

-- what was written is flushed, unless the writer failed
abbrev pub FlushedOutputAfterError : {O : Type 0} → (O → List ℕ → Option ℕ → O → Type 0) → (O → Bool → O → Type 0) → List Entry → List Part → ServeError → O → O → Type 0
FlushedOutputAfterError offered settled map parts serve.Output before after = WritesPrefix offered settled before (script_text map parts) after
FlushedOutputAfterError {O} offered settled map parts error before after = (between : O) × PrefixOutputAfterError offered settled map parts error before between × settled between true after
