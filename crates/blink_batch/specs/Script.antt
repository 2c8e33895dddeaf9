-- The script of a list of records: its parts, or its first refusal.
use Rattle.std.specs.Prelude.{ℕ, ◌≡◌, ◌+◌, List, [], ◌∷◌, Option, Some, Result, Ok, Err, ⊤, if◌then◌else◌, nat_lt}
use Rattle.csv.specs.Reading.{default_config, records, strip_bom}
use Rattle.csv.specs.declared.error.ErrorKind.{ErrorKind}
use Rattle.csv.specs.declared.error.ErrorKind.TheVariants as kind
use Rattle.blink_batch.specs.declared.batch.TheConstants.{BATCH_LIMIT}
use Rattle.blink_batch.specs.declared.error.RecordError.{RecordError}
use Rattle.blink_batch.specs.declared.error.ScriptError.{ScriptError}
use Rattle.blink_batch.specs.declared.error.ScriptError.TheVariants.{Row, TooMany, Csv, Read, OutOfMemory}
use Rattle.blink_operation.specs.declared.operation.Op.{Op}
use Rattle.blink_batch.specs.declared.script.Part.{Part}
use Rattle.blink_batch.specs.declared.script.Part.TheVariants.{Batch, Scan, Page}
use Rattle.blink_batch.specs.declared.record.Request.{Request}
use Rattle.blink_batch.specs.declared.record.Request.TheVariants as request
use Rattle.blink_batch.specs.Record.{request_of}

-- the records that csv gives of a text, each a list of its fields
abbrev pub records_of : List ℕ → List (List (List ℕ))
records_of text = records default_config (strip_bom text)

-- the part that a request makes by itself
abbrev pub alone : Request → Part
alone (request.Operation op) = Batch (op ∷ [])
alone (request.Scan lo hi) = Scan lo hi
alone (request.Page lo n) = Page lo n

-- an operation before the parts that follow it: the first operation of the batch that they begin with, or a batch of its own
abbrev pub joined : Op → List Part → List Part
joined op [] = Batch (op ∷ []) ∷ []
joined op (Batch ops ∷ parts) = Batch (op ∷ ops) ∷ parts
joined op (part ∷ parts) = Batch (op ∷ []) ∷ part ∷ parts

-- an operation before a script, or before a refusal, which is then the refusal of both
abbrev pub with_operation : Op → Result (List Part) ScriptError → Result (List Part) ScriptError
with_operation op (Ok parts) = Ok (joined op parts)
with_operation op (Err error) = Err error

-- before a script or a refusal, a part that joins no other
abbrev pub with_alone : Part → Result (List Part) ScriptError → Result (List Part) ScriptError
with_alone part (Ok parts) = Ok (part ∷ parts)
with_alone part (Err error) = Err error

-- the script of one record's meaning and of what follows, if the batch so far has `before` operations: any other request ends
-- the batch
abbrev pub script_by : ℕ → ℕ → Result Request RecordError → (ℕ → Result (List Part) ScriptError)
    → Result (List Part) ScriptError
script_by number before (Err fault) following = Err (Row number fault)
script_by number before (Ok (request.Operation op)) following =
    if nat_lt before BATCH_LIMIT then with_operation op (following (before + 1)) else Err (TooMany number)
script_by number before (Ok asked) following = with_alone (alone asked) (following 0)

-- the script of records counted from `number` on, if the batch so far has `before` operations
abbrev pub script_from : ℕ → ℕ → List (List (List ℕ)) → Result (List Part) ScriptError
script_from number before [] = Ok []
script_from number before (row ∷ rows) =
    script_by number before (request_of row) (λ taken. script_from (number + 1) taken rows)

-- the parts that records ask for, or their first refusal
abbrev pub script_of : List (List (List ℕ)) → Result (List Part) ScriptError
script_of rows = script_from 1 0 rows

-- if the text to be read is known, it gives these parts or this refusal
abbrev pub ReadsAs : Option (List ℕ) → Result (List Part) ScriptError → Type 0
ReadsAs to_read outcome = (text : List ℕ) → to_read ≡ Some text → script_of (records_of text) ≡ outcome

-- what a refusal says of the text to be read: nothing, if the cause is the reader, csv or memory
abbrev pub TellsRefusal : Option (List ℕ) → ScriptError → Type 0
TellsRefusal to_read (Row number fault) = ReadsAs to_read (Err (Row number fault))
TellsRefusal to_read (TooMany number) = ReadsAs to_read (Err (TooMany number))
TellsRefusal to_read (Csv number) = ⊤
TellsRefusal to_read Read = ⊤
TellsRefusal to_read OutOfMemory = ⊤

-- every record can be read: its length and its bytes are never the cause of a refusal
abbrev pub IsReadable : ScriptError → Type 0
IsReadable (Row number fault) = ⊤
IsReadable (TooMany number) = ⊤
IsReadable (Csv number) = ⊥
IsReadable Read = ⊤
IsReadable OutOfMemory = ⊤

-- a record that csv could not give: the reader failed, memory was refused, or the record is unreadable
abbrev pub refusal_of : ℕ → ErrorKind → ScriptError
refusal_of number (kind.Io error) = Read
refusal_of number kind.OutOfMemory = OutOfMemory
refusal_of number (kind.Utf8 place error) = Csv number
refusal_of number (kind.UnequalLengths place expected len) = Csv number
refusal_of number (kind.Serialize text) = Csv number
refusal_of number (kind.Deserialize place error) = Csv number
