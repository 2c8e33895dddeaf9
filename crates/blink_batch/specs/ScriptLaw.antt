-- The script of some records, without a count or a recursion over them. The parts ask for what the records ask for, or some
-- record is the first that is refused.
use Rattle.std.specs.Prelude.{ℕ, ◌≡◌, ◌≢◌, ◌≤◌, ◌+◌, ◌↔◌, List, [], ◌∷◌, ◌++◌, length, map, Result, Ok, Err}
use Rattle.std.specs.List.{flat_map}
use Rattle.blink_batch.specs.declared.batch.TheConstants.{BATCH_LIMIT}
use Rattle.blink_batch.specs.declared.error.RecordError.{RecordError}
use Rattle.blink_batch.specs.declared.error.ScriptError.{ScriptError}
use Rattle.blink_batch.specs.declared.error.ScriptError.TheVariants.{Row, TooMany}
use Rattle.blink_operation.specs.declared.operation.Op.{Op}
use Rattle.blink_batch.specs.declared.record.Request.{Request}
use Rattle.blink_batch.specs.declared.record.Request.TheVariants as request
use Rattle.blink_batch.specs.declared.script.Part.{Part}
use Rattle.blink_batch.specs.declared.script.Part.TheVariants.{Batch, Scan, Page}
use Rattle.blink_batch.specs.Record.{request_of}
use Rattle.blink_batch.specs.Script.{script_of}

-- the requests of a part, one for each record
abbrev pub requests_in : Part → List Request
requests_in (Batch ops) = map request.Operation ops
requests_in (Scan lo hi) = request.Scan lo hi ∷ []
requests_in (Page lo n) = request.Page lo n ∷ []

-- batches aren't empty and are within the limit, and consecutive operations are one batch
pub record AreGrouped (parts : List Part) : Type 0 where
  pub none_empty : (before after : List Part) → parts ≢ before ++ Batch [] ∷ after
  pub within_limit : (before after : List Part) (ops : List Op)
      → parts ≡ before ++ Batch ops ∷ after → length ops ≤ BATCH_LIMIT
  pub no_neighbours : (before after : List Part) (ops others : List Op)
      → parts ≢ before ++ Batch ops ∷ Batch others ∷ after

-- the script of some records: they mean what the parts ask for, in that order
pub record HasParts (rows : List (List (List ℕ))) (parts : List Part) : Type 0 where
  pub meanings : map request_of rows ≡ map Ok (flat_map requests_in parts)
  pub grouped : AreGrouped parts

-- the last part is a full batch
pub record EndsInFullBatch (parts : List Part) : Type 0 where
  pub earlier : List Part
  pub ops : List Op
  pub last : parts ≡ earlier ++ Batch ops ∷ []
  pub full : length ops ≡ BATCH_LIMIT

-- the record of this number, after these parts, is refused if it means nothing, or is one operation too many
abbrev pub RefusedAfter : ℕ → List Part → Result Request RecordError → ScriptError → Type 0
RefusedAfter number parts (Err fault) error = error ≡ Row number fault
RefusedAfter number parts (Ok (request.Operation op)) error = (error ≡ TooMany number) × EndsInFullBatch parts
RefusedAfter number parts (Ok asked) error = ⊥

-- the first refusal of some records: those before it have parts
pub record IsRefused (rows : List (List (List ℕ))) (error : ScriptError) : Type 0 where
  pub before : List (List (List ℕ))
  pub row : List (List ℕ)
  pub after : List (List (List ℕ))
  pub in_order : rows ≡ before ++ row ∷ after
  pub parts : List Part
  pub parts_before : HasParts before parts
  pub refused : RefusedAfter (length before + 1) parts (request_of row) error

-- records are a script exactly if these are their parts
abbrev pub ScriptsHaveTheirParts : Type 0
ScriptsHaveTheirParts = (rows : List (List (List ℕ))) (parts : List Part)
    → (script_of rows ≡ Ok parts) ↔ HasParts rows parts

-- records are refused exactly by the first that is refused
abbrev pub FirstRefusalIsTold : Type 0
FirstRefusalIsTold = (rows : List (List (List ℕ))) (error : ScriptError)
    → (script_of rows ≡ Err error) ↔ IsRefused rows error
