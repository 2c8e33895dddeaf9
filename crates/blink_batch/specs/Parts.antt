-- A script as far as it is read: the closed parts, which nothing joins any more, and the operations of the open batch.
use Rattle.std.specs.Prelude.{◌≤◌, List, [], ◌∷◌, ◌++◌, length}
use Rattle.blink_batch.specs.declared.batch.TheConstants.{BATCH_LIMIT}
use Rattle.blink_operation.specs.declared.operation.Op.{Op}
use Rattle.blink_batch.specs.declared.record.Request.{Request}
use Rattle.blink_batch.specs.declared.record.Request.TheVariants as request
use Rattle.blink_batch.specs.declared.script.Part.{Part}
use Rattle.blink_batch.specs.declared.script.Part.TheVariants.{Batch}
use Rattle.blink_batch.specs.Script.{alone}

pub record PartsSoFar : Type 0 where
  pub closed : List Part
  pub pending : List Op

-- consecutive operations form one batch, and a batch isn't empty
abbrev pub parts_of : List Op → List Part
parts_of [] = []
parts_of (op ∷ ops) = Batch (op ∷ ops) ∷ []

-- the parts, if nothing more comes
abbrev pub all_parts : PartsSoFar → List Part
all_parts parts = parts.closed ++ parts_of parts.pending

-- the open batch takes no further operation
abbrev pub IsFull : PartsSoFar → Type 0
IsFull parts = BATCH_LIMIT ≤ length parts.pending

-- one more operation in the open batch
abbrev pub with_pending : PartsSoFar → Op → PartsSoFar
with_pending parts op = record { closed = parts.closed; pending = parts.pending ++ op ∷ [] }

-- one more part after the closed ones
abbrev pub with_part : PartsSoFar → Part → PartsSoFar
with_part parts part = record { closed = parts.closed ++ part ∷ []; pending = parts.pending }

-- the same parts, all closed
abbrev pub all_closed : PartsSoFar → PartsSoFar
all_closed parts = record { closed = all_parts parts; pending = [] }

-- the request is for one operation more than the open batch takes
abbrev pub IsOneTooMany : PartsSoFar → Request → Type 0
IsOneTooMany parts (request.Operation op) = IsFull parts
IsOneTooMany parts asked = ⊥

-- an operation joins the open batch, and any other request ends it
abbrev pub parts_with : PartsSoFar → Request → PartsSoFar
parts_with parts (request.Operation op) = with_pending parts op
parts_with parts asked = with_part (all_closed parts) (alone asked)
