-- The script of all records from where a reader stands: the parts so far, and the script of the records to come.
use Rattle.std.proofs.Common.{◌≡◌, ◌<◌, ◌+◌, ◌⊎◌, ◌++◌, ◌∷◌, [], ℕ, List, length, length-append, Result, Ok, Err, refl, sym, ap, ◌∙◌, append_assoc, append-nil, inl, inr, arith}
use Rattle.std.proofs.lemmas.Bool.{cases_lt, le-ltb, lt-ltb}
use Rattle.blink_batch.specs.declared.batch.TheConstants.{BATCH_LIMIT}
use Rattle.blink_batch.specs.declared.error.RecordError.{RecordError}
use Rattle.blink_batch.specs.declared.error.ScriptError.{ScriptError}
use Rattle.blink_batch.specs.declared.error.ScriptError.TheVariants.{Row, TooMany}
use Rattle.blink_operation.specs.declared.operation.Op.{Op}
use Rattle.blink_batch.specs.declared.record.Request.{Request}
use Rattle.blink_batch.specs.declared.record.Request.TheVariants as request
use Rattle.blink_batch.specs.declared.script.Part.{Part}
use Rattle.blink_batch.specs.Parts.{IsOneTooMany, PartsSoFar, all_parts, parts_of, parts_with}
use Rattle.blink_batch.specs.Record.{request_of}
use Rattle.blink_batch.specs.Script.{alone, joined, script_from, script_of, with_alone, with_operation}
use Rattle.blink_batch.proofs.GroupedParts.{IsNoOperation}

-- operations before parts, each joined to what follows it
abbrev joined_all : List Op → List Part → List Part
joined_all [] parts = parts
joined_all (op ∷ ops) parts = joined op (joined_all ops parts)

-- one operation more behind them
joined_all-more : (ops : List Op) (op : Op) (parts : List Part) → joined_all (ops ++ op ∷ []) parts ≡ joined_all ops (joined op parts)
joined_all-more [] op parts = refl
joined_all-more (first ∷ ops) op parts = ap (joined first) (joined_all-more ops op parts)

-- before nothing, and before what is no operation, they are a batch of their own
joined-alone : (op : Op) (ops : List Op) → joined op (parts_of ops) ≡ parts_of (op ∷ ops)
joined-alone op [] = refl
joined-alone op (next ∷ ops) = refl

joined_all-alone : (ops : List Op) → joined_all ops [] ≡ parts_of ops
joined_all-alone [] = refl
joined_all-alone (op ∷ ops) = ap (joined op) (joined_all-alone ops) ∙ joined-alone op ops

joined-before : (op : Op) (ops : List Op) (asked : Request) (parts : List Part) → IsNoOperation asked → joined op (parts_of ops ++ alone asked ∷ parts) ≡ parts_of (op ∷ ops) ++ alone asked ∷ parts
joined-before op (next ∷ ops) asked parts other = refl
joined-before op [] (request.Operation join) parts other = absurd other
joined-before op [] asked parts other = refl

joined_all-before : (ops : List Op) (asked : Request) (parts : List Part) → IsNoOperation asked → joined_all ops (alone asked ∷ parts) ≡ parts_of ops ++ alone asked ∷ parts
joined_all-before [] asked parts other = refl
joined_all-before (op ∷ ops) asked parts other = ap (joined op) (joined_all-before ops asked parts other) ∙ joined-before op ops asked parts other

-- ---- the parts so far before what follows

-- the parts so far before the parts that follow, or before a refusal
abbrev with_parts : PartsSoFar → Result (List Part) ScriptError → Result (List Part) ScriptError
with_parts parts (Ok following) = Ok (parts.closed ++ joined_all parts.pending following)
with_parts parts (Err error) = Err error

with_parts-none : (outcome : Result (List Part) ScriptError) → outcome ≡ with_parts (record { closed = []; pending = [] }) outcome
with_parts-none (Ok following) = refl
with_parts-none (Err error) = refl

with_parts-operation : (parts : PartsSoFar) (op : Op) (outcome : Result (List Part) ScriptError)
    → with_parts parts (with_operation op outcome) ≡ with_parts (parts_with parts (request.Operation op)) outcome
with_parts-operation parts op (Ok following) = ap (λ p. Ok (parts.closed ++ p)) (sym (joined_all-more parts.pending op following))
with_parts-operation parts op (Err error) = refl

with_parts-alone : (parts : PartsSoFar) (asked : Request) (outcome : Result (List Part) ScriptError) → IsNoOperation asked
    → with_parts parts (with_alone (alone asked) outcome) ≡ with_parts (parts_with parts asked) outcome
with_parts-alone parts (request.Operation op) outcome other = absurd other
with_parts-alone parts asked (Ok following) other =
    ap Ok (ap (λ p. parts.closed ++ p) (joined_all-before parts.pending asked following other)
    ∙ sym (append_assoc parts.closed (parts_of parts.pending) (alone asked ∷ following))
    ∙ sym (append_assoc (all_parts parts) (alone asked ∷ []) following))
with_parts-alone parts asked (Err error) other = refl

-- ---- record by record

-- whatever records follow these, the next of which has this number, their script is that of the rest behind these parts
abbrev pub HasTaken : List (List (List ℕ)) → ℕ → PartsSoFar → Type 0
HasTaken rows number parts = (rest : List (List (List ℕ))) → script_of (rows ++ rest) ≡ with_parts parts (script_from number (length parts.pending) rest)

-- a record is refused behind these parts: it means nothing, or one operation too many
abbrev pub IsRefusedBehind : PartsSoFar → ℕ → Result Request RecordError → ScriptError → Type 0
IsRefusedBehind parts number (Err fault) error = error ≡ Row number fault
IsRefusedBehind parts number (Ok request) error = (error ≡ TooMany number) × IsOneTooMany parts request

pub cases_too_many : (parts : PartsSoFar) (request : Request) → IsOneTooMany parts request ⊎ (¬ IsOneTooMany parts request)
cases_too_many parts (request.Operation op) = elim (cases_lt (length parts.pending) BATCH_LIMIT) [
  | inl room ↦ inr (λ full. omega arith)
  | inr full ↦ inl full
]
cases_too_many parts asked = inr (λ never. never)

pub takes_nothing : HasTaken [] 1 (record { closed = []; pending = [] })
takes_nothing rest = with_parts-none (script_of rest)

-- the script of the next record and the rest
takes_next : (number : ℕ) (parts : PartsSoFar) (row : List (List ℕ)) (rest : List (List (List ℕ))) (asked : Request) → request_of row ≡ Ok asked → ¬ IsOneTooMany parts asked
    → with_parts parts (script_from number (length parts.pending) (row ∷ rest)) ≡ with_parts (parts_with parts asked) (script_from (number + 1) (length (parts_with parts asked).pending) rest)
takes_next number parts row rest (request.Operation op) means few =
    let room : length parts.pending < BATCH_LIMIT = elim (cases_lt (length parts.pending) BATCH_LIMIT) [ inl room ↦ room | inr full ↦ absurd (few full) ] in
    rw (means, lt-ltb (length parts.pending) BATCH_LIMIT room, length-append parts.pending (op ∷ []))
    (with_parts-operation parts op (script_from (number + 1) (length parts.pending + 1) rest))
takes_next number parts row rest asked means few = rw means (with_parts-alone parts asked (script_from (number + 1) 0 rest) tt)

pub takes_more : (rows : List (List (List ℕ))) (number : ℕ) (parts : PartsSoFar) (row : List (List ℕ)) (asked : Request) → HasTaken rows number parts → request_of row ≡ Ok asked → ¬ IsOneTooMany parts asked
    → HasTaken (rows ++ row ∷ []) (number + 1) (parts_with parts asked)
takes_more rows number parts row asked so_far means few rest =
    ap script_of (append_assoc rows (row ∷ []) rest) ∙ so_far (row ∷ rest) ∙ takes_next number parts row rest asked means few

-- a refusal passes through
pub refuses_next : (rows : List (List (List ℕ))) (number : ℕ) (parts : PartsSoFar) (row : List (List ℕ)) (meaning : Result Request RecordError) (error : ScriptError) → HasTaken rows number parts
    → request_of row ≡ meaning → IsRefusedBehind parts number meaning error → (rest : List (List (List ℕ))) → script_of (rows ++ row ∷ rest) ≡ Err error
refuses_next rows number parts row (Err fault) error so_far means refused rest = so_far (row ∷ rest) ∙ rw (means, refused) refl
refuses_next rows number parts row (Ok (request.Operation op)) error so_far means refused rest =
    so_far (row ∷ rest) ∙ rw (means, le-ltb (length parts.pending) BATCH_LIMIT refused.1, refused.0) refl
refuses_next rows number parts row (Ok asked) error so_far means refused rest = absurd refused.1

-- where no record is left, these are the parts
pub takes_all : (rows : List (List (List ℕ))) (number : ℕ) (parts : PartsSoFar) → HasTaken rows number parts → script_of rows ≡ Ok (all_parts parts)
takes_all rows number parts so_far =
    ap script_of (sym (append-nil rows)) ∙ so_far [] ∙ ap (λ p. Ok (parts.closed ++ p)) (joined_all-alone parts.pending)
