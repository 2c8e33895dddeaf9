-- The script of records by recursion, and the same as a relation: one gives the other, both ways.
use Rattle.std.proofs.Common.{◌≡◌, ◌<◌, ◌≤◌, ◌+◌, ◌⊎◌, ◌++◌, ◌∷◌, [], ℕ, List, length, map, Option, Some, None, Result, Ok, Err, refl, sym, ap, ◌∙◌, subst, append-nil, inl, inr, arith}
use Rattle.std.proofs.lemmas.Bool.{cases_lt, le-ltb, lt-ltb}
use Rattle.std.specs.List.{flat_map}
use Rattle.blink_batch.specs.declared.batch.TheConstants.{BATCH_LIMIT}
use Rattle.blink_batch.specs.declared.error.RecordError.{RecordError}
use Rattle.blink_batch.specs.declared.error.ScriptError.{ScriptError}
use Rattle.blink_batch.specs.declared.error.ScriptError.TheVariants.{Row, TooMany}
use Rattle.blink_operation.specs.declared.operation.Op.{Op}
use Rattle.blink_batch.specs.declared.record.Request.{Request}
use Rattle.blink_batch.specs.declared.record.Request.TheVariants as request
use Rattle.blink_batch.specs.declared.script.Part.{Part}
use Rattle.blink_batch.specs.Record.{request_of}
use Rattle.blink_batch.specs.Script.{alone, joined, script_from, script_of, with_alone, with_operation}
use Rattle.blink_batch.specs.ScriptLaw.{HasParts, IsRefused, RefusedAfter, requests_in}
use Rattle.blink_batch.proofs.GroupedParts.{IsNoOperation, MayFollow, alone-follows, alone-open, alone-requests, asks_nothing, begins_alone, follow_from_grouped, full_from_open, grouped_from_follow, joined-follows, joined-open, joined-requests, open_after, open_from_full, unjoined}

-- a request as the meaning of a record
abbrev as_read : Request → Result Request RecordError
as_read asked = Ok asked

abbrev no_rows : List (List (List ℕ))
no_rows = []

cases_meaning : (meaning : Result Request RecordError)
    → ((op : Op) × (meaning ≡ as_read (request.Operation op))) ⊎ ((asked : Request) × IsNoOperation asked × (meaning ≡ as_read asked)) ⊎ ((fault : RecordError) × (meaning ≡ Err fault))
cases_meaning (Ok (request.Operation op)) = inl (op, refl)
cases_meaning (Ok asked) = inr (inl (asked, tt, refl))
cases_meaning (Err fault) = inr (inr (fault, refl))

-- the record of this number is refused, where so many operations are open before it
abbrev RefusedAt : ℕ → ℕ → Result Request RecordError → ScriptError → Type 0
RefusedAt number before (Err fault) error = error ≡ Row number fault
RefusedAt number before (Ok (request.Operation op)) error = (error ≡ TooMany number) × (BATCH_LIMIT ≤ before)
RefusedAt number before (Ok asked) error = ⊥

-- records mean what the parts ask for, and the parts may follow so many operations
abbrev Mean : ℕ → List (List (List ℕ)) → List Part → Type 0
Mean before rows parts = (map request_of rows ≡ map as_read (flat_map requests_in parts)) × MayFollow before parts

-- the first refusal of records that are counted from a number on, behind so many operations
record FirstRefusal (number before : ℕ) (rows : List (List (List ℕ))) (error : ScriptError) : Type 0 where
  prefix : List (List (List ℕ))
  row : List (List ℕ)
  after : List (List (List ℕ))
  in_order : rows ≡ prefix ++ row ∷ after
  parts : List Part
  mean : Mean before prefix parts
  refused : RefusedAt (number + length prefix) (open_after before parts) (request_of row) error

-- ---- what the recursion gives is so of the records

abbrev Tells : ℕ → ℕ → List (List (List ℕ)) → Result (List Part) ScriptError → Type 0
Tells number before rows (Ok parts) = Mean before rows parts
Tells number before rows (Err error) = FirstRefusal number before rows error

-- the first record is refused
refused_first : (number before : ℕ) (row : List (List ℕ)) (rows : List (List (List ℕ))) (error : ScriptError) → RefusedAt number before (request_of row) error → FirstRefusal number before (row ∷ rows) error
refused_first number before row rows error refused =
    let same_number : number + length no_rows ≡ number = omega arith in
    record { prefix = []; row = row; after = rows; in_order = refl; parts = []; mean = (refl, tt); refused = rw same_number refused }

-- what is no operation isn't refused, and is a part before the script of the rest
alone-unrefused : (number before : ℕ) (asked : Request) (error : ScriptError) → IsNoOperation asked → RefusedAt number before (as_read asked) error → ⊥
alone-unrefused number before (request.Operation op) error other refused = other
alone-unrefused number before asked error other refused = refused

script_from-alone : (number before : ℕ) (row : List (List ℕ)) (rows : List (List (List ℕ))) (asked : Request) → IsNoOperation asked → request_of row ≡ as_read asked
    → script_from number before (row ∷ rows) ≡ with_alone (alone asked) (script_from (number + 1) 0 rows)
script_from-alone number before row rows (request.Operation op) other means = absurd other
script_from-alone number before row rows asked other means = rw means refl

-- what is told of records is told with an operation or another part before them
module _ (number before : ℕ) (row : List (List ℕ)) (rows : List (List (List ℕ))) where
  operation_first : (op : Op) (outcome : Result (List Part) ScriptError) → request_of row ≡ as_read (request.Operation op) → before < BATCH_LIMIT
      → Tells (number + 1) (before + 1) rows outcome → Tells number before (row ∷ rows) (with_operation op outcome)
  operation_first op (Ok parts) means room told = (rw (means, told.0, joined-requests op parts) refl, joined-follows before op parts room told.1)
  operation_first op (Err error) means room told =
      let same_number : number + 1 + length told.prefix ≡ number + length (row ∷ told.prefix) = omega arith in
      record {
        prefix = row ∷ told.prefix;
        row = told.row;
        after = told.after;
        in_order = ap (λ r. row ∷ r) told.in_order;
        parts = joined op told.parts;
        mean = (rw (means, told.mean.0, joined-requests op told.parts) refl, joined-follows before op told.parts room told.mean.1);
        refused = rw (← same_number, joined-open before op told.parts) told.refused;
      }

  mean_more : (asked : Request) (records : List (List (List ℕ))) (parts : List Part) → IsNoOperation asked → request_of row ≡ as_read asked → Mean 0 records parts → Mean before (row ∷ records) (alone asked ∷ parts)
  mean_more asked records parts other means mean = (
    ap (λ (m : Result Request RecordError). m ∷ map request_of records) means
        ∙ ap (λ (ms : List (Result Request RecordError)). as_read asked ∷ ms) mean.0
        ∙ ap (map as_read) (sym (alone-requests asked parts)),
    alone-follows before asked parts other mean.1,
  )

  alone_first : (asked : Request) (outcome : Result (List Part) ScriptError) → IsNoOperation asked → request_of row ≡ as_read asked
      → Tells (number + 1) 0 rows outcome → Tells number before (row ∷ rows) (with_alone (alone asked) outcome)
  alone_first asked (Ok parts) other means told = mean_more asked rows parts other means told
  alone_first asked (Err error) other means told =
      let same_number : number + 1 + length told.prefix ≡ number + length (row ∷ told.prefix) = omega arith in
      record {
        prefix = row ∷ told.prefix;
        row = told.row;
        after = told.after;
        in_order = ap (λ r. row ∷ r) told.in_order;
        parts = alone asked ∷ told.parts;
        mean = mean_more asked told.prefix told.parts other means told.mean;
        refused = subst (λ (count : ℕ). RefusedAt (number + length (row ∷ told.prefix)) count (request_of told.row) error)
            (sym (alone-open before asked told.parts other)) (rw (← same_number) told.refused);
      }

script_tells : (number before : ℕ) (rows : List (List (List ℕ))) → Tells number before rows (script_from number before rows)
script_tells number before [] = (refl, tt)
script_tells number before (row ∷ rows) = elim (cases_meaning (request_of row)) [
  | inl op ↦ elim (cases_lt before BATCH_LIMIT) [
    | inl room ↦ rw (op.1, lt-ltb before BATCH_LIMIT room)
        (operation_first number before row rows op.0 (script_from (number + 1) (before + 1) rows) op.1 room (script_tells (number + 1) (before + 1) rows))
    | inr full ↦ rw (op.1, le-ltb before BATCH_LIMIT full) (refused_first number before row rows (TooMany number) (rw op.1 (refl, full)))
  ]
  | inr (inl other) ↦ subst (Tells number before (row ∷ rows)) (sym (script_from-alone number before row rows other.0 other.1 other.2))
      (alone_first number before row rows other.0 (script_from (number + 1) 0 rows) other.1 other.2 (script_tells (number + 1) 0 rows))
  | inr (inr fault) ↦ rw fault.1 (refused_first number before row rows (Row number fault.0) (rw fault.1 refl))
]

-- ---- and what is so of the records the recursion gives

-- the parts, or the refusal that comes behind them
abbrev stopped : List Part → Option ScriptError → Result (List Part) ScriptError
stopped parts None = Ok parts
stopped parts (Some error) = Err error

stopped-operation : (op : Op) (parts : List Part) (stop : Option ScriptError) → with_operation op (stopped parts stop) ≡ stopped (joined op parts) stop
stopped-operation op parts None = refl
stopped-operation op parts (Some error) = refl

stopped-alone : (part : Part) (parts : List Part) (stop : Option ScriptError) → with_alone part (stopped parts stop) ≡ stopped (part ∷ parts) stop
stopped-alone part parts None = refl
stopped-alone part parts (Some error) = refl

script_stops : (number before : ℕ) (prefix rest : List (List (List ℕ))) (requests : List Request) (parts : List Part) (stop : Option ScriptError)
    → map request_of prefix ≡ map as_read requests → flat_map requests_in parts ≡ requests → MayFollow before parts
    → script_from (number + length prefix) (open_after before parts) rest ≡ stopped [] stop → script_from number before (prefix ++ rest) ≡ stopped parts stop
script_stops number before [] rest [] parts stop means ask follow stops =
    let nothing : parts ≡ [] = asks_nothing before parts follow ask in
    let same_number : number + length no_rows ≡ number = omega arith in
    rw nothing (rw (nothing, same_number) at stops)
script_stops number before [] rest (asked ∷ requests) parts stop means ask follow stops = absurd (cc means)
script_stops number before (row ∷ prefix) rest [] parts stop means ask follow stops = absurd (cc means)
script_stops number before (row ∷ prefix) rest (request.Operation op ∷ requests) parts stop means ask follow stops =
    let leads : request_of row ≡ as_read (request.Operation op) = cc means in
    let others : map request_of prefix ≡ map as_read requests = cc means in
    let split = unjoined before op requests parts follow ask in
    let same_number : number + length (row ∷ prefix) ≡ number + 1 + length prefix = omega arith in
    let same_open : open_after before parts ≡ open_after (before + 1) split.others = ap (open_after before) split.together ∙ joined-open before op split.others in
    let later = script_stops (number + 1) (before + 1) prefix rest requests split.others stop others split.their_requests split.follow (rw (same_number, same_open) at stops) in
    rw (leads, lt-ltb before BATCH_LIMIT split.room, later) (stopped-operation op split.others stop ∙ ap (λ p. stopped p stop) (sym split.together))
script_stops number before (row ∷ prefix) rest (asked ∷ requests) parts stop means ask follow stops =
    let leads : request_of row ≡ as_read asked = cc means in
    let others : map request_of prefix ≡ map as_read requests = cc means in
    let split = begins_alone before asked requests parts tt follow ask in
    let same_number : number + length (row ∷ prefix) ≡ number + 1 + length prefix = omega arith in
    let same_open : open_after before parts ≡ open_after 0 split.0 = ap (open_after before) split.1 ∙ alone-open before asked split.0 tt in
    let later = script_stops (number + 1) 0 prefix rest requests split.0 stop others split.2 split.3 (rw (same_number, same_open) at stops) in
    script_from-alone number before row (prefix ++ rest) asked tt leads ∙ ap (with_alone (alone asked)) later ∙ stopped-alone (alone asked) split.0 stop ∙ ap (λ p. stopped p stop) (sym split.1)

-- a record that is refused stops the script
refused_stops : (number before : ℕ) (row : List (List ℕ)) (after : List (List (List ℕ))) (error : ScriptError) → RefusedAt number before (request_of row) error → script_from number before (row ∷ after) ≡ Err error
refused_stops number before row after error refused = elim (cases_meaning (request_of row)) [
  | inl op ↦
      let told : (error ≡ TooMany number) × (BATCH_LIMIT ≤ before) = rw op.1 at refused in
      rw (op.1, le-ltb before BATCH_LIMIT told.1, told.0) refl
  | inr (inl other) ↦ absurd (alone-unrefused number before other.0 error other.1 (rw other.2 at refused))
  | inr (inr fault) ↦ let told : error ≡ Row number fault.0 = rw fault.1 at refused in rw (fault.1, told) refl
]

-- ---- the relations

refused_at : (number : ℕ) (parts : List Part) (meaning : Result Request RecordError) (error : ScriptError) → MayFollow 0 parts → RefusedAfter number parts meaning error → RefusedAt number (open_after 0 parts) meaning error
refused_at number parts (Err fault) error follow refused = refused
refused_at number parts (Ok (request.Operation op)) error follow refused = (refused.0, open_from_full parts follow refused.1)
refused_at number parts (Ok asked) error follow refused = refused

refused_after : (number : ℕ) (parts : List Part) (meaning : Result Request RecordError) (error : ScriptError) → MayFollow 0 parts → RefusedAt number (open_after 0 parts) meaning error → RefusedAfter number parts meaning error
refused_after number parts (Err fault) error follow refused = refused
refused_after number parts (Ok (request.Operation op)) error follow refused = (refused.0, full_from_open parts follow refused.1)
refused_after number parts (Ok asked) error follow refused = refused

pub script_from_parts : (rows : List (List (List ℕ))) (parts : List Part) → HasParts rows parts → script_of rows ≡ Ok parts
script_from_parts rows parts has =
    ap script_of (sym (append-nil rows)) ∙ script_stops 1 0 rows [] (flat_map requests_in parts) parts None has.meanings refl (follow_from_grouped parts has.grouped) refl

pub parts_from_script : (rows : List (List (List ℕ))) (parts : List Part) → script_of rows ≡ Ok parts → HasParts rows parts
parts_from_script rows parts is =
    let told : Mean 0 rows parts = rw is at (script_tells 1 0 rows) in
    record { meanings = told.0; grouped = grouped_from_follow parts told.1 }

pub script_from_refusal : (rows : List (List (List ℕ))) (error : ScriptError) → IsRefused rows error → script_of rows ≡ Err error
script_from_refusal rows error is =
    let follow = follow_from_grouped is.parts is.parts_before.grouped in
    let same_number : length is.before + 1 ≡ 1 + length is.before = omega arith in
    let refused = rw same_number at (refused_at (length is.before + 1) is.parts (request_of is.row) error follow is.refused) in
    let stops = refused_stops (1 + length is.before) (open_after 0 is.parts) is.row is.after error refused in
    rw is.in_order (script_stops 1 0 is.before (is.row ∷ is.after) (flat_map requests_in is.parts) is.parts (Some error) is.parts_before.meanings refl follow stops)

pub refusal_from_script : (rows : List (List (List ℕ))) (error : ScriptError) → script_of rows ≡ Err error → IsRefused rows error
refusal_from_script rows error is =
    let first : FirstRefusal 1 0 rows error = rw is at (script_tells 1 0 rows) in
    let same_number : 1 + length first.prefix ≡ length first.prefix + 1 = omega arith in
    record {
      before = first.prefix;
      row = first.row;
      after = first.after;
      in_order = first.in_order;
      parts = first.parts;
      parts_before = record { meanings = first.mean.0; grouped = grouped_from_follow first.parts first.mean.1 };
      refused = refused_after (length first.prefix + 1) first.parts (request_of first.row) error first.mean.1 (rw same_number at first.refused);
    }
