use Rattle.std.proofs.Common.{◌≡◌, ◌∙◌, ℕ, List, Option, Some, Ok, refl, sym, ap, inl, inr, true}
use Rattle.std.proofs.lemmas.Result.{IfOk-weaker, MatchResult-weaker}
use Rattle.std.specs.Prelude.{option_map}
use Rattle.csv.specs.Reading.{error_kind, source_of, strip_bom}
use Rattle.csv.specs.declared.error.ErrorKind.{ErrorKind}
use Rattle.csv.specs.declared.error.ErrorKind.TheVariants as kind
use Rattle.csv.specs.Records.{fields_of}
use Rattle.blink_batch.specs.declared.error.ScriptError.TheVariants.{OutOfMemory, TooMany}
use Rattle.blink_batch.specs.Parts.{IsOneTooMany, all_parts}
use Rattle.blink_batch.specs.Script.{TellsRefusal, records_of, refusal_of, script_of}
use Rattle.blink_batch.proofs.ScriptReadSoFar.{begins, stays_set_up, reads_more, refused_here, all_read}
use Rattle.blink_batch.proofs.ScriptStillToRead.{cases_too_many}
use Rattle.blink_batch.proofs.script.read_records.Goals as goal

-- nothing is read yet
pub loop-number-init : goal.loop-number-init
loop-number-init g c = record {
  set_up = c.requires.set_up;
  has_read = λ text known. rw c.new-parts.ensures (begins g.R.Read.remaining c.args.reader.now text c.requires.state known);
}

-- the record that is read means nothing
pub returns-in-Err-read_request-clause-refusal : goal.returns-in-Err-read_request-clause-refusal
returns-in-Err-read_request-clause-refusal g c = λ to_read source text known.
    let so_far = c.loop-number.invariant in
    let read = rw c.in-Ok-true.field-0-test at (c.in-Ok-true.ensures.reads so_far.set_up.no_trim so_far.set_up.ready) in
    let means = sym c.read_request.ensures ∙ c.in-Err-read_request.is in
    refused_here g.R.Read.remaining c.loop-number.reader c.read_byte_record.new.self (fields_of c.read_byte_record.new.row) so_far.set_up text c.loop-number.number c.loop-number.parts
    (so_far.has_read text (source ∙ ap (option_map strip_bom) known)) _ _ read means refl

-- the record that is read is one operation too many, or memory is refused
pub returns-in-Err-take-clause-refusal : goal.returns-in-Err-take-clause-refusal
returns-in-Err-take-clause-refusal g c =
    let so_far = c.loop-number.invariant in
    let read = rw c.in-Ok-true.field-0-test at (c.in-Ok-true.ensures.reads so_far.set_up.no_trim so_far.set_up.ready) in
    let means = sym c.read_request.ensures ∙ c.in-Ok.is in
    elim (cases_too_many c.loop-number.parts c.in-Ok.request) [
      | inl full ↦
          let told : c.in-Err-take.error ≡ TooMany c.loop-number.number = cc (c.in-Err-take.is, c.take.ensures.too_many.1 full) in
          rw told (λ to_read source text known. refused_here g.R.Read.remaining c.loop-number.reader c.read_byte_record.new.self (fields_of c.read_byte_record.new.row) so_far.set_up text
          c.loop-number.number c.loop-number.parts (so_far.has_read text (source ∙ ap (option_map strip_bom) known)) _ _ read means (refl, full))
      | inr room ↦
          let told : c.in-Err-take.error ≡ OutOfMemory = rw c.in-Err-take.is at (c.take.ensures.memory room) in
          rw told (λ to_read source. tt)
    ]

-- one record more is read
pub loop-number-preserved : goal.loop-number-preserved
loop-number-preserved g c =
    let so_far = c.loop-number.invariant in
    let read = rw c.in-Ok-true.field-0-test at (c.in-Ok-true.ensures.reads so_far.set_up.no_trim so_far.set_up.ready) in
    let means = sym c.read_request.ensures ∙ c.in-Ok.is in
    let few : ¬ IsOneTooMany c.loop-number.parts c.in-Ok.request = λ full. cc (c.in-Ok-take.is, c.take.ensures.too_many.1 full) in
    record {
      set_up = stays_set_up g.R.Read.remaining c.loop-number.reader c.read_byte_record.new.self (fields_of c.read_byte_record.new.row) so_far.set_up true read
          (c.in-Ok-true.ensures.ready so_far.set_up.no_trim) c.in-Ok-true.ensures.flexible;
      has_read = λ text known. rw (rw c.in-Ok-take.is at c.take.ensures.taken) (reads_more g.R.Read.remaining c.loop-number.reader c.read_byte_record.new.self
          (fields_of c.read_byte_record.new.row) so_far.set_up text c.loop-number.number c.loop-number.parts (so_far.has_read text known) c.in-Ok.request read means few);
    }

-- every record is read
pub returns-in-Ok-false-clause-script : goal.returns-in-Ok-false-clause-script
returns-in-Ok-false-clause-script g c =
    let so_far = c.loop-number.invariant in
    let read = rw c.in-Ok-false.field-0-test at (c.in-Ok-false.ensures.reads so_far.set_up.no_trim so_far.set_up.ready) in
    let whole : (text : List ℕ) → source_of g.R.Read.remaining c.args.reader.now ≡ Some (strip_bom text) → script_of (records_of text) ≡ Ok (all_parts c.loop-number.parts) = λ text known.
    all_read g.R.Read.remaining c.loop-number.reader c.read_byte_record.new.self (fields_of c.read_byte_record.new.row) so_far.set_up text c.loop-number.number c.loop-number.parts
    (so_far.has_read text known) read in
    IfOk-weaker c.into_script.result _ _ (λ made its_parts to_read source text known. rw its_parts (whole text (source ∙ ap (option_map strip_bom) known))) c.into_script.ensures.parts

-- only memory is refused now
pub returns-in-Ok-false-clause-refusal : goal.returns-in-Ok-false-clause-refusal
returns-in-Ok-false-clause-refusal g c = MatchResult-weaker c.into_script.result c.into_script.ensures.memory (λ made here. here) (λ error only. rw only (λ to_read source. tt))

pub returns-in-Ok-false-clause-readable : goal.returns-in-Ok-false-clause-readable
returns-in-Ok-false-clause-readable g c = MatchResult-weaker c.into_script.result c.into_script.ensures.memory (λ made here. here) (λ error only. rw only tt)

-- a record that csv could not give tells nothing of the text
tells_nothing : (to_read : Option (List ℕ)) (number : ℕ) (why : ErrorKind) → TellsRefusal to_read (refusal_of number why)
tells_nothing to_read number (kind.Io error) = tt
tells_nothing to_read number kind.OutOfMemory = tt
tells_nothing to_read number (kind.Utf8 place error) = tt
tells_nothing to_read number (kind.UnequalLengths place expected len) = tt
tells_nothing to_read number (kind.Serialize text) = tt
tells_nothing to_read number (kind.Deserialize place error) = tt

pub returns-in-Err-clause-refusal : goal.returns-in-Err-clause-refusal
returns-in-Err-clause-refusal g c = rw c.refusal.ensures (λ to_read source. tells_nothing to_read c.loop-number.number (error_kind c.in-Err.error))
