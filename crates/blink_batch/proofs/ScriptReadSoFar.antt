-- What a reader of a script has read so far, and what it finds next.
use Rattle.std.proofs.Common.{◌≡◌, ◌+◌, ◌++◌, ◌∷◌, [], ℕ, List, Bool, true, false, Option, Some, Result, Ok, Err, refl, sym, ap, ◌∙◌, append_assoc, inl}
use Rattle.csv.specs.Reading.{Reached, ReadRecord, default_config, source_of, strip_bom}
use Rattle.csv.specs.declared.parser.State.TheVariants as st
use Rattle.csv.specs.declared.reader.Reader.{Reader}
use Rattle.csv.proofs.ReadFacts.{rows-more, rows-end}
use Rattle.blink_batch.specs.declared.error.RecordError.{RecordError}
use Rattle.blink_batch.specs.declared.error.ScriptError.{ScriptError}
use Rattle.blink_batch.specs.declared.record.Request.{Request}
use Rattle.blink_batch.specs.Parts.{IsOneTooMany, PartsSoFar, all_parts, parts_with}
use Rattle.blink_batch.specs.Reader.{IsSetUp}
use Rattle.blink_batch.specs.Record.{request_of}
use Rattle.blink_batch.specs.Script.{records_of, script_of}
use Rattle.blink_batch.proofs.RecordsReadArePrefix.{reached_all, reached_prefix}
use Rattle.blink_batch.proofs.ScriptStillToRead.{HasTaken, IsRefusedBehind, refuses_next, takes_all, takes_more, takes_nothing}

-- of the text, the reader has read records that come to these parts, and has these bytes left; the next record has this number
pub record HasRead {R : Type 0} (rem : R → Option (List ℕ)) (reader : Reader R) (text : List ℕ) (number : ℕ) (parts : PartsSoFar) : Type 0 where
  pub rows : List (List (List ℕ))
  pub left : List ℕ
  pub source : source_of rem reader ≡ Some left
  pub reached : Reached default_config st.StartRecord (strip_bom text) rows reader.state left
  pub taken : HasTaken rows number parts

module _ {R : Type 0} (rem : R → Option (List ℕ)) where
  -- a reader that begins has read nothing
  pub begins : (reader : Reader R) (text : List ℕ) → reader.state ≡ st.StartRecord → source_of rem reader ≡ Some (strip_bom text) → HasRead rem reader text 1 (record { closed = []; pending = [] })
  unfolding Reached
  begins reader text state source = record {
    rows = [];
    left = strip_bom text;
    source = source;
    reached = (sym state, refl);
    taken = takes_nothing;
  }

  module _ (a b : Reader R) (fields : List (List ℕ)) (set_up : IsSetUp a) where
    -- a read leaves the reader set up
    pub stays_set_up : (found : Bool) → ReadRecord rem a b found fields → b.first ≡ true → b.flexible ≡ a.flexible → IsSetUp b
    stays_set_up found read took flexible = record {
      no_trim = read.3 ∙ set_up.no_trim;
      ready = inl took;
      config = read.2 ∙ set_up.config;
      flexible = flexible ∙ set_up.flexible;
    }

    module _ (text : List ℕ) (number : ℕ) (parts : PartsSoFar) (so_far : HasRead rem a text number parts) where
      -- one record more is read
      pub reads_more : (asked : Request) → ReadRecord rem a b true fields → request_of fields ≡ Ok asked → ¬ IsOneTooMany parts asked → HasRead rem b text (number + 1) (parts_with parts asked)
      reads_more asked read means few =
          let more = rows-more rem a b fields default_config st.StartRecord (strip_bom text) so_far.left so_far.rows set_up.config so_far.source so_far.reached read in
          record {
            rows = so_far.rows ++ fields ∷ [];
            left = more.0;
            source = more.1;
            reached = more.2;
            taken = takes_more so_far.rows number parts fields asked so_far.taken means few;
          }

      -- the record that is read is the first that is refused
      pub refused_here : (meaning : Result Request RecordError) (error : ScriptError) → ReadRecord rem a b true fields → request_of fields ≡ meaning → IsRefusedBehind parts number meaning error
          → script_of (records_of text) ≡ Err error
      refused_here meaning error read means refused =
          let more = rows-more rem a b fields default_config st.StartRecord (strip_bom text) so_far.left so_far.rows set_up.config so_far.source so_far.reached read in
          let prefix = reached_prefix _ _ _ _ _ more.2 in
          let in_order = prefix.1 ∙ append_assoc so_far.rows (fields ∷ []) prefix.0 in
          ap script_of in_order ∙ refuses_next so_far.rows number parts fields meaning error so_far.taken means refused prefix.0

      -- where no record is left, the parts are all
      pub all_read : ReadRecord rem a b false fields → script_of (records_of text) ≡ Ok (all_parts parts)
      all_read read =
          let ended = rows-end rem a b fields default_config so_far.left set_up.config so_far.source read in
          let all = reached_all _ _ _ _ _ so_far.reached ended in
          ap script_of (sym all) ∙ takes_all so_far.rows number parts so_far.taken
