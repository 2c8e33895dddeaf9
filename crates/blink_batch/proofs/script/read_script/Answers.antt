use Rattle.std.proofs.Common.{ap, ◌∙◌, inr, true}
use Rattle.std.proofs.lemmas.Result.{IfOk-weaker, MatchResult-weaker}
use Rattle.csv.specs.Reading.{with_flexible}
use Rattle.blink_batch.proofs.script.read_script.Goals as goal

-- the reader is set up, and has read nothing
pub read_records-requires : goal.read_records-requires
read_records-requires g c =
    let made = c.from_reader-reader.ensures in
    let built = c.flexible.ensures ∙ ap (λ b. with_flexible b true) c.has_headers.ensures in
    record {
      set_up = record {
        no_trim = rw built at made.trim ∙ c.new.ensures.trim;
        ready = inr (inr (rw built at made.has_headers, made.headers));
        config = rw built at made.config ∙ c.new.ensures.config;
        flexible = rw built at made.flexible;
      };
      state = made.state;
    }

-- what it is to read is the argument's
pub returns-clause-script : goal.returns-clause-script
returns-clause-script g c = IfOk-weaker c.read_records.result _ _ (λ made comes. comes (g.R.Read.remaining c.args.reader) c.from_reader-reader.ensures.source) c.read_records.ensures.script

pub returns-clause-refusal : goal.returns-clause-refusal
returns-clause-refusal g c = MatchResult-weaker c.read_records.result c.read_records.ensures.refusal (λ made here. here) (λ error told. told (g.R.Read.remaining c.args.reader) c.from_reader-reader.ensures.source)
