use Rattle.std.proofs.Common.{◌≡◌, ℕ, List, Some}
use Rattle.csv.specs.Reading.{source_of, strip_bom}
use Rattle.blink_batch.specs.Reader.{IsSetUp}
use Rattle.blink_batch.proofs.ScriptReadSoFar.{HasRead}
use Rattle.blink_batch.proofs.script.read_records.Given as goal

-- the reader stands before the record of this number, and what it has read is the parts so far
abbrev pub invariant-loop-number : goal.invariant-loop-number
invariant-loop-number g l = record {
  set_up : IsSetUp l.reader;
  has_read : (text : List ℕ) → source_of g.R.Read.remaining l.fn.reader ≡ Some (strip_bom text) → HasRead g.R.Read.remaining l.reader text l.number l.parts;
}
