use Rattle.std.proofs.Common.{sym}
use Rattle.blink_batch.proofs.Numerals.{IsUtf8-numeral, parsed_numeral}
use Rattle.blink_batch.proofs.number.read_number.Goals as goal

-- a numeral is text, and is parsed
pub returns-in-Ok : goal.returns-in-Ok
returns-in-Ok c =
    rw c.ok.ensures.value (parsed_numeral c.args.text.now c.parse.result (rw c.in-Ok.ensures.cases.0 at c.parse.ensures.value.0) (sym c.if-not-is_numeral.ensures))

pub returns-in-Err : goal.returns-in-Err
returns-in-Err c = absurd (c.in-Err.ensures.cases.0 (IsUtf8-numeral c.args.text.now (sym c.if-not-is_numeral.ensures)))
