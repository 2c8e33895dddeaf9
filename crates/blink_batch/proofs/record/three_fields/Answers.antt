use Rattle.std.proofs.Common.{◌≡◌, length, sym, arith}
use Rattle.csv.specs.Records.{fields_of}
use Rattle.blink_batch.proofs.FieldsOfThree.{field_there, three}
use Rattle.blink_batch.proofs.record.three_fields.Goals as goal

-- a record of three fields has each of them
pub returns-in_err-get : goal.returns-in_err-get
returns-in_err-get c = absurd (field_there (fields_of c.args.row.now) 0 (omega (arith, c.len.ensures, c.if-len-ne3.false)) (sym (rw c.in_err-get.was at c.get.ensures.value)))

pub returns-in_err-get-2 : goal.returns-in_err-get-2
returns-in_err-get-2 c = absurd (field_there (fields_of c.args.row.now) 1 (omega (arith, c.len.ensures, c.if-len-ne3.false)) (sym (rw c.in_err-get-2.was at c.get-2.ensures.value)))

pub returns-in_err-get-3 : goal.returns-in_err-get-3
returns-in_err-get-3 c = absurd (field_there (fields_of c.args.row.now) 2 (omega (arith, c.len.ensures, c.if-len-ne3.false)) (sym (rw c.in_err-get-3.was at c.get-3.ensures.value)))

pub returns : goal.returns
returns c =
    let long : length (fields_of c.args.row.now) ≡ 3 = omega (arith, c.len.ensures, c.if-len-ne3.false) in
    three (fields_of c.args.row.now) _ _ _ long (sym (rw c.in_ok-get.was at c.get.ensures.value)) (sym (rw c.in_ok-get-2.was at c.get-2.ensures.value)) (sym (rw c.in_ok-get-3.was at c.get-3.ensures.value))
