use Rattle.std.proofs.Common.{◌<◌, ◌+◌, get_or, length, set, slice_get, refl, sym, ap, subst, ◌∙◌, arith}
use Rattle.std.proofs.lemmas.List.{length-set}
use Rattle.std.proofs.lemmas.Option.{slice_get-get_or}
use Rattle.blink_store.specs.{PlainStore}
use Rattle.blink_index.specs.{IsEditRefusal}
use Rattle.blink_handles.specs.declared.raw.RawAnswer.{RawAnswer}
use Rattle.blink_handles.specs.declared.raw.RawOperation.{RawOperation}
use Rattle.blink_handles.specs.Edits.{HasApplied}
use Rattle.blink_handles.proofs.AppliedSoFar.{one_more_applied}
use Rattle.blink_handles.proofs.apply.apply.Goals as goal

-- there aren't as many places as operations
pub returns-then-answers-operations-clause-refused : goal.returns-then-answers-operations-clause-refused
returns-then-answers-operations-clause-refused c = (c.if-answers-operations.true, refl)

-- the next operation is of no kind
pub returns-in_default-clause-refused : goal.returns-in_default-clause-refused
returns-in_default-clause-refused c =
    let d : RawOperation = record { kind = 0; key = 0; pointer = 0 } in
    let raws = c.args.operations.now in (
      c.if-answers-operations.false,
      get_or raws c.loop-place.place d,
      ap (slice_get raws) c.loop-place.invariant.counted ∙ slice_get-get_or raws c.loop-place.place d c.loop-place-test.true,
      sym c.op.ensures ∙ c.in_default.is,
    )

-- or it is refused by itself
pub returns-in-Err-TooLarge-clause-refused : goal.returns-in-Err-TooLarge-clause-refused
returns-in-Err-TooLarge-clause-refused c =
    let d : RawOperation = record { kind = 0; key = 0; pointer = 0 } in
    let raws = c.args.operations.now in
    let store = subst (λ (s : PlainStore). IsEditRefusal s c.in-Some.op c.in-Err-TooLarge.field-0) (sym c.in-Err-TooLarge.ensures.unchanged) c.in-Err-TooLarge.ensures.refused in (
      c.if-answers-operations.false,
      c.in-Some.op,
      record {
        raw = get_or raws c.loop-place.place d;
        there = ap (slice_get raws) c.loop-place.invariant.counted ∙ slice_get-get_or raws c.loop-place.place d c.loop-place-test.true;
        is_op = sym c.op.ensures ∙ c.in-Some.is;
      },
      subst (IsEditRefusal c.edit_and_compact.new.self c.in-Some.op) c.in-Err-TooLarge.field-0-is store,
    )

pub returns-in-Err-OutOfMemory-clause-refused : goal.returns-in-Err-OutOfMemory-clause-refused
returns-in-Err-OutOfMemory-clause-refused c =
    let d : RawOperation = record { kind = 0; key = 0; pointer = 0 } in
    let raws = c.args.operations.now in
    let store = subst (λ (s : PlainStore). IsEditRefusal s c.in-Some.op c.in-Err-OutOfMemory.field-0) (sym c.in-Err-OutOfMemory.ensures.unchanged) c.in-Err-OutOfMemory.ensures.refused in (
      c.if-answers-operations.false,
      c.in-Some.op,
      record {
        raw = get_or raws c.loop-place.place d;
        there = ap (slice_get raws) c.loop-place.invariant.counted ∙ slice_get-get_or raws c.loop-place.place d c.loop-place-test.true;
        is_op = sym c.op.ensures ∙ c.in-Some.is;
      },
      subst (IsEditRefusal c.edit_and_compact.new.self c.in-Some.op) c.in-Err-OutOfMemory.field-0-is store,
    )

-- one operation more is carried out
pub loop-place-preserved : goal.loop-place-preserved
loop-place-preserved c =
    let d : RawOperation = record { kind = 0; key = 0; pointer = 0 } in
    let places : c.loop-place.place < length c.loop-place.answers = omega (arith, c.loop-place-test.true, c.loop-place.invariant.as_many) in
    let more = one_more_applied c.args.index.now c.loop-place.index c.edit_and_compact.new.self c.args.operations.now c.loop-place.place c.args.answers.now c.loop-place.answers d c.in-Some.op c.in-Ok.answer
    c.loop-place.invariant.applied c.loop-place-test.true places (sym c.op.ensures ∙ c.in-Some.is) c.in-Ok.ensures.answer c.in-Ok.ensures.map c.in-Ok.ensures.same_fan in
    record {
      applied = subst (λ (given : RawAnswer). HasApplied c.args.index.now c.args.operations.now (c.loop-place.place + 1) c.args.answers.now
          (set c.loop-place.answers c.loop-place.place given) c.edit_and_compact.new.self) (sym c.of.ensures) more;
      as_many = length-set c.loop-place.answers c.loop-place.place c.of.result ∙ c.loop-place.invariant.as_many;
      counted = refl;
    }
