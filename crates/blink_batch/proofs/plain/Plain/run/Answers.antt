use Rattle.std.proofs.Common.{get_or, subst, sym, refl, ap, arith, ◌∙◌}
use Rattle.std.proofs.lemmas.List.{take_all}
use Rattle.std.proofs.lemmas.Option.{slice_get-get_or}
use Rattle.std.proofs.lemmas.Result.{err_from_is_err_and}
use Rattle.blink_operation.specs.declared.operation.Op.TheVariants.{Find}
use Rattle.blink_operation.specs.Operation.{AddsEntry, answers, map_after_all}
use Rattle.blink_operation.specs.Operation.StopsForMemory.{for_entry}
use Rattle.blink_batch.proofs.RunOfOneMore.{answers-take_more, map_after_all-take_more}
use Rattle.blink_batch.proofs.plain.Plain.run.Goals as goal

-- one operation more is carried out and answered
pub loop-op-preserved : goal.loop-op-preserved
loop-op-preserved c = record {
  answered = rw (c.push_reserved.ensures.items, c.loop-op.invariant.answered, c.in_ok-answer.ensures.answer, c.loop-op.invariant.carried_out)
      (sym (answers-take_more c.args.self.now c.args.ops.now c.loop-op.op-index (Find 0) c.loop-op-test.true));
  counted = omega (arith, c.loop-op.invariant.counted, c.push_reserved.ensures.len);
  room = omega (arith, c.loop-op.invariant.room, c.push_reserved.ensures.capacity);
  carried_out = rw (c.in_ok-answer.ensures.map, c.loop-op.invariant.carried_out)
      (sym (map_after_all-take_more c.args.self.now c.args.ops.now c.loop-op.op-index (Find 0) c.loop-op-test.true));
}

-- the operation next to those carried out adds an entry
pub returns-in_err-answer-clause-growth : goal.returns-in_err-answer-clause-growth
returns-in_err-answer-clause-growth c =
    let same = c.in_err-answer.ensures.unchanged in
    let next = get_or c.args.ops.now c.loop-op.op-index (Find 0) in
    let told = err_from_is_err_and c.from_residual-in_err-answer.result c.from_residual-in_err-answer.ensures.1 in
    rw told.1 (for_entry c.loop-op.op-index next (slice_get-get_or c.args.ops.now c.loop-op.op-index (Find 0) c.loop-op-test.true)
    (same ∙ c.loop-op.invariant.carried_out)
    (subst (λ left. AddsEntry left next) (sym same) c.in_err-answer.ensures.growth))

-- after an error the map is that of the operations so far
pub returns-in_err-given-clause-prefix : goal.returns-in_err-given-clause-prefix
returns-in_err-given-clause-prefix c =
    let told = err_from_is_err_and c.from_residual.result c.from_residual.ensures.1 in
    rw told.1 (0, refl)

pub returns-in_err-answer-clause-prefix : goal.returns-in_err-answer-clause-prefix
returns-in_err-answer-clause-prefix c =
    let told = err_from_is_err_and c.from_residual-in_err-answer.result c.from_residual-in_err-answer.ensures.1 in
    rw told.1 (c.loop-op.op-index, c.in_err-answer.ensures.unchanged ∙ c.loop-op.invariant.carried_out)

-- no operation is left
pub returns-clause-answers : goal.returns-clause-answers
returns-clause-answers c = c.loop-op.invariant.answered ∙ ap (answers c.args.self.now) (take_all c.loop-op.op-index c.args.ops.now c.loop-op-test.false)

pub returns-clause-map : goal.returns-clause-map
returns-clause-map c = c.loop-op.invariant.carried_out ∙ ap (map_after_all c.args.self.now) (take_all c.loop-op.op-index c.args.ops.now c.loop-op-test.false)
