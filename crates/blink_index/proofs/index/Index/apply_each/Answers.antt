use Rattle.std.proofs.Common.{◌≡◌, ◌∙◌, ℕ, [], ◌∷◌, length, take, length-append, get_or, slice_get, sym, ap, subst, arith}
use Rattle.std.proofs.lemmas.Option.{slice_get-get_or}
use Rattle.blink_operation.specs.declared.Op.TheVariants.{Find}
use Rattle.blink_operation.specs.{answers, map_after_all}
use Rattle.blink_store.specs.{PlainStore}
use Rattle.blink_index.specs.Edit.{HasPagesFor, IsEditRefusal}
use Rattle.blink_index.specs.Edit.StopsEdits.{for_next}
use Rattle.blink_entries.specs.Index.{map_of}
use Rattle.blink_index.proofs.OneOperationMore.{answers-one_more, map_after_all-one_more, one_more_page_for}
use Rattle.blink_index.proofs.index.Index.apply_each.Goals as goal

-- one operation more is carried out and answered
pub loop-op-preserved : goal.loop-op-preserved
loop-op-preserved c = record {
  answered = rw (c.push_reserved.ensures.items, c.loop-op.invariant.answered, c.in-Ok.ensures.answer, c.loop-op.invariant.carried_out)
      (sym (answers-one_more _ c.args.ops.now c.loop-op.op-index (Find 0) c.loop-op-test.true));
  counted = omega (arith, ap length c.push_reserved.ensures.items, length-append c.loop-op.given.items (c.in-Ok.answer ∷ []), c.loop-op.invariant.counted);
  room = omega (arith, c.loop-op.invariant.room, c.push_reserved.ensures.capacity);
  carried_out = rw (c.in-Ok.ensures.map, c.loop-op.invariant.carried_out)
      (sym (map_after_all-one_more _ c.args.ops.now c.loop-op.op-index (Find 0) c.loop-op-test.true));
  kept = c.edit.ensures.kept;
  few_pages = one_more_page_for c.args.ops.now c.loop-op.op-index (Find 0) c.args.self.now c.loop-op.self c.edit.new.self c.loop-op-test.true c.loop-op.invariant.few_pages c.edit.ensures.few_pages;
  same_fan = c.edit.ensures.same_fan ∙ c.loop-op.invariant.same_fan;
}

-- as many are answered as were carried out
pub returns-clause-answers : goal.returns-clause-answers
returns-clause-answers c =
    let before = c.loop-op.invariant in
    subst (λ (n : ℕ). c.loop-op.given.items ≡ answers (map_of c.args.self.now) (take n c.args.ops.now)) (sym before.counted) before.answered

pub returns-clause-map : goal.returns-clause-map
returns-clause-map c =
    let before = c.loop-op.invariant in
    c.compact_if_sparse.ensures.map ∙ subst (λ (n : ℕ). map_of c.loop-op.self ≡ map_after_all (map_of c.args.self.now) (take n c.args.ops.now)) (sym before.counted) before.carried_out

pub returns-clause-few_pages : goal.returns-clause-few_pages
returns-clause-few_pages c =
    let before = c.loop-op.invariant in
    let few : HasPagesFor (take (length c.loop-op.given.items) c.args.ops.now) c.args.self.now c.loop-op.self = subst (λ (n : ℕ). HasPagesFor (take n c.args.ops.now) c.args.self.now c.loop-op.self) (sym before.counted) before.few_pages in
    omega (arith, few, c.compact_if_sparse.ensures.no_more_pages)

pub returns-in-Err-clause-answers : goal.returns-in-Err-clause-answers
returns-in-Err-clause-answers c =
    let before = c.loop-op.invariant in
    subst (λ (n : ℕ). c.loop-op.given.items ≡ answers (map_of c.args.self.now) (take n c.args.ops.now)) (sym before.counted) before.answered

pub returns-in-Err-clause-map : goal.returns-in-Err-clause-map
returns-in-Err-clause-map c =
    let before = c.loop-op.invariant in
    ap map_of c.in-Err.ensures.unchanged ∙ subst (λ (n : ℕ). map_of c.loop-op.self ≡ map_after_all (map_of c.args.self.now) (take n c.args.ops.now)) (sym before.counted) before.carried_out

pub returns-in-Err-clause-few_pages : goal.returns-in-Err-clause-few_pages
returns-in-Err-clause-few_pages c =
    let before = c.loop-op.invariant in
    subst (λ (store : PlainStore). HasPagesFor (take (length c.loop-op.given.items) c.args.ops.now) c.args.self.now store) (sym c.in-Err.ensures.unchanged)
    (subst (λ (n : ℕ). HasPagesFor (take n c.args.ops.now) c.args.self.now c.loop-op.self) (sym before.counted) before.few_pages)

-- the operation next to those carried out is refused
pub returns-in-Err-clause-refused : goal.returns-in-Err-clause-refused
returns-in-Err-clause-refused c =
    let next = get_or c.args.ops.now c.loop-op.op-index (Find 0) in
    let there = slice_get-get_or c.args.ops.now c.loop-op.op-index (Find 0) c.loop-op-test.true in
    for_next next (ap (slice_get c.args.ops.now) c.loop-op.invariant.counted ∙ there)
    (subst (λ (store : PlainStore). IsEditRefusal store next c.in-Err.refusal) (sym c.in-Err.ensures.unchanged) c.in-Err.ensures.refused)
