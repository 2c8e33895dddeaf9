use Rattle.std.proofs.Common.{◌≡◌, ◌∙◌, Option, List, count_by, length, map, ap, sym, subst}
use Rattle.std.proofs.lemmas.Result.{err_from_is_err_and}
use Rattle.blink_batch.specs.declared.Answer.{Answer}
use Rattle.blink_index.specs.{map_of}
use Rattle.blink_store.specs.{PlainStore}
use Rattle.blink_handles.specs.Raw.{raw_given}
use Rattle.blink_handles.specs.Runs.{HasPagesFor, HasRunToEnd, IsRunRefusal, IsStartRefusal}
use Rattle.blink_batch.specs.{answers, is_insert}
use Rattle.blink_handles.proofs.RunOfBatch.{as_many, each_given}
use Rattle.blink_handles.proofs.RunRefusals.{kinds_known, refused_at_start}
use Rattle.blink_handles.proofs.batch.run.Goals as goal

-- there is a place for each answer
pub give_answers-requires : goal.give_answers-requires
give_answers-requires c =
    let places : length c.args.answers.now ≡ length c.args.operations.now = c.if-answers-operations.false in
    places ∙ as_many c.args.operations.now c.in_ok-batch.batch c.in_ok-batch.ensures.batch ∙ sym c.in_ok-world.ensures.ran.one_each
    ∙ ap (λ (given : List (Option Answer)). length given) (sym c.answers.ensures.answers)

pub returns-clause-ran : goal.returns-clause-ran
returns-clause-ran c =
    let ran : HasRunToEnd c.args.index.now c.in_ok-batch.batch c.in_ok-world.world =
    subst (λ (store : PlainStore). HasRunToEnd store c.in_ok-batch.batch c.in_ok-world.world) c.in-Ok.ensures.index c.in_ok-world.ensures.ran in
    record {
      ops = c.in_ok-batch.batch;
      are_operations = c.in_ok-batch.ensures.batch;
      within_limit = c.in_ok-batch.ensures.limit;
      same_answers = c.give_answers.ensures ∙ ap (λ (given : List (Option Answer)). map raw_given given) (c.answers.ensures.answers ∙ ran.same_answers)
          ∙ each_given (answers (map_of c.args.index.now) c.in_ok-batch.batch);
      same_fan = ap (λ (store : PlainStore). store.fan) (c.from_rest.ensures ∙ c.into_rest.ensures.tree) ∙ ran.same_fan;
      same_map = ap (λ (store : PlainStore). map_of store) (c.from_rest.ensures ∙ c.into_rest.ensures.tree) ∙ ran.same_map;
      few_pages = subst (HasPagesFor (count_by is_insert c.in_ok-batch.batch) c.args.index.now) (sym (c.from_rest.ensures ∙ c.into_rest.ensures.tree)) ran.few_pages;
    }

-- no memory for the copy
pub returns-in_default-clause-refused : goal.returns-in_default-clause-refused
returns-in_default-clause-refused c =
    let places : length c.args.answers.now ≡ length c.args.operations.now = c.if-answers-operations.false in
    (places, (c.in_ok-batch.ensures.limit, kinds_known c.args.operations.now c.in_ok-batch.batch c.in_ok-batch.ensures.batch))

-- the batch isn't run
pub returns-in_err-world-clause-refused : goal.returns-in_err-world-clause-refused
returns-in_err-world-clause-refused c =
    let passed = err_from_is_err_and c.from_residual-in_err-world.result c.from_residual-in_err-world.ensures.1 in
    let why = subst (λ (store : PlainStore). IsStartRefusal store c.in_ok-batch.batch c.in_err-world.field-0.0) c.in-Ok.ensures.index c.in_err-world.ensures.refused in
    rw passed.1 (subst (IsRunRefusal c.args.index.now c.args.operations.now (length c.args.answers.now)) (sym passed.2)
    (refused_at_start c.args.index.now c.args.operations.now (length c.args.answers.now) c.in_ok-batch.batch c.if-answers-operations.false
    c.in_ok-batch.ensures.limit c.in_ok-batch.ensures.batch c.in_err-world.field-0.0 why))
