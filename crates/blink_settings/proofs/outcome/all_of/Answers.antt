use Rattle.std.proofs.Common.{◌∙◌, ◌++◌, ◌∷◌, [], List, Option, Some, None, IsSome, take, sym, ap, arith}
use Rattle.std.proofs.lemmas.List.{map-append, take_all, take_more}
use Rattle.std.proofs.lemmas.List.Elements.{All-get_or}
use Rattle.blink_batch.specs.declared.Answer.{Answer}
use Rattle.blink_settings.proofs.outcome.all_of.Goals as goal

-- each place has an answer
pub unwrap-requires : goal.unwrap-requires
unwrap-requires c = All-get_or (λ (answer : Option Answer). IsSome answer) c.args.given.now c.loop-answer.answer-index None (omega (arith, c.loop-answer-test.true)) c.requires

-- one answer more
pub loop-answer-preserved : goal.loop-answer-preserved
loop-answer-preserved c =
    let so_far = c.loop-answer.invariant in
    let given : List (Option Answer) = c.args.given.now in
    let prefix : List (Option Answer) = take c.loop-answer.answer-index given in
    record {
      first_answers = rw c.push_reserved.ensures.items
          (map-append Some c.loop-answer.answers.items (c.unwrap.result ∷ [])
          ∙ ap (λ (answers : List (Option Answer)). answers ++ Some c.unwrap.result ∷ []) so_far.first_answers
          ∙ ap (λ (answer : Option Answer). prefix ++ answer ∷ []) (sym c.unwrap.ensures)
          ∙ sym (take_more given c.loop-answer.answer-index None (omega (arith, c.loop-answer-test.true))));
      room = omega (arith, so_far.room, c.push_reserved.ensures.capacity);
      as_many = omega (arith, so_far.as_many, c.push_reserved.ensures.len);
    }

-- all answers
pub returns : goal.returns
returns c = sym (c.loop-answer.invariant.first_answers ∙ take_all c.loop-answer.answer-index c.args.given.now (omega (arith, c.loop-answer-test.false)))
