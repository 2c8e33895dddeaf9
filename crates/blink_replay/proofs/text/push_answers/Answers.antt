use Rattle.std.proofs.Common.{◌∙◌, ◌++◌, List, ℕ, get_or, take, string_bytes, append-nil, sym, ap, arith}
use Rattle.std.proofs.lemmas.List.{flat_map_more, take_all, take_more}
use Rattle.blink_batch.specs.declared.Answer.{Answer}
use Rattle.blink_batch.specs.declared.Answer.TheVariants.{Found}
use Rattle.blink_batch.specs.{line_of, text_of}
use Rattle.blink_replay.proofs.text.push_answers.Goals as goal

-- no line is added yet
pub loop-answer-init : goal.loop-answer-init
loop-answer-init c = sym (append-nil (string_bytes c.args.text.now))

-- one line more
pub loop-answer-preserved : goal.loop-answer-preserved
loop-answer-preserved c =
    let answers : List Answer = c.args.answers.now in
    let answer : Answer = get_or answers c.loop-answer.answer-index (Found 0) in
    let more = take_more answers c.loop-answer.answer-index (Found 0) (omega (arith, c.loop-answer-test.true)) in
    c.in_ok-writeln.ensures.bytes
    ∙ ap (λ (told : List ℕ). told ++ line_of answer) c.loop-answer.invariant
    ∙ flat_map_more line_of (string_bytes c.args.text.now) (take c.loop-answer.answer-index answers) answer
    ∙ ap (λ (prefix : List Answer). string_bytes c.args.text.now ++ text_of prefix) (sym more)

-- all lines are added
pub returns : goal.returns
returns c = c.loop-answer.invariant ∙ ap (λ (prefix : List Answer). string_bytes c.args.text.now ++ text_of prefix) (take_all c.loop-answer.answer-index c.args.answers.now (omega (arith, c.loop-answer-test.false)))
