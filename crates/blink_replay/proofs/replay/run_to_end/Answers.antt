use Rattle.std.proofs.Common.{◌∙◌, List, Option, All, IsSome, length, ap, sym, subst}
use Rattle.blink_batch.specs.declared.Answer.{Answer}
use Rattle.blink_replay.proofs.ReplayOfBatch.{all_answered}
use Rattle.blink_replay.proofs.replay.run_to_end.Goals as goal

-- every operation has its answer
pub all_of-requires : goal.all_of-requires
all_of-requires c =
    let of_some = c.schedule-of_its_schedule.ensures.of_its_schedule in
    subst (λ (given : List (Option Answer)). All (λ (answer : Option Answer). IsSome answer) given) (sym c.answers.ensures.answers)
    (all_answered of_some.0 c.finish.new.self of_some.1 c.finish.ensures.promised c.in_ok-finish.ensures.ended (ap (λ (given : List (Option Answer)). length given) (sym c.answers.ensures.answers) ∙ c.answers.ensures.one_each))

pub returns-clause-ran : goal.returns-clause-ran
returns-clause-ran c =
    let traced = c.in_ok-trace_steps.ensures.traced in (
      traced.0,
      record {
        replayed = c.trace_steps.new.world;
        traced = traced.1;
        picked = c.finish.ensures.picked;
        same_start = c.finish.ensures.same_start;
        same_batch = c.finish.ensures.same_batch;
        promised = c.finish.ensures.promised;
        ended = c.in_ok-finish.ensures.ended;
        all_given = sym c.answers.ensures.answers ∙ c.in_ok-all_of.ensures;
      },
      traced.2,
    )
