use Rattle.std.proofs.Common.{◌≡◌, Option, List, length, ap, subst, ◌∙◌}
use Rattle.blink_batch.specs.declared.Answer.{Answer}
use Rattle.blink_steps.specs.World.{PlainWorld}
use Rattle.blink_steps.proofs.worlds.WorldPromises.{promises, shaped}
use Rattle.blink_steps.proofs.world.World.answers.Goals as goal

pub returns-clause-one_each : goal.returns-clause-one_each
returns-clause-one_each c =
    ap (λ (xs : List (Option Answer)). length xs) c.answers.ensures
    ∙ ap (λ (world : PlainWorld). length world.run.outcome.answers) c.self.view_is
    ∙ subst (λ (world : PlainWorld). length world.run.outcome.answers ≡ length world.run.ops) c.self.view_is
    (shaped (record { run = c.self.inside.run; schedule = c.self.inside.schedule.items }) c.self.invariant).an_answer_each

pub returns-clause-promised : goal.returns-clause-promised
returns-clause-promised c start is_world = promises start _ is_world
