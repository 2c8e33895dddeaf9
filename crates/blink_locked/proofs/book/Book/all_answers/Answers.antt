use Rattle.std.proofs.Common.{All, IfOk, IsSome, List, Option, Some, length, map, sym, ap, ◌∙◌, ◌≡◌, subst}
use Rattle.blink_batch.specs.declared.Answer.{Answer}
use Rattle.blink_locked.specs.Book.{PlainBook}
use Rattle.blink_steps.specs.{HasEnded}
use Rattle.blink_steps.proofs.Offered.{all_some}
use Rattle.blink_locked.proofs.book.Book.all_answers.Goals as goal

pub all_of-requires : goal.all_of-requires
all_of-requires g c =
    let ended = subst (λ (book : PlainBook). HasEnded book.world.run) (sym c.self.view_is) c.requires in
    let kept = c.answers.ensures.promised _ c.self.invariant.0.is_world in
    let one_each = ap (λ (given : List (Option Answer)). length given) (sym c.answers.ensures.answers) ∙ c.answers.ensures.one_each in
    subst (λ (given : List (Option Answer)). All (λ (answer : Option Answer). IsSome answer) given) (sym c.answers.ensures.answers)
    (all_some c.self.inside.world.run one_each (kept.ended ended).all_answered)

pub returns : goal.returns
returns g c =
    subst (λ (given : List (Option Answer)). IfOk c.all_of.result (λ answers. given ≡ map Some answers.items))
    (c.answers.ensures.answers ∙ ap (λ (book : PlainBook). book.world.run.outcome.answers) c.self.view_is) c.all_of.ensures
