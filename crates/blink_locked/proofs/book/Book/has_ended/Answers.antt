use Rattle.std.proofs.Common.{◌≡◌, true, false, is_some, List, Option, Some, None, length, get_or, sym, ap, ◌∙◌, subst, arith}
use Rattle.std.specs.Prelude.{slice_get}
use Rattle.blink_batch.specs.declared.Answer.{Answer}
use Rattle.blink_steps.specs.{IsAtLanesEnd}
use Rattle.blink_locked.specs.Book.{PlainBook, HasEndedOp}
use Rattle.blink_locked.proofs.BooksGoOn.{ended_where_idle, has_more, is_worker, no_answer, own_within}
use Rattle.blink_locked.proofs.book.Book.has_ended.Goals as goal

-- the operation is one of the batch, and each has its place among the answers
pub bounds-answers-op : goal.bounds-answers-op
bounds-answers-op g c =
    let own = subst (λ (book : PlainBook). slice_get book.world.run.assignment.lanes c.args.op ≡ Some c.args.worker) (sym c.self.view_is) c.requires in
    let within = own_within _ c.self.inside.world c.self.invariant.0.is_world c.args.worker c.args.op own in
    omega (arith, within, c.answers.ensures.one_each)

-- who has the operation is one of the run's workers
pub is_idle-requires : goal.is_idle-requires
is_idle-requires g c =
    is_worker _ c.self.inside.world c.self.invariant.0.is_world c.args.worker c.args.op
    (subst (λ (book : PlainBook). slice_get book.world.run.assignment.lanes c.args.op ≡ Some c.args.worker) (sym c.self.view_is) c.requires)

pub returns-then-is_some-clause-ended : goal.returns-then-is_some-clause-ended
returns-then-is_some-clause-ended g c =
    let own = subst (λ (book : PlainBook). slice_get book.world.run.assignment.lanes c.args.op ≡ Some c.args.worker) (sym c.self.view_is) c.requires in
    let within = own_within _ c.self.inside.world c.self.invariant.0.is_world c.args.worker c.args.op own in
    let some : is_some (get_or c.self.inside.world.run.outcome.answers c.args.op None) ≡ true = ap (λ (given : List (Option Answer)). is_some (get_or given c.args.op None)) (sym c.answers.ensures.answers) ∙ sym c.is_some.ensures ∙ c.if-is_some.true in
    subst (λ (book : PlainBook). (c.is_idle.result ≡ true → HasEndedOp book.world.run c.args.worker c.args.op) × (HasEndedOp book.world.run c.args.worker c.args.op → c.is_idle.result ≡ true)) c.self.view_is
    (ended_where_idle c.self.inside.world.run c.args.worker c.args.op c.is_idle.result (omega (arith, within, c.answers.ensures.one_each, ap (λ (given : List (Option Answer)). length given) c.answers.ensures.answers)) some c.is_idle.ensures)

pub returns-else-is_some-clause-ended : goal.returns-else-is_some-clause-ended
returns-else-is_some-clause-ended g c = (
  λ yes. absurd (let not = c.if-is_some.false in cc),
  λ ended. absurd (no_answer c.self.inside.world.run.outcome.answers c.args.op
      (ap (λ (given : List (Option Answer)). is_some (get_or given c.args.op None)) (sym c.answers.ensures.answers) ∙ sym c.is_some.ensures ∙ c.if-is_some.false)
      (subst (λ (book : PlainBook). HasEndedOp book.world.run c.args.worker c.args.op) (sym c.self.view_is) ended).0),
)

pub returns-else-is_some-clause-has_more : goal.returns-else-is_some-clause-has_more
returns-else-is_some-clause-has_more g c =
    let none : is_some (get_or c.self.inside.world.run.outcome.answers c.args.op None) ≡ false = ap (λ (given : List (Option Answer)). is_some (get_or given c.args.op None)) (sym c.answers.ensures.answers) ∙ sym c.is_some.ensures ∙ c.if-is_some.false in
    let is_world = c.self.invariant.0.is_world in
    let own = subst (λ (book : PlainBook). slice_get book.world.run.assignment.lanes c.args.op ≡ Some c.args.worker) (sym c.self.view_is) c.requires in
    let within = own_within _ c.self.inside.world is_world c.args.worker c.args.op own in
    rw c.if-is_some.false
    (subst (λ (book : PlainBook). ¬ IsAtLanesEnd book.world.run c.args.worker) c.self.view_is
    (has_more _ c.self.inside.world is_world c.args.worker c.args.op (c.answers.ensures.promised _ is_world)
    (ap (λ (given : List (Option Answer)). length given) (sym c.answers.ensures.answers) ∙ c.answers.ensures.one_each) own within (λ ended. no_answer c.self.inside.world.run.outcome.answers c.args.op none ended.0)))
