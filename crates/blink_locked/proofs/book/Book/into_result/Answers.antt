use Rattle.std.proofs.Common.{Some, map, subst, sym, ◌≡◌}
use Rattle.blink_steps.specs.{HasEnded}
use Rattle.blink_locked.specs.Book.{PlainBook}
use Rattle.blink_locked.proofs.BooksGoOn.{settled}
use Rattle.blink_locked.proofs.book.Book.into_result.Goals as goal

pub returns : goal.returns
returns g c =
    let ended = subst (λ (book : PlainBook). HasEnded book.world.run) (sym c.self.view_is) c.requires.ended in
    let all_given = subst (λ (book : PlainBook). book.world.run.outcome.answers ≡ map Some c.args.given.items) (sym c.self.view_is) c.requires.all_given in
    settled _ _ _ c.self.inside.world c.self.invariant.0 c.into_rest.ensures.promised c.requires.lawful ended c.args.given.items all_given c.into_rest.result c.into_rest.ensures.tree
