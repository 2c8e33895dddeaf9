use Rattle.std.proofs.Common.{◌≡◌, true, Some, subst, sym}
use Rattle.std.specs.Prelude.{slice_get}
use Rattle.blink_steps.specs.{WouldWait}
use Rattle.blink_locked.specs.Book.{PlainBook}
use Rattle.blink_locked.proofs.BooksGoOn.{is_worker}
use Rattle.blink_locked.proofs.BookTurns.{takes_turn}
use Rattle.blink_locked.proofs.book.Book.turn_of_own.Goals as goal

-- the operation's worker is one of the run's
pub waits-requires : goal.waits-requires
waits-requires g c =
    is_worker _ c.self.inside.world c.self.invariant.0.is_world c.args.worker c.args.op
    (subst (λ (book : PlainBook). slice_get book.world.run.assignment.lanes c.args.op ≡ Some c.args.worker) (sym c.self.view_is) c.requires.own)

pub returns : goal.returns
returns g c =
    takes_turn c.args.self.now c.args.worker c.args.op c.has_ended.result c.waits.result c.step.result c.step.new.self c.if-has_ended.false c.has_ended.ensures.ended
    c.has_ended.ensures.has_more c.if-waits.false
    (subst (λ (book : PlainBook). (c.waits.result ≡ true → WouldWait book.world.run c.args.worker) × (WouldWait book.world.run c.args.worker → c.waits.result ≡ true)) c.self.view_is c.waits.ensures)
    c.step.ensures
