use Rattle.std.proofs.Common.{ap}
use Rattle.blink_machine.specs.{has_moved}
use Rattle.blink_locked.proofs.BooksGoOn.{moves_book, stays_book}
use Rattle.blink_locked.proofs.book.Book.step.Goals as goal

pub invariant_of-self : goal.invariant_of-self
invariant_of-self g c = (
  moves_book _ _ _ _ c.step.new.self c.args.worker _ c.self.invariant.0 c.in-Ok-Moved.ensures.goes_on c.in-Ok-Moved.ensures.same_batch (ap has_moved c.in-Ok-Moved.field-0-is),
  c.self.invariant.1,
)

pub invariant_of-self-in-Err : goal.invariant_of-self-in-Err
invariant_of-self-in-Err g c = (stays_book _ _ _ _ c.step.new.self c.self.invariant.0 c.in-Err.ensures.unchanged, c.self.invariant.1)
