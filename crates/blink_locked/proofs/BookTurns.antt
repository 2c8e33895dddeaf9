-- The turn of a worker whose operation hasn't ended and whose step wouldn't be a wait.
use Rattle.std.proofs.Common.{◌≡◌, ℕ, Bool, true, false}
use Rattle.std.specs.Bool.{OnFalse}
use Rattle.blink_steps.specs.{IsAtLanesEnd, WouldMove, WouldWait}
use Rattle.blink_locked.specs.declared.book.Turn.{Turn}
use Rattle.blink_locked.specs.declared.book.Turn.TheVariants.{Took, Over, Waits, Stopped}
use Rattle.blink_locked.specs.Book.{PlainBook, BookStepsPage, HasEndedOp, Turns}

on_false : (test : Bool) (P : Type 0) → test ≡ false → OnFalse test P → P
on_false true P off told = absurd (cc)
on_false false P off told = told

-- a due step is a turn
due_step : (old : PlainBook) (worker op : ℕ) (turn : Turn) (new : PlainBook) → ¬ HasEndedOp old.world.run worker op → WouldMove old.world.run worker
    → BookStepsPage old worker turn new → Turns old worker op turn new
due_step old worker op (Took kind ended) new goes_on moves due = (goes_on, moves, due)
due_step old worker op Over new goes_on moves due = absurd due
due_step old worker op Waits new goes_on moves due = absurd due
due_step old worker op Stopped new goes_on moves due = (goes_on, moves, due)

-- it is due, since the operation hasn't ended, and the worker doesn't wait
pub takes_turn : (old : PlainBook) (worker op : ℕ) (ended waits : Bool) (turn : Turn) (new : PlainBook) → ended ≡ false
    → (ended ≡ true → HasEndedOp old.world.run worker op) × (HasEndedOp old.world.run worker op → ended ≡ true) → OnFalse ended (¬ IsAtLanesEnd old.world.run worker) → waits ≡ false
    → (waits ≡ true → WouldWait old.world.run worker) × (WouldWait old.world.run worker → waits ≡ true) → BookStepsPage old worker turn new → Turns old worker op turn new
takes_turn old worker op ended waits turn new goes_on exact more moves waits_exact due =
    due_step old worker op turn new (λ has. let answered = exact.1 has in absurd (cc))
    (record { not_waiting = λ wait. let answered = waits_exact.1 wait in absurd (cc); not_at_end = on_false ended _ goes_on more }) due
