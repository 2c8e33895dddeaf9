use Rattle.std.proofs.Common.{◌≡◌, ◌<◌, ◌↔◌, ℕ, length, Bool, true, false, not, IsTrue, Some, None, refl, ap, ◌∙◌}
use Rattle.std.specs.List.{slice_get}
use Rattle.blink_steps.proofs.runs.TurnFromItsParts.{seat_found}
use Rattle.blink_steps.specs.Pick.{WouldMove, WouldWait}
use Rattle.blink_steps.specs.Run.{PlainRun, idle_seat}
use Rattle.blink_steps.specs.declared.seat.WorkerState.{WorkerState}
use Rattle.blink_steps.proofs.run.Run.would_move.Goals as goal
use Rattle.blink_steps.proofs.run.Run.would_move.Goals.{After-is_at_end}

-- the seat that is read
found : (c : After-is_at_end) → slice_get c.args.self.now.seats c.args.worker ≡ Some c.index-seat.result.now
found c =
    let within : c.args.worker < length c.self.inside.seats.items = rw (← c.self.view_is) at c.requires in
    rw (← c.self.view_is) (seat_found c.self.inside.seats.items c.from.result c.args.worker c.index-seat.result.now c.from.ensures within c.index-seat.ensures)

-- a worker that is not at its lane's end would move, unless it would wait
moves_unless_waits : (run : PlainRun) (worker : ℕ) (seat : WorkerState) (waits : Bool) → slice_get run.seats worker ≡ Some seat → (seat ≡ idle_seat None → ⊥) → (IsTrue waits ↔ WouldWait run worker)
    → IsTrue (not waits) ↔ WouldMove run worker
moves_unless_waits run worker seat true seated other told = (λ no_wait. absurd (cc), λ moves. absurd (moves.not_waiting (told.0 refl)))
moves_unless_waits run worker seat false seated other told = (λ no_wait. record { not_waiting = λ would. (let waits = told.1 would in absurd (cc)); not_at_end = λ at_end. other (cc) }, λ moves. refl)

pub returns-then-not-is_at_end : goal.returns-then-not-is_at_end
returns-then-not-is_at_end c =
    let seen = (goal.at.returns-then-not-is_at_end c).After-is_at_end in
    let other : c.index-seat.result.now ≡ idle_seat None → ⊥ = λ at_end. (let is = c.is_at_end.ensures.1 at_end in absurd (cc)) in
    moves_unless_waits c.args.self.now c.args.worker c.index-seat.result.now c.waits.result (found seen) other c.waits.ensures

pub returns-else-not-is_at_end : goal.returns-else-not-is_at_end
returns-else-not-is_at_end c =
    let seen = (goal.at.returns-else-not-is_at_end c).After-is_at_end in
    let at_end : c.index-seat.result.now ≡ idle_seat None = c.is_at_end.ensures.0 c.if-not-is_at_end.false in
    (λ moves. absurd (cc), λ moves. absurd (moves.not_at_end (found seen ∙ ap Some at_end)))
